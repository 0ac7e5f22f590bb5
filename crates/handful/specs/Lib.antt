pub mod Handfuls
