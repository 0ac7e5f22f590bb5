pub mod Marching
pub mod Lightening
pub mod Labelling
pub mod Finishing
