pub mod Fitting
pub mod Saying
pub mod Seeding
pub mod Walking
