pub mod GroupLaws
pub mod PartLaws
pub mod CountingLaws
pub mod NumberLaws
pub mod FoundLaws
pub mod Neighbourhoods
pub mod Handed
pub mod Determined
