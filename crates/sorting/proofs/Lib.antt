pub mod RisingLaws
pub mod Settling
pub mod DealLaws
pub mod TallyLaws
pub mod Dealing
pub mod SortLaws
pub mod Numbering
