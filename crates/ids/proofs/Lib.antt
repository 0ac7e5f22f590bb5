pub mod MortonLaws
pub mod MaskLaws
pub mod KeyLaws
pub mod Determined
