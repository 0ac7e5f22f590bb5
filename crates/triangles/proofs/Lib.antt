pub mod TriangleLaws
pub mod Demand3
pub mod PuttingLaws
pub mod FillingLaws
pub mod AnswerLaws
pub mod Built
pub mod Determined
