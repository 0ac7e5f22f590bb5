pub mod CallLaws
pub mod TurnedCalls
pub mod Determined
