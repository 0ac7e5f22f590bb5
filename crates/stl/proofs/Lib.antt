pub mod WritingLaws
pub mod FileLaws
pub mod AnswerLaws
pub mod RefusalLaws
pub mod CallLaws
pub mod Samples
