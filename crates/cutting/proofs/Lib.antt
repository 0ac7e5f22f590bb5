pub mod PutLaws
pub mod MeetLaws
pub mod GoingLaws
pub mod CutRowLaws
pub mod StartLaws
pub mod OwnLaws
pub mod ClosedLaws
pub mod Determined
