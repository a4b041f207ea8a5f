pub mod FaultLaws
pub mod ReaderLaws
pub mod RowLaws
pub mod Places
pub mod HeadLaws
pub mod CleanLaws
pub mod ReadLaws
pub mod AcceptLaws
