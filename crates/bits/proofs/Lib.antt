pub mod BitLaws
pub mod OneBit
pub mod TestLaws
