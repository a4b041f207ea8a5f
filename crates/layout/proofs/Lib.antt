pub mod HoldsLaws
pub mod SizeLaws
pub mod SheetLaws
pub mod UniqueLaws
pub mod FirstLaws
pub mod CountLaws
pub mod BarTests
