pub mod DraftLaws
pub mod PairLaws
pub mod ShapeLaws
