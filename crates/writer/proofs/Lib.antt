mod BarLaws
mod CheckLaws
mod CourseLaws
mod LabelLaws
mod LengthLaws
mod PutLaws
mod PutSheet
pub mod RowLaws
mod WriteLaws
mod WriterLaws
