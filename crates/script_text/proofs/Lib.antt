pub mod Bounds
pub mod HeadLaws
pub mod PartLaws
pub mod PieceLaws
