pub mod AppendLaws
pub mod PartLaws
pub mod PutLaws
