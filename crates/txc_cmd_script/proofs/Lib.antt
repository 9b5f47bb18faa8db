pub mod TreeLemmas
pub mod Orders
pub mod StepLemmas
pub mod ReadLemmas
pub mod ScriptLemmas
pub mod PartLemmas
