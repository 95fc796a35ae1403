mod RefusedFiles
pub mod FileDeskLemmas
mod SessionLaws
