pub mod EachWord
pub mod RequestLaws
pub mod FormedRows
pub mod TakenRows
pub mod FineFiles
mod LineLemmas
mod RowLemmas
mod TopicLemmas
mod RefusalNumberLaws
pub mod AdviceLaws
pub mod RequestFileLaws
mod PathLemmas
