mod StreamLemmas
mod WritingLemmas
pub mod LineLemmas
pub mod ClusterFileLemmas
pub mod WellFormedLaws
pub mod FieldsLemmas
pub mod PickLemmas
pub mod ImportTextLemmas
pub mod RecordReading
pub mod WishTextLemmas
pub mod WordsLemmas
pub mod ReportLemmas
pub mod RoomLemmas
pub mod ProposalLemmas
pub mod AnswerTextLemmas
pub mod ReadBackLaws
pub mod FileLemmas
pub mod RecordLemmas
pub mod ExportLemmas
pub mod ExportLaws
pub mod ProposalFileLaws
pub mod SentLaws
