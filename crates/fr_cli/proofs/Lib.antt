mod ShortLines
mod EndedLines
pub mod NumberedLaws
pub mod ScriptLines
pub mod RegisterTaskLaws
pub mod RequestStreamLaws
mod CommandLaws
mod NumberLaws
mod FlagLaws
mod ReportLaws
mod WordLaws
mod TakenRows
mod TakenThere
mod TakenSubs
mod TakenNumbers
mod TakenJobs
mod WordRows
pub mod ScriptRunLaws
mod ScriptRows
pub mod AnsweredLineLaws
pub mod OutputLaws
mod OneOutput
pub mod RunLaws
pub mod EndingLaws
pub mod SingleRequestLaws
pub mod ReadingLaws
pub mod RefusedFiles
pub mod PicturingLaws
pub mod TextLaws
pub mod ServingLaws
pub mod VisitLaws
mod EachFault
mod CheckingLaws
mod HoldingLaws
mod DeedLaws
mod SeriesLaws
mod StopLaws
mod JobLaws
