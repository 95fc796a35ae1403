pub mod HeadLaws
pub mod ConditionLaws
pub mod RouteLaws
pub mod ReplyLaws
pub mod PlanLaws
pub mod ReadingLaws
pub mod ReadsLaws
pub mod WritesLaws
pub mod ServeLaws
pub mod KeyLaws
mod WorkedRows
pub mod AloneActors
pub mod AlonePictures
pub mod DealingLaws
pub mod ExchangeLaws
pub mod OutcomeLaws
pub mod CompleteLaws
