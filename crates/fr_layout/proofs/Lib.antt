pub mod BitsLemmas
pub mod PayloadLemmas
pub mod LeastLemmas
pub mod SignalsLemmas
pub mod LayoutLemmas
pub mod ImageLemmas
mod Rows
