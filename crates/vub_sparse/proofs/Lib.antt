pub mod CellLemmas
pub mod ToldLemmas
pub mod BitLemmas
pub mod StoreLemmas
