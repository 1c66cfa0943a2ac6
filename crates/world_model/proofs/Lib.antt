pub mod CellLemmas
pub mod ExampleTotals
pub mod KeyLemmas
pub mod MailLemmas
pub mod MobileLemmas
pub mod PutLemmas
pub mod AbsentLemmas
