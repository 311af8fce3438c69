pub mod Contending
pub mod PairRun
pub mod PairHeadline
pub mod Inside
pub mod OneWay
pub mod PairTraces
pub mod PairDrive
