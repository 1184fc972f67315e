pub mod Kinds
pub mod KindLaws
pub mod Pairs
pub mod PairLaws
