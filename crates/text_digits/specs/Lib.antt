pub mod TableLaws
pub mod DigitTable
