pub mod Sorted
pub mod SortedLaws
