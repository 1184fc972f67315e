pub mod Printing
pub mod CodeLaws
pub mod PrintingLaws
