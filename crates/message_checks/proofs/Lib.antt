pub mod Layouts
pub mod Contents
