pub mod SameOrder
pub mod Run
pub mod RunOrder
