pub mod Claims
pub mod OwnCalls
