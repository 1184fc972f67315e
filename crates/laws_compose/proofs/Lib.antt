pub mod ComposeCarries
pub mod PromiseKept
