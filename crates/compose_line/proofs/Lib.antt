pub mod OnLine
pub mod HeldLine
