pub mod HostRuns
pub mod HostComposes
