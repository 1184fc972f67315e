pub mod HostRuns
pub mod HostComposes
pub mod HostReads
