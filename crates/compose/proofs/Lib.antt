pub mod Stations
pub mod Refused
