pub mod TopsIn
pub mod TopsLaws
pub mod Raising
pub mod RaisingLaws
