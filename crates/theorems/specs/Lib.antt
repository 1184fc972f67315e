pub mod Theorems
pub mod PurgeTheorems
pub mod LateTheorems
