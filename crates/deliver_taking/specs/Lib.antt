pub mod Answer
pub mod Taking
pub mod DeliverCases
pub mod PlaceCases
