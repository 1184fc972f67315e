pub mod DeliveryPool
pub mod Accepting
pub mod AcceptLaws
pub mod AcceptedLaws
