pub mod DigitLaws
pub mod PartLaws
pub mod TextLaws
pub mod PlaceLaws
pub mod AnswerLaws
pub mod RoundTrips
