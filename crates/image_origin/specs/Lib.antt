pub mod Origins
pub mod ZeroLaws
pub mod OriginParts
