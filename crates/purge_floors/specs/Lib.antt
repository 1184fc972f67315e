pub mod FloorsLaws
