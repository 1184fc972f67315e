pub mod ConversionTags
pub mod Numbers
pub mod Parts
