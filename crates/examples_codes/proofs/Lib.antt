pub mod CodeExamples
