pub mod ComposeCases
