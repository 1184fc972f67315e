pub mod ComposedMessage
pub mod ComposeFacts
pub mod ComposeLaws
pub mod ComposedFields
pub mod ComposePromise
