pub mod CommandTests
pub mod CommandFacts
