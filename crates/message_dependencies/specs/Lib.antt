pub mod DependencyLaws
