pub mod PasteLaws
