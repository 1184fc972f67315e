pub mod Forms
pub mod FormCases
