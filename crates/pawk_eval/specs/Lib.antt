pub mod Amounts
pub mod Contexts
pub mod Flows
