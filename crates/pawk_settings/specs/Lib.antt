pub mod Limits
pub mod Refusals
pub mod Escapes
pub mod Assignments
pub mod SettingsViews
pub mod ValueLaw
