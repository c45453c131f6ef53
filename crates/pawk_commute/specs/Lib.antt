pub mod Traces
pub mod Settings
pub mod Agreement
pub mod Commutation
pub mod TracedRuns
pub mod Merging
pub mod Admitted
