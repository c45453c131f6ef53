pub mod Limits
pub mod History
pub mod Rule
pub mod Views
pub mod Claims
pub use Rattle.atomic_table.specs.Seated
