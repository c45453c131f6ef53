pub mod Refusals
pub mod Requests
pub mod Streams
pub use Rattle.pawk_device.specs.Device
