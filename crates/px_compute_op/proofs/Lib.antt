pub mod Taking
pub mod Apart
pub mod Rows
pub mod Sending
pub mod Moving
pub mod Looking
