pub mod CommonBits
pub mod ReservedBits
