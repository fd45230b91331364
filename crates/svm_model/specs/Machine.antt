-- The plain machine: guests, the bus, the APIC, and what an event makes of a world.
pub mod Apic
pub mod ApicRegisters
pub mod ApicTargets
pub mod Bus
pub mod Events
pub mod Guest
pub mod MovedVmcbs
pub mod Notices
pub mod PlainTurn
pub mod Runs
pub mod Shapes
pub mod Turns
pub mod World
