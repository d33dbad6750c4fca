pub mod Memory
pub mod Wires
