mod FileParts
mod Following
mod Wires
