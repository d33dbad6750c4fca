mod Tables
mod Lines
mod WantedOrder
