mod Asking
mod Handed
mod Walking
mod WireTurns
