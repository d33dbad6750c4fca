mod Hearing
mod KeyForms
mod KeyLines
mod Leasts
mod Rounding
