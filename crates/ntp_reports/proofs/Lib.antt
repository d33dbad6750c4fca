mod Adding
mod Reports
mod LogLines
mod Lines
