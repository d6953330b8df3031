mod Added
mod Checked
