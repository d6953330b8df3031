mod Faults
mod Outcomes
mod Pushed
