pub mod MachineView
pub mod MachineParts
pub mod Outside
pub mod Stops
pub mod Runs
pub mod WholeRuns
pub mod inner
