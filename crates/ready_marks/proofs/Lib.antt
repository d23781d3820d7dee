pub mod MarkedReady
pub mod Noted
pub mod Quiet
pub mod Touched
