mod Examples
pub mod Cuts
pub mod Numbers
pub mod Sizes
pub mod Scoping
pub mod Adding
pub mod Walking
pub mod Clean
pub mod Listed
pub mod TextWalk
