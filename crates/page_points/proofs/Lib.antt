pub mod Moves
pub mod Ends
pub mod Machines
pub mod Expansions
pub mod Loads
pub mod Apart
