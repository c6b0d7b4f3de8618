-- The definitions that the contracts cite, each file after those it uses.
pub mod Stroke
pub mod Refusals
pub mod Machine
pub mod Reductions
pub mod History
pub mod Drawn
pub mod Trays
