-- The definitions that the contracts cite, each file after those it uses.
pub mod Figures
pub mod Answer
pub mod Open
pub mod Marking
pub mod Reads
pub mod Whole
pub mod Records
pub mod Between
pub mod Jobs
pub mod Laws
pub mod Calls
