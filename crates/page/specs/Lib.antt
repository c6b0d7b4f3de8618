-- The definitions that the contracts cite, each file after those it uses.
pub mod Little
pub mod Faults
pub mod Records
pub mod Strokes
pub mod Kinds
pub mod Codes
pub mod Fits
pub mod Steps
pub mod Causes
pub mod Laws
pub mod Walks
pub mod Answers
pub mod Writes
pub mod Appends
