-- The lemmas that several proofs share, each file after those it uses.
pub mod Fronts
pub mod Tables
pub mod Puts
pub mod Histories
pub mod Lawfuls
pub mod Drawns
