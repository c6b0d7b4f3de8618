-- The lemmas that several proofs share, each file after those it uses.
pub mod Codes
pub mod Puts
pub mod Opens
pub mod Markings
pub mod Steps
pub mod Answerings
pub mod Nexts
pub mod Drawings
pub mod Layereds
pub mod Reduces
pub mod EachKind
pub mod Fitting
pub mod Keeping
