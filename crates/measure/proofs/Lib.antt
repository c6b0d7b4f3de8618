-- The lemmas that several proofs share, each file after those it uses.
pub mod Parts
pub mod Casts
pub mod Serves
pub mod Found
pub mod Products
pub mod Turns
pub mod Heights
pub mod LeastSynchronous
pub mod LeastDistance
