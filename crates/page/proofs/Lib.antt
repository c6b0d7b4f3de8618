-- The laws that the proofs of the functions cite, each file after those it uses.
pub mod Bytes
pub mod Framing
pub mod Refusing
pub mod Stepping
pub mod Putting
pub mod Kepts
pub mod Coding
pub mod Returning
pub mod Causing
pub mod Payloads
pub mod Judging
pub mod Deciding
pub mod Appending
