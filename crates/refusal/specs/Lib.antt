-- The definitions that the contracts cite, each file after those it uses.
pub mod Said
pub mod Texts
