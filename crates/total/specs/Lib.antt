-- The definitions that the contracts cite, each file after those it uses; then, from Numbers on, the lemmas by which the kinds of total show their laws.
pub mod Laws
pub mod Kinds
pub mod Pairs
pub mod Unlawful
pub mod Whole
pub mod Numbers
pub mod SumLaws
pub mod WorstLaws
pub mod BothLaws
