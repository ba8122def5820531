pub mod Multiset
pub mod Toks
pub mod Invariants
