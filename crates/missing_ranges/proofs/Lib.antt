pub mod MissingLemmas
pub mod HoleLemmas
pub mod FirstLemmas
pub mod Payloads
pub mod ReasonLemmas
pub mod LostLemmas
