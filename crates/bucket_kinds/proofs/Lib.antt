pub mod FarReads
pub mod InMemoryLemmas
pub mod MemDeviceLemmas
pub mod OpenNumbers
pub mod Places
pub mod ReadLemmas
