pub mod CallLaws
pub mod HostLaws
pub mod FeedLaws
pub mod FedHosts
pub mod Opened
pub mod SafeCalls
