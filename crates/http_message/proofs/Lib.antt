pub mod Headless
pub mod Dated
pub mod Asked
pub mod Literal
pub mod SitePaths
pub mod SiteLaws
pub mod Puts
pub mod Kept
