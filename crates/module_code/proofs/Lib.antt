pub mod FitLaws
pub mod PartsLaws
