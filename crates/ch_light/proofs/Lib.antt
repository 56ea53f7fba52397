pub mod Lists
pub mod OpenIds
