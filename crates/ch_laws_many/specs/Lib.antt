pub mod ManyLines
pub mod InOrder
pub mod FeedsAndDials
