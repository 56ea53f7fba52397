pub mod Outcomes
pub mod Reading
pub mod Ports
pub mod Values
pub mod ValueLaws
pub mod Pairs
pub mod PairLaws
