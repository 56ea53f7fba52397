pub mod HostReads
pub mod HostLinksRead
pub mod HostItemsRead
pub mod HostEventsRead
pub mod CellReads
pub mod Stays
