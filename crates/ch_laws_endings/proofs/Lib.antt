pub mod NodeEnds
pub mod CommandEnds
pub mod CellEnds
pub mod WorldEnds
pub mod EntryCauses
pub mod LogEnds
