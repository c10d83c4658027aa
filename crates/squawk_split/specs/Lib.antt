-- What public contracts cite.
pub mod CopyData
pub mod CopyFromStdin
pub mod Pieces
pub mod PieceLaws
-- For private functions.
pub mod StatementEnds
pub mod Reader
