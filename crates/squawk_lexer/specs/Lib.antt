-- Definitions that public contracts cite.
pub mod Text
pub mod Classes
pub mod Kind
pub mod Token
pub mod Cut
pub mod LookAhead
pub mod Laws
pub mod QuotedLaws
pub mod PsqlArguments
pub mod Gaps
pub mod Flags
pub mod Order
-- The parts of the grammar that `Token` is built from.
pub mod Runs
pub mod Quoted
pub mod Comment
pub mod Numbers
pub mod Symbols
pub mod Dollar
pub mod PsqlWords
pub mod PsqlParts
pub mod Psql
-- Definitions for private functions.
pub mod Bytes
pub mod Position
pub mod CursorModel
pub mod TokensModel
pub mod PsqlQuotes
pub mod Stops
pub mod ClassTests
