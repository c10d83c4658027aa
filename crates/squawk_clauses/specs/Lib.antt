-- What public contracts cite.
pub mod Clauses
pub mod Without
pub mod TreeWithout
pub mod Laws
pub mod Divided
-- The proof that the steps of the grammar are lawful: the trait's law cites definitions alone.
pub mod ClauseNodes
pub mod PlainWithoutClauses
pub mod ClausesAreLawful
pub mod ClauseChildren
-- What private functions need besides.
pub mod Depth
pub mod SelectTokens
