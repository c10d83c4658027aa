-- What public contracts cite.
pub mod Arrays
pub mod Options
pub mod Parse
pub mod Statuses
pub mod Tokens
pub use Rattle.squawk_events.specs.Limit
pub use Rattle.squawk_events.specs.Message
pub use Rattle.squawk_lexer.specs.Cut
pub use Rattle.squawk_lexer.specs.Order
pub use Rattle.squawk_names.specs.Texts
pub use Rattle.squawk_tree.specs.ParseOf
pub use Rattle.squawk_tree.specs.Ranges
pub use Rattle.squawk_tree.specs.Tree
