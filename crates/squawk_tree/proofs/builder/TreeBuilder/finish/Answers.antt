use Rattle.squawk_tree.proofs.BuiltLemmas.{spans_done}
use Rattle.squawk_tree.proofs.builder.TreeBuilder.finish.Goals as goal

pub with_tables-requires-clause-spans : goal.with_tables-requires-clause-spans
with_tables-requires-clause-spans c =
    spans_done _ _ _ c.requires.built.spans c.requires.tree.balanced
