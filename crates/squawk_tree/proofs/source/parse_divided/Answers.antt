use Rattle.squawk_tree.proofs.TextLaws.{parses_text}
use Rattle.squawk_tree.proofs.source.parse_divided.Goals as goal

pub returns : goal.returns
returns c =
    parses_text c.leaves_keep_roles.ensures _ c.args.strings c.args.division c.args.text.now _
    c.in_ok-lexed.ensures.lexed c.parses_are_trees.ensures.children c.children_join.ensures
    c.parse_statements.ensures.parse c.parse_statements.ensures.sound c.in_ok-lexed.ensures.too_long
    c.parse_statements.ensures.refusals
