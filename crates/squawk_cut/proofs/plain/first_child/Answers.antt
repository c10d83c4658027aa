use Rattle.std.proofs.Common.{◌≡◌, subst}
use Rattle.std.specs.Prelude.{IfOk}
use Rattle.squawk_cut.specs.ChildValue.{ChildValue}
use Rattle.squawk_cut.proofs.OnlyChild.{take_cut, take_laid, first_of_tokens}
use Rattle.squawk_cut.proofs.plain.first_child.Goals as goal

pub parse_own-requires-clause-cut : goal.parse_own-requires-clause-cut
parse_own-requires-clause-cut c =
    take_cut c.in_ok-shape.shape.tokens c.args.tokens.now c.requires.cut

pub parse_own-requires-clause-laid : goal.parse_own-requires-clause-laid
parse_own-requires-clause-laid c =
    take_laid c.args.text.now c.args.at c.in_ok-shape.shape.tokens c.args.tokens.now
    c.requires.laid

pub from_parse-requires : goal.from_parse-requires
from_parse-requires c = record {
  one = (first_of_tokens c.children_stand_alone.ensures c.children_are_trees.ensures
      c.cut_tokens_are_sound.ensures c.args.division c.args.text.now c.args.at c.args.tokens.now
      c.in_ok-shape.shape c.in_ok-parse.parse c.requires.some c.requires.cut
      c.in_ok-shape.ensures.within c.in_ok-shape.ensures.shape c.in_ok-parse.ensures.tree).one;
}

pub returns-clause-child : goal.returns-clause-child
returns-clause-child c =
    let first = first_of_tokens c.children_stand_alone.ensures c.children_are_trees.ensures
    c.cut_tokens_are_sound.ensures c.args.division c.args.text.now c.args.at c.args.tokens.now
    c.in_ok-shape.shape c.in_ok-parse.parse c.requires.some c.requires.cut
    c.in_ok-shape.ensures.within c.in_ok-shape.ensures.shape c.in_ok-parse.ensures.tree in
    subst (λ (value : ChildValue). IfOk c.from_parse.result (λ child. child ≡ value)) first.value
    c.from_parse.ensures.child
