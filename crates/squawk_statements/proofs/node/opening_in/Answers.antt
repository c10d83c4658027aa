use Rattle.std.proofs.Common.{ap, ◌∙◌}
use Rattle.std.specs.Prelude.{option_map}
use Rattle.squawk_statements.specs.Opening.{Row, rows, longest, key, opening_of}
use Rattle.squawk_statements.specs.Rows.{without_trivia_if}
use Rattle.squawk_statements.proofs.KeySteps.{longest_four}
use Rattle.squawk_statements.proofs.node.opening_in.Goals as goal

pub returns : goal.returns
unfolding opening_of
returns c = c.look_up.ensures
    ∙ ap (λ ks. option_map (λ (row : Row). row.1) (longest rows ks)) c.key_prefix-prefix.ensures.key
    ∙ ap (option_map (λ (row : Row).
    row.1)) (longest_four (key (without_trivia_if c.args.skip_trivia c.args.kinds.now)))
