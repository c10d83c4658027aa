use Rattle.std.proofs.Common.{ap, ◌∙◌, take}
use Rattle.squawk_lexed.specs.LexedText.{total_len}
use Rattle.squawk_tree.proofs.WalkLemmas.{all_appended}
use Rattle.squawk_tree.proofs.errors.lexical_errors.Goals as goal

pub returns-clause-ok : goal.returns-clause-ok
returns-clause-ok c =
    all_appended _ _ _ _ c.new-errors.ensures.items c.len.ensures.sound (c.text_start-end.ensures
    ∙ ap (λ n. total_len (take n c.args.lexed.now.tokens)) c.len.ensures.count)
    c.in_ok-push_lexical_errors.ensures.ok
