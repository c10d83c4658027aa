use Rattle.std.proofs.Common.{◌≡◌, ℕ, List, length, take, ap, sym, subst, ◌∙◌, arith}
use Rattle.std.proofs.lemmas.List.{take_all}
use Rattle.squawk_lexed.specs.LexedText.{total_len}
use Rattle.squawk_lexed.specs.LexedToken.{LexedToken}
use Rattle.squawk_lexed.specs.Weave.{kinds_without_trivia}
use Rattle.squawk_tree.specs.Steps.{only_tokens}
use Rattle.squawk_tree.specs.Tree.{Tree, IsTree}
use Rattle.squawk_tree.proofs.ErrorLemmas.{covers_whole}
use Rattle.squawk_tree.proofs.LeavesLemmas.{leaves_whole}
use Rattle.squawk_tree.proofs.TreeLaws.{tree_of_lawful, parts_are}
use Rattle.squawk_tree.proofs.source.tree_parts.Goals as goal

whole_len : (ts : List LexedToken) (n len : ℕ) → n ≡ length ts → len ≡ total_len (take n ts)
    → len ≡ total_len ts
whole_len ts n len count is =
    is ∙ ap total_len (take_all n ts (omega arith))

pub errors_in-requires-clause-covered : goal.errors_in-requires-clause-covered
errors_in-requires-clause-covered c =
    let is = c.requires.1 in
    rw is.steps_are (covers_whole c.args.lexed.now.tokens c.requires.0 is.lawful.balanced
    is.lawful.tokens)

pub invariant_of-result : goal.invariant_of-result
invariant_of-result c =
    let ts = c.args.lexed.now.tokens in
    let is = c.requires.1 in
    subst IsTree (sym (parts_are ts _ _ _ _ _ c.len.ensures.sound is.lawful is.steps_are
    c.into_steps-steps.ensures c.in_ok-errors.ensures.ok
    (whole_len ts _ _ c.len.ensures.count c.text_start-len.ensures)))
    (tree_of_lawful ts _ c.len.ensures.sound is.lawful)

pub returns-clause-parse : goal.returns-clause-parse
returns-clause-parse c = λ told woven.
    let ts = c.args.lexed.now.tokens in
    let lawful = woven.lawful in
    let is = parts_are ts (told (kinds_without_trivia ts)) _ _ _ _ c.len.ensures.sound lawful
    woven.steps_are c.into_steps-steps.ensures c.in_ok-errors.ensures.ok
    (whole_len ts _ _ c.len.ensures.count c.text_start-len.ensures) in
    record {
      tree = is;
      lawful = subst IsTree (sym is)
          (tree_of_lawful ts (told (kinds_without_trivia ts)) c.len.ensures.sound lawful);
      leaves = ap (λ (t : Tree). only_tokens t.steps) is
          ∙ leaves_whole ts (told (kinds_without_trivia ts)) lawful.balanced lawful.tokens;
      len = ap (λ (t : Tree). t.len) is ∙ c.len.ensures.whole;
    }
