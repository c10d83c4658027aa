use Rattle.std.proofs.Common.{◌≡◌, ◌<◌, ◌^◌, length, [], refl, ap, arith}
use Rattle.std.proofs.lemmas.Grind.{common_steps}
use Rattle.std.proofs.lemmas.Str.{IsCharBoundary-start}
use Rattle.std.specs.Str.{chars}
use Rattle.squawk_lexer.specs.Cut.{tokens}
use Rattle.squawk_lexed.specs.LexedText.{lexed_tokens}
use Rattle.squawk_lexed.proofs.StoredLemmas.{stored, kept_as, all_kept}
use Rattle.squawk_lexed.proofs.lexed.LexedStr.new_in.Goals as goal

pub loop-token-init : goal.loop-token-init
loop-token-init c =
    let tokens_are = c.into_iter-token-iterator.ensures.into_iter_gives in
    record {
      kinds = rw (c.with_room-lists.ensures.kinds, tokens_are, c.tokenize_in-token-items.ensures.tokens) refl;
      starts = rw (c.with_room-lists.ensures.starts, tokens_are, c.tokenize_in-token-items.ensures.tokens)
          refl;
      errors = rw (c.with_room-lists.ensures.errors, tokens_are, c.tokenize_in-token-items.ensures.tokens)
          refl;
      cut = rw (tokens_are, c.tokenize_in-token-items.ensures.tokens)
          (c.flags_lie_within.ensures.cut c.args.strings (chars c.args.text.now));
      tiles = rw tokens_are c.tokenize_in-token-items.ensures.tiles;
      start = IsCharBoundary-start c.args.text.now c.utf8.text;
    }

pub invariant_of-result : goal.invariant_of-result
invariant_of-result c =
    let none : c.loop-token.token-iterator ≡ [] = grind (arith, common_steps) in
    let fits : length c.args.text.now < 2 ^ 32 = grind (arith, common_steps) in
    stored _ _ _ _ (lexed_tokens c.args.text.now 0 (tokens c.args.strings (chars c.args.text.now)))
    (all_kept c.flags_lie_within.ensures.within c.args.text.now
    (tokens c.args.strings (chars c.args.text.now))
    (c.flags_lie_within.ensures.cut c.args.strings (chars c.args.text.now))
    (rw c.tokenize_in-token-items.ensures.tokens at c.tokenize_in-token-items.ensures.tiles)
    (IsCharBoundary-start c.args.text.now c.utf8.text) fits c.loop-token.at
    c.loop-token.token-iterator _ _ _ _ none
    c.loop-token.invariant.kinds c.loop-token.invariant.starts c.in_ok-push.ensures.items
    c.loop-token.invariant.errors)

pub returns-clause-lexed : goal.returns-clause-lexed
returns-clause-lexed c =
    let none : c.loop-token.token-iterator ≡ [] = grind (arith, common_steps) in
    let fits : length c.args.text.now < 2 ^ 32 = grind (arith, common_steps) in
    ap (λ ts. record {
      text = c.args.text.now;
      tokens =
          ts;
    }) (kept_as c.args.text.now _ _ _ (lexed_tokens c.args.text.now 0
    (tokens c.args.strings (chars c.args.text.now)))
    (all_kept c.flags_lie_within.ensures.within c.args.text.now
    (tokens c.args.strings (chars c.args.text.now))
    (c.flags_lie_within.ensures.cut c.args.strings (chars c.args.text.now))
    (rw c.tokenize_in-token-items.ensures.tokens at c.tokenize_in-token-items.ensures.tiles)
    (IsCharBoundary-start c.args.text.now c.utf8.text) fits c.loop-token.at
    c.loop-token.token-iterator _ _ _ _ none
    c.loop-token.invariant.kinds c.loop-token.invariant.starts c.in_ok-push.ensures.items
    c.loop-token.invariant.errors))
