use Rattle.std.proofs.Common.{◌≡◌, ◌<◌, ◌^◌, [], length, drop, arith}
use Rattle.std.proofs.lemmas.List.{drop_all}
use Rattle.squawk_lexed.specs.LexedText.{lexed_tokens}
use Rattle.squawk_lexed.proofs.PartLemmas.{part_kept, part_is}
use Rattle.squawk_lexed.proofs.StoredLemmas.{stored, kept_as}
use Rattle.squawk_lexed.proofs.lexed.LexedStr.from_tokens.Goals as goal

pub invariant_of-result : goal.invariant_of-result
invariant_of-result c =
    let none : drop c.loop-i.i c.args.tokens.now ≡ [] =
    drop_all c.loop-i.i c.args.tokens.now (omega arith) in
    let fits : length c.args.text.now < 2 ^ 32 = omega (arith, c.requires.fits) in
    stored _ _ _ _ (lexed_tokens c.args.text.now c.args.at c.args.tokens.now)
    (part_kept c.flags_lie_within.ensures.within c.args.text.now c.args.at c.args.tokens.now
    c.requires.cut c.requires.laid c.requires.boundary fits
    c.loop-i.from (drop c.loop-i.i c.args.tokens.now) c.range-2.result.now _ _ _ _ none
    c.range-2.ensures.value c.loop-i.invariant.end
    c.loop-i.invariant.kinds c.loop-i.invariant.starts c.in_ok-push.ensures.items
    c.loop-i.invariant.errors)

pub returns-clause-lexed : goal.returns-clause-lexed
returns-clause-lexed c =
    let none : drop c.loop-i.i c.args.tokens.now ≡ [] =
    drop_all c.loop-i.i c.args.tokens.now (omega arith) in
    let fits : length c.args.text.now < 2 ^ 32 = omega (arith, c.requires.fits) in
    part_is c.args.text.now c.args.at c.loop-i.from c.args.tokens.now
    (drop c.loop-i.i c.args.tokens.now) c.range-2.result.now _ none c.range-2.ensures.value
    c.loop-i.invariant.end
    (kept_as c.range-2.result.now _ _ _ (lexed_tokens c.args.text.now c.args.at c.args.tokens.now)
    (part_kept c.flags_lie_within.ensures.within c.args.text.now c.args.at c.args.tokens.now
    c.requires.cut c.requires.laid c.requires.boundary fits
    c.loop-i.from (drop c.loop-i.i c.args.tokens.now) c.range-2.result.now _ _ _ _ none
    c.range-2.ensures.value c.loop-i.invariant.end
    c.loop-i.invariant.kinds c.loop-i.invariant.starts c.in_ok-push.ensures.items
    c.loop-i.invariant.errors))
