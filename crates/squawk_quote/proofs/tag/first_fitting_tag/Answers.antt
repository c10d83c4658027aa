use Rattle.std.proofs.Common.{◌≡◌, ◌+◌, List, Bool, length, false, None, chars, replicate, sym, ap, subst, ◌∙◌, arith}
use Rattle.std.proofs.lemmas.List.{with_items_is}
use Rattle.squawk_quote.specs.Tags.{mark_tags, first_unset, IsFirstToFit}
use Rattle.squawk_quote.proofs.TagPass.{first_to_fit, marks_len}
use Rattle.squawk_quote.proofs.tag.first_fitting_tag.Goals as goal

pub returns : goal.returns
returns c =
    let v = chars c.args.value.now in
    let start : c.deref_mut.result.now ≡ replicate c.args.count false =
    c.deref_mut.ensures.value ∙ c.in_ok-seen.ensures.items_if_clones_equal (λ y h. h) in
    let len : length c.mark_tags.new.seen ≡ length c.deref_mut.result.now =
    ap (λ (w : List Bool). length w) c.mark_tags.ensures
    ∙ marks_len c.args.base None v c.deref_mut.result.now in
    let marked : c.deref.result.now ≡ c.mark_tags.new.seen =
    c.deref.ensures.value
    ∙ with_items_is c.in_ok-seen.seen _ (omega (arith, len, c.deref_mut.ensures.len)) in
    let all : c.first_unseen.result
    ≡ first_unset (mark_tags c.args.base None v (replicate c.args.count false)) =
    c.first_unseen.ensures.first ∙ ap first_unset (marked ∙ c.mark_tags.ensures
    ∙ ap (mark_tags c.args.base None v) start) in
    subst (λ n. IsFirstToFit v c.args.base (c.args.base + c.args.count) (c.args.base + n)) (sym all)
    (first_to_fit v c.args.base c.args.count)
