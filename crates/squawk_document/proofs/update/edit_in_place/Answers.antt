use Rattle.std.proofs.Common.{◌≤◌, length, take, ap, sym, ◌∙◌, arith, subst}
use Rattle.squawk_document.specs.FrontPart.{IsFrontEnd}
use Rattle.squawk_document.proofs.ChildFrontSteps.{aligned}
use Rattle.squawk_document.proofs.ReplaceSteps.{replace_back}
use Rattle.squawk_document.proofs.TokenEditSteps.{old_total, front_in}
use Rattle.squawk_document.proofs.update.edit_in_place.Goals as goal

pub find_front-part-requires-clause-small : goal.find_front-part-requires-clause-small
find_front-part-requires-clause-small g c =
    omega (
      arith,
      old_total _ (g.met.F.Front.lawful c.args.front.now) c.args.text.now _ c.utf8.text
          (c.deref.ensures.value ∙ c.requires.tokens),
    )

pub find_front-part-requires-clause-aligned : goal.find_front-part-requires-clause-aligned
find_front-part-requires-clause-aligned g c =
    aligned _ (g.met.F.Front.lawful c.args.front.now) c.args.text.now _ _
    (c.deref.ensures.value ∙ c.requires.tokens) (c.deref-2.ensures.value ∙ c.requires.children)

pub edit_tokens-requires-clause-front : goal.edit_tokens-requires-clause-front
edit_tokens-requires-clause-front g c =
    subst (λ ts. IsFrontEnd (take c.args.start c.args.text.now) ts
    c.find_front-part.result.tokens_end) (c.deref.ensures.value ∙ sym c.deref-3.ensures.value)
    (front_in c.args.text.now _ c.args.start _ _ c.range.ensures.value
    c.find_front-part.ensures.tokens)

pub returns-in-Err-clause-old_tokens : goal.returns-in-Err-clause-old_tokens
returns-in-Err-clause-old_tokens g c =
    let m = c.in_ok-edit.ensures in
    let within : c.in_ok-edit.edit.back_index ≤ length c.args.tokens.now.items =
    omega (arith, m.within, ap length c.deref.ensures.value) in
    c.replace_range.ensures.items
    ∙ replace_back c.args.tokens.now.items c.in_ok-edit.edit.tokens.items c.in_ok-old.old.items
    c.replace_tokens.new.tokens.items c.find_front-part.result.tokens_end.index
    c.in_ok-edit.edit.back_index c.in_ok-edit.edit.counts.cut_tokens
    m.order within m.cut c.in_ok-old.ensures.items c.in_ok-old.ensures.old
