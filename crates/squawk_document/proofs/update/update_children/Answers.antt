use Rattle.std.proofs.Common.{◌≡◌, length, refl, ap, sym, ◌∙◌}
use Rattle.squawk_document.proofs.ChildEditSteps.{child_counts}
use Rattle.squawk_cut.specs.Tokens.{tokens_of}
use Rattle.squawk_document.proofs.update.update_children.Goals as goal

pub returns-clause-counts : goal.returns-clause-counts
returns-clause-counts g c =
    let e = child_counts _ c.args.text.now c.args.start c.args.end c.args.new.now
    (tokens_of (g.F.Front.tells c.args.front.now) c.args.text.now) c.args.new_tokens.now
    c.args.part.tokens_end.index c.deref.result.now _ c.in_ok-edit.edit.children.items _ _ refl
    c.requires.new_tokens (c.deref.ensures.value ∙ c.requires.children) c.requires.count
    c.in_ok-edit.ensures.children (c.len.ensures ∙ c.in_ok-edit.edit.children.ok.0) in
    let len : c.len-2.result ≡ length c.deref.result.now =
    (c.len-2.ensures ∙ c.args.children.now.ok.0) ∙ ap length (sym c.deref.ensures.value) in
    cc
