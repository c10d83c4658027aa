use Rattle.std.proofs.Common.{ℕ, List, ap, ◌∙◌}
use Rattle.squawk_cut.specs.Tells.{Tells}
use Rattle.squawk_document.specs.Edited.{edited_of}
use Rattle.squawk_document.proofs.ChildEditSteps.{same_text, same_tells}
use Rattle.squawk_document.proofs.document.Document.edit.Goals as goal

pub returns-clause-counts : goal.returns-clause-counts
returns-clause-counts g c =
    let seen = same_tells g.F.Front.tells _ _ c.self.view_is in
    let text = c.as_str-2.ensures.value ∙ same_text _ _ c.self.view_is in
    c.in_ok-update.ensures.edited
    ∙ ap (λ (t : Tells). edited_of t c.as_str-2.result.now c.args.start c.args.end c.args.new.now)
    seen
    ∙ ap (λ (w : List ℕ). edited_of (g.F.Front.tells c.args.self.now.front) w c.args.start
    c.args.end c.args.new.now) text
