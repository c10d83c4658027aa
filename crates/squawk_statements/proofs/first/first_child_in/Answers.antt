use Rattle.std.proofs.Common.{ℕ, ap, sym, ◌∙◌, subst, ◌≤◌, length}
use Rattle.squawk_statements.proofs.Longer.{shape_longer}
use Rattle.squawk_statements.specs.declared.first.ChildShape.{ChildShape}
use Rattle.squawk_statements.proofs.first.first_child_in.Goals as goal

pub returns-clause-longer : goal.returns-clause-longer
returns-clause-longer c = λ closed others.
    shape_longer c.args.division c.args.kinds.now others c.requires
    (sym (ap (λ (s : ChildShape). s.closed) c.shape_of.ensures.shape) ∙ closed)
    (subst (λ (n : ℕ). n ≤ length c.args.kinds.now) (ap (λ (s : ChildShape).
    s.tokens) c.shape_of.ensures.shape) c.shape_of.ensures.within)
    ∙ sym c.shape_of.ensures.shape
