use Rattle.std.proofs.Common.{Some, ap, ◌∙◌}
use Rattle.squawk_kinds.proofs.KindNumbers.{kinds_within}
use Rattle.squawk_kinds.proofs.SyntaxKind.to_raw.Goals as goal

pub returns-clause-listed : goal.returns-clause-listed
returns-clause-listed c = kinds_within _ c.self.invariant ∙ ap Some c.self.view_is
