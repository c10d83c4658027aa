use Rattle.squawk_lexed.proofs.RoleLemmas.{leaf_role}
use Rattle.squawk_lexed.proofs.laws.leaves_keep_roles.Goals as goal

pub returns : goal.returns
returns c = λ token text. leaf_role c.keywords_are_plain.ensures token text
