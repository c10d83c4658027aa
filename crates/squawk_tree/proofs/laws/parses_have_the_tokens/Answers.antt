use Rattle.std.proofs.Common.{refl}
use Rattle.std.specs.Prelude.{Ok, ⊤}
use Rattle.squawk_lexed.specs.Weave.{kinds_without_trivia}
use Rattle.squawk_statements.specs.Plain.{plain}
use Rattle.squawk_statements.specs.PlainIsLawful.{plain_lawful}
use Rattle.squawk_tree.specs.ParseOf.{parse_of, tokens_of}
use Rattle.squawk_tree.proofs.JoinErrorLemmas.{has_no_trivia_kept}
use Rattle.squawk_tree.proofs.LeavesLemmas.{leaves_whole}
use Rattle.squawk_tree.proofs.RootLemmas.{root_children_woven}
use Rattle.squawk_tree.proofs.TextLaws.{children_of_text, leaves_of_text}
use Rattle.squawk_tree.proofs.laws.parses_have_the_tokens.Goals as goal

pub returns-clause-leaves : goal.returns-clause-leaves
returns-clause-leaves c = λ strings division text.
    let ts = tokens_of strings text in
    let kinds = kinds_without_trivia ts in
    let lawful = plain_lawful division kinds (has_no_trivia_kept ts) in
    leaves_of_text {E = ⊤} (Ok (parse_of strings division text)) strings text ts refl
    (leaves_whole ts (plain division kinds) lawful.balanced lawful.tokens)

pub returns-clause-children : goal.returns-clause-children
returns-clause-children c = λ strings division text.
    children_of_text c.leaves_keep_roles.ensures {E = ⊤} (Ok (parse_of strings division text))
    strings division text (tokens_of strings text) refl root_children_woven refl
