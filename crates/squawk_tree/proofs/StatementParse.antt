-- The steps and errors that were emitted for a text are its parse into statements.
use Rattle.std.proofs.Common.{◌≡◌, ℕ, true, List, ◌++◌, length, take, drop, ap, refl, sym, subst, ◌∙◌, arith}
use Rattle.std.proofs.lemmas.List.{take_all}
use Rattle.std.specs.Prelude.{Result, IfOk}
use Rattle.squawk_events.specs.Lawful.{IsLawful}
use Rattle.squawk_events.specs.declared.error.FrontError.{FrontError}
use Rattle.squawk_events.specs.declared.steps.ParseError.{ParseError}
use Rattle.squawk_events.specs.declared.steps.Step.{Step}
use Rattle.squawk_events.specs.declared.steps.StrStep.{StrStep}
use Rattle.squawk_lexed.specs.LexedText.{LexedText, are_sound, total_len}
use Rattle.squawk_lexed.specs.LexedToken.{LexedToken}
use Rattle.squawk_lexed.specs.Stored.{errors_of}
use Rattle.squawk_lexed.specs.Weave.{kinds_without_trivia}
use Rattle.squawk_statements.specs.declared.division.Division.{Division}
use Rattle.squawk_tree.specs.ChildGrammar.{IsGrammarOf, woven_text}
use Rattle.squawk_tree.specs.ParseOf.{parse_by, token_steps}
use Rattle.squawk_tree.specs.Parses.{ParsesTokens}
use Rattle.squawk_tree.specs.Steps.{only_tokens, without_errors}
use Rattle.squawk_tree.specs.Tree.{Tree, IsTree}
use Rattle.squawk_tree.specs.Walk.{errors_before, merged_errors}
use Rattle.squawk_tree.proofs.ErrorLemmas.{covers_whole}
use Rattle.squawk_tree.proofs.JoinErrorLemmas.{has_no_trivia_kept}
use Rattle.squawk_tree.proofs.LeavesLemmas.{leaves_whole}
use Rattle.squawk_tree.proofs.TextLaws.{on_parse}
use Rattle.squawk_tree.proofs.TreeLaws.{parts_are, tree_of_lawful}
use Rattle.squawk_tree.proofs.WalkLemmas.{merged_is, rest_before}

-- the steps of a grammar of children are lawful
lawful_of : (c told : List ℕ → List Step) (d : Division) → IsGrammarOf d c told
    → (ts : List LexedToken) → IsLawful (kinds_without_trivia ts) (told (kinds_without_trivia ts))
lawful_of c told d law ts = law.lawful (kinds_without_trivia ts) (has_no_trivia_kept ts)

-- the emitted steps, the errors that were appended, with the lexical errors that were left, and the
-- length of the tokens are the parse
pub emitted_is : (c told : List ℕ → List Step) (d : Division)
    → IsGrammarOf d c told → (ts : List LexedToken) (steps : List StrStep)
    (made errors : List ParseError) (next n len : ℕ) → are_sound ts ≡ true
    → steps ≡ without_errors (woven_text told ts)
    → made ++ drop next (errors_of 0 ts) ≡ merged_errors 0 ts (errors_of 0 ts) (woven_text told ts)
    → n ≡ length ts → len ≡ total_len (take n ts)
    → errors ≡ made ++ errors_before len (drop next (errors_of 0 ts))
    → record { steps = steps; errors = errors; len = len } ≡ parse_by told ts
emitted_is c told d law ts steps made errors next n len sound steps_are merged count len_is is =
    let lawful = lawful_of c told d law ts in
    let whole : len ≡ total_len ts =
    len_is ∙ ap total_len (take_all n ts (omega (arith, count))) in
    let covered = covers_whole ts (told (kinds_without_trivia ts)) lawful.balanced lawful.tokens
    in
    parts_are ts (told (kinds_without_trivia ts)) (woven_text told ts) steps errors len sound
    lawful refl steps_are
    (is ∙ ap (λ es. made ++ es) (rest_before len next ts (omega (arith, whole)) sound)
    ∙ merged ∙ merged_is ts (woven_text told ts) covered sound) whole

-- which is a tree
pub emitted_tree : (c told : List ℕ → List Step) (d : Division)
    → IsGrammarOf d c told → (ts : List LexedToken) (tree : Tree) → are_sound ts ≡ true
    → tree ≡ parse_by told ts → IsTree tree
emitted_tree c told d law ts tree sound is =
    subst IsTree (sym is)
    (tree_of_lawful ts (told (kinds_without_trivia ts)) sound (lawful_of c told d law ts))

-- so a result that is equal to it is that of a parse
pub parses_emitted : (c told : List ℕ → List Step) (d : Division)
    → IsGrammarOf d c told → (lexed : LexedText) (tree : Tree) (r : Result Tree FrontError)
    → are_sound lexed.tokens ≡ true → total_len lexed.tokens ≡ length lexed.text
    → tree ≡ parse_by told lexed.tokens → IfOk r (λ parse. parse ≡ tree)
    → ParsesTokens told lexed r
parses_emitted c told d law lexed tree r sound whole is parsed =
    let ts = lexed.tokens in
    let lawful = lawful_of c told d law ts in
    record {
      tree = on_parse r tree (λ parse. parse ≡ parse_by told ts) parsed is;
      lawful = on_parse r tree IsTree parsed (emitted_tree c told d law ts tree sound is);
      leaves = on_parse r tree (λ parse. only_tokens parse.steps ≡ token_steps 0 ts) parsed
          (ap (λ (t : Tree). only_tokens t.steps) is
          ∙ leaves_whole ts (told (kinds_without_trivia ts)) lawful.balanced lawful.tokens);
      len = on_parse r tree (λ parse. parse.len ≡ length lexed.text) parsed
          (ap (λ (t : Tree). t.len) is ∙ whole);
    }
