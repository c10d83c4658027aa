-- The front of the tests whose children are single tokens.
use Rattle.std.proofs.Common.{◌≡◌, ℕ, ◌+◌, ◌-◌, ◌<◌, ◌≤◌, Bool, true, List, [], ◌∷◌, length, take, drop, refl, sym, ap, subst, ◌∙◌, arith}
use Rattle.std.proofs.Math.Utf8.{encodes}
use Rattle.std.proofs.lemmas.Str.{encodes-chars, IsCharBoundary-from_rest}
use Rattle.std.specs.List.{slice_range}
use Rattle.std.specs.Str.{chars, IsUtf8, IsCharBoundary}
use Rattle.squawk_cut.specs.ChildValue.{ChildValue, child_of_tree}
use Rattle.squawk_cut.specs.Children.{text_tokens}
use Rattle.squawk_cut.specs.PlainTells.{lexed_of}
use Rattle.squawk_cut.specs.Tokens.{tokens_from}
use Rattle.squawk_document.specs.TokenFront.{token_child, token_tells}
use Rattle.squawk_events.specs.declared.steps.StrStep.{StrStep}
use Rattle.squawk_events.specs.declared.steps.StrStep.TheVariants.{Enter, Exit, Error, Token as Leaf}
use Rattle.squawk_lexed.specs.Faults.{faults}
use Rattle.squawk_lexed.specs.Leaf.{leaf_kind}
use Rattle.squawk_lexed.specs.LexedText.{LexedText, EndAtBoundaries, lexed_part}
use Rattle.squawk_lexed.specs.LexedToken.{LexedToken}
use Rattle.squawk_lexer.specs.Flags.{AreCut}
use Rattle.squawk_lexer.specs.LookAhead.{TextsProgress}
use Rattle.squawk_lexer.specs.Token.{token_at}
use Rattle.squawk_lexer.specs.declared.token.Strings.TheVariants.{Standard}
use Rattle.squawk_lexer.specs.declared.token.Token.{Token}
use Rattle.squawk_statements.specs.declared.division.Division.TheVariants.{Flat}
use Rattle.squawk_tree.specs.ParseOf.{parse_of_tokens, token_steps}
use Rattle.squawk_tree.specs.Steps.{leaves, only_tokens}
use Rattle.squawk_tree.specs.Tree.{Tree}

-- ---- the first token of a text

-- what has bytes has characters
some_by : (cs u : List ℕ) → encodes cs ≡ u → 0 < length u → 1 ≤ length cs
some_by [] u h some = absurd (let none : 0 ≡ length u = ap length h in omega (arith, none, some))
some_by (c ∷ cs) u h some = omega arith

-- the first token is cut from a text
pub first_is_cut : (start : Bool) (u : List ℕ) → IsUtf8 u → 0 < length u
    → AreCut (take 1 (tokens_from token_tells 0 start u))
first_is_cut start [] utf8 some = absurd (omega (arith, some))
first_is_cut start (b ∷ bs) utf8 some = (
  record {
    strings = Standard;
    at_start = start;
    text = chars (b ∷ bs);
    some = some_by (chars (b ∷ bs)) (b ∷ bs) (encodes-chars (b ∷ bs) utf8) some;
    same = refl;
  },
  tt,
)

-- the first token ends at a character boundary
pub first_is_laid : TextsProgress → (start : Bool) (text : List ℕ) (at : ℕ) (u : List ℕ)
    → drop at text ≡ u → at ≤ length text → IsUtf8 u → 0 < length u
    → EndAtBoundaries text at (take 1 (tokens_from token_tells 0 start u))
first_is_laid progress start text at [] is within utf8 some = absurd (omega (arith, some))
first_is_laid progress start text at (b ∷ bs) is within utf8 some =
    let len = (token_at Standard start (chars (b ∷ bs))).len in
    let own = progress Standard start (b ∷ bs) utf8 some in (
      IsCharBoundary-from_rest text at len within
          (subst (λ v. IsCharBoundary v len) (sym is) own.1),
      tt,
    )

-- ---- the child of one token

-- the leaves are those of the `Token` steps
leaves_of_tokens : (xs : List StrStep) → leaves xs ≡ leaves (only_tokens xs)
leaves_of_tokens [] = refl
leaves_of_tokens (Enter kind ∷ xs) = leaves_of_tokens xs
leaves_of_tokens (Leaf kind start end ∷ xs) = ap (λ rs. (start, end) ∷ rs) (leaves_of_tokens xs)
leaves_of_tokens (Exit ∷ xs) = leaves_of_tokens xs
leaves_of_tokens (Error number at ∷ xs) = leaves_of_tokens xs

-- the only child of a tree, with this number of tokens
abbrev child_by : ℕ → Tree → ChildValue
child_by count tree = record {
  tokens = count;
  bytes = tree.len;
  node = (child_of_tree tree true).node;
  closed = true;
  steps = (child_of_tree tree true).steps;
  errors = tree.errors;
}

-- a token as a parser reads it, by its text
abbrev token_of : Token → List ℕ → LexedToken
token_of t own = record { kind = leaf_kind t.kind own; len = t.len; faults = faults t }

-- the child of the parse of the first token
pub first_child_is : (text : List ℕ) (at : ℕ) (ts : List Token) (lexed : LexedText) (parse : Tree)
    → 0 < length ts → lexed ≡ lexed_part text at (take 1 ts)
    → parse ≡ parse_of_tokens Flat lexed.tokens
    → only_tokens parse.steps ≡ token_steps 0 lexed.tokens
    → child_of_tree parse true ≡ token_child (text_tokens (drop at text) ts)
unfolding lexed_of
first_child_is text at [] lexed parse some lexed_is parse_is kept = absurd (omega (arith, some))
first_child_is text at (t ∷ ts) lexed parse some lexed_is parse_is kept =
    let own = take t.len (drop at text) in
    let slice : slice_range text at (at + t.len) ≡ own =
    ap (λ n. take n (drop at text)) (let e : at + t.len - at ≡ t.len = omega arith in e) in
    let read : lexed.tokens ≡ token_of t own ∷ [] =
    ap (λ (l : LexedText). l.tokens) lexed_is ∙ ap (λ us. token_of t us ∷ []) slice in
    let tree : parse ≡ parse_of_tokens Flat (token_of t own ∷ []) =
    parse_is ∙ ap (parse_of_tokens Flat) read in
    let count : length (leaves parse.steps) ≡ 1 =
    ap length (leaves_of_tokens parse.steps ∙ ap leaves kept)
    ∙ ap (λ us. length (leaves (token_steps 0 us))) read in
    ap (λ n. child_by n parse) count ∙ ap (child_by 1) tree
