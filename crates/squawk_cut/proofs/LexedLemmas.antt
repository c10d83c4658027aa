-- Tokens with their texts, as a parser reads them.
use Rattle.std.proofs.Common.{◌≡◌, ℕ, zero, suc, ◌+◌, ◌-◌, List, [], ◌∷◌, length, take, drop, map, refl, sym, ap, ◌∙◌, arith}
use Rattle.std.proofs.lemmas.List.{drop-drop}
use Rattle.std.specs.List.{slice_range}
use Rattle.std.specs.Prelude.{Result, Ok, Err, IfOk}
use Rattle.squawk_cut.specs.Children.{text_tokens}
use Rattle.squawk_cut.specs.PlainTells.{lexed_of, kinds_of}
use Rattle.squawk_cut.specs.Tells.{TextToken}
use Rattle.squawk_events.specs.declared.error.FrontError.{FrontError}
use Rattle.squawk_kinds.specs.Role.{role}
use Rattle.squawk_lexed.specs.Leaf.{leaf_kind}
use Rattle.squawk_lexed.specs.LexedText.{LexedText, lexed_tokens, lexed_part}
use Rattle.squawk_lexed.specs.LexedToken.{LexedToken, lexed_role}
use Rattle.squawk_lexed.specs.Faults.{faults}
use Rattle.squawk_lexed.specs.Stored as stored
use Rattle.squawk_lexer.specs.declared.token.Token.{Token}
use Rattle.squawk_statements.specs.Plain.{plain}
use Rattle.squawk_statements.specs.declared.division.Division.{Division}
use Rattle.squawk_tree.specs.ParseOf.{parse_by, parse_of_tokens}
use Rattle.squawk_tree.specs.Tree.{Tree}

-- the slice of so many bytes from an offset on
pub slice_at : (text : List ℕ) (at len : ℕ)
    → slice_range text at (at + len) ≡ take len (drop at text)
slice_at text at len =
    ap (λ n. take n (drop at text)) (let e : at + len - at ≡ len = omega arith in e)

-- the text after a token
pub after_token : (text : List ℕ) (at len : ℕ) → drop len (drop at text) ≡ drop (at + len) text
after_token text at len = drop-drop len at text

-- tokens of a text are read by a parser with their texts
pub lexed_same : (text : List ℕ) (at : ℕ) (ts : List Token)
    → lexed_tokens text at ts ≡ map lexed_of (text_tokens (drop at text) ts)
unfolding lexed_of
lexed_same text at [] = refl
lexed_same text at (t ∷ ts) =
    ap (λ own. token_of (leaf_kind t.kind own) t ∷ lexed_tokens text (at + t.len) ts)
    (slice_at text at t.len)
    ∙ ap (λ rest. token_of (leaf_kind t.kind (take t.len (drop at text))) t ∷ rest)
    (lexed_same text (at + t.len) ts
    ∙ ap (λ u. map lexed_of (text_tokens u ts)) (sym (after_token text at t.len)))
  where
    token_of : ℕ → Token → LexedToken
    token_of kind t = record { kind = kind; len = t.len; faults = faults t }

-- as many tokens with their texts as tokens
pub length_text_tokens : (u : List ℕ) (ts : List Token) → length (text_tokens u ts) ≡ length ts
length_text_tokens u [] = refl
length_text_tokens u (t ∷ ts) = ap suc (length_text_tokens (drop t.len u) ts)

-- the first n tokens with their texts
pub take_text_tokens : (u : List ℕ) (n : ℕ) (ts : List Token)
    → text_tokens u (take n ts) ≡ take n (text_tokens u ts)
take_text_tokens u zero ts = refl
take_text_tokens u (suc n) [] = refl
take_text_tokens u (suc n) (t ∷ ts) =
    ap (λ xs. record { token = t; text = take t.len u } ∷ xs) (take_text_tokens (drop t.len u) n ts)

-- the roles of tokens are those of their kinds
pub roles_same : (xs : List TextToken) → map lexed_role (map lexed_of xs) ≡ map role (kinds_of xs)
roles_same [] = refl
roles_same (x ∷ xs) = ap (λ rs. role (lexed_of x).kind ∷ rs) (roles_same xs)

-- and their kinds those of the tokens as a parser reads them
pub kinds_same : (xs : List TextToken) → stored.kinds_of (map lexed_of xs) ≡ kinds_of xs
kinds_same [] = refl
kinds_same (x ∷ xs) = ap (λ ks. (lexed_of x).kind ∷ ks) (kinds_same xs)

-- the parse of the tokens that a parser reads, by the grammar of the division
pub parse_own : (result : Result Tree FrontError) (d by : Division) (lexed : LexedText)
    (text : List ℕ) (at : ℕ) (own : List Token) → d ≡ by → lexed ≡ lexed_part text at own
    → IfOk result (λ parse. parse ≡ parse_by (plain by) lexed.tokens)
    → IfOk result (λ parse.
    parse ≡ parse_of_tokens d (map lexed_of (text_tokens (drop at text) own)))
parse_own (Err e) d by lexed text at own is lexed_is h = h
parse_own (Ok parse) d by lexed text at own is lexed_is h =
    h ∙ ap (λ (l : LexedText). parse_of_tokens by l.tokens) lexed_is
    ∙ ap (parse_of_tokens by) (lexed_same text at own)
    ∙ ap (λ e. parse_of_tokens e (map lexed_of (text_tokens (drop at text) own))) (sym is)
