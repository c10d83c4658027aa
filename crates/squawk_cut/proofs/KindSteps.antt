-- The kinds of the first tokens of a text.
use Rattle.std.proofs.Common.{◌≡◌, ℕ, zero, suc, ◌+◌, ◌<◌, List, [], ◌∷◌, ◌++◌, length, length-append, drop, append_assoc, refl, sym, ap, subst, ◌∙◌, arith}
use Rattle.std.specs.List.{slice_range}
use Rattle.std.specs.Prelude.{slice_index_or}
use Rattle.std.specs.Str.{IsCharBoundary}
use Rattle.squawk_cut.specs.Children.{text_tokens}
use Rattle.squawk_cut.specs.PlainTells.{lexed_of, kinds_of}
use Rattle.squawk_lexed.specs.Leaf.{leaf_kind}
use Rattle.squawk_lexed.specs.LexedText.{EndAtBoundaries}
use Rattle.squawk_lexer.specs.declared.token.Token.{Token}
use Rattle.squawk_statements.specs.First.{first_shape, IsFirstOfLonger}
use Rattle.squawk_statements.specs.declared.division.Division.{Division}
use Rattle.squawk_statements.specs.declared.first.ChildShape.{ChildShape}
use Rattle.squawk_cut.proofs.LexedLemmas.{slice_at, after_token}

-- the token at an index, and those after it
next_token : (tokens : List Token) (i : ℕ) (none : Token) → i < length tokens
    → drop i tokens ≡ slice_index_or tokens i none ∷ drop (i + 1) tokens
next_token [] i none within = absurd (omega arith)
next_token (t ∷ ts) zero none within = refl
next_token (t ∷ ts) (suc i) none within =
    next_token ts i none (omega arith)
    ∙ ap (λ n. slice_index_or ts i none ∷ drop n (t ∷ ts))
    (let e : suc (i + 1) ≡ suc i + 1 = omega arith in e)

-- it ends at a character boundary, and so do those after it
pub next_laid : (text : List ℕ) (from : ℕ) (tokens : List Token) (i : ℕ) (none : Token)
    → i < length tokens → EndAtBoundaries text from (drop i tokens)
    → IsCharBoundary text (from + (slice_index_or tokens i none).len)
    × EndAtBoundaries text (from + (slice_index_or tokens i none).len) (drop (i + 1) tokens)
next_laid text from tokens i none within laid =
    subst (EndAtBoundaries text from) (next_token tokens i none within) laid

-- the kinds so far, and those of the tokens that are left
pub kinds_more : (text : List ℕ) (from : ℕ) (tokens : List Token) (i : ℕ) (none : Token)
    (kinds more all own : List ℕ) (kind : ℕ) → i < length tokens
    → own ≡ slice_range text from (from + (slice_index_or tokens i none).len)
    → kind ≡ leaf_kind (slice_index_or tokens i none).kind own → more ≡ kinds ++ kind ∷ []
    → kinds ++ kinds_of (text_tokens (drop from text) (drop i tokens)) ≡ all
    → more ++ kinds_of (text_tokens (drop (from + (slice_index_or tokens i none).len) text)
    (drop (i + 1) tokens)) ≡ all
unfolding lexed_of
kinds_more text from tokens i none kinds more all own kind within own_is kind_is push so_far =
    let t = slice_index_or tokens i none in
    let rest = kinds_of (text_tokens (drop (from + t.len) text) (drop (i + 1) tokens)) in
    let left : kinds_of (text_tokens (drop from text) (drop i tokens)) ≡ kind ∷ rest =
    ap (λ ts. kinds_of (text_tokens (drop from text) ts)) (next_token tokens i none within)
    ∙ ap (λ bytes. leaf_kind t.kind bytes
    ∷ kinds_of (text_tokens (drop t.len (drop from text)) (drop (i + 1) tokens)))
    (sym (own_is ∙ slice_at text from t.len))
    ∙ ap (λ k. k ∷ kinds_of (text_tokens (drop t.len (drop from text)) (drop (i + 1) tokens)))
    (sym kind_is)
    ∙ ap (λ u. kind ∷ kinds_of (text_tokens u (drop (i + 1) tokens)))
    (after_token text from t.len) in
    ap (λ ks. ks ++ rest) push ∙ append_assoc kinds (kind ∷ []) rest
    ∙ ap (λ ks. kinds ++ ks) (sym left) ∙ so_far

-- one kind more
pub count_more : (kinds more : List ℕ) (kind i : ℕ) → more ≡ kinds ++ kind ∷ []
    → length kinds ≡ i → length more ≡ i + 1
count_more kinds more kind i push count =
    omega (arith, ap length push, length-append kinds (kind ∷ []), count)

-- a closed first child of the kinds so far is that of all kinds
pub closed_shape : (d : Division) (shape : ChildShape) (asked kinds rest all : List ℕ)
    → asked ≡ kinds → IsFirstOfLonger d asked shape → kinds ++ rest ≡ all
    → shape ≡ first_shape d all
closed_shape d shape asked kinds rest all same longer so_far =
    sym (longer rest) ∙ ap (first_shape d) (ap (λ ks. ks ++ rest) same ∙ so_far)
