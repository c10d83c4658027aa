-- Without COPY data, the pieces of a script are the children of the root.
use Rattle.std.proofs.Common.{◌≡◌, ℕ, zero, suc, ◌+◌, ◌-◌, ◌<◌, ◌≤◌, Bool, true, false, List, [], ◌∷◌, length, take, drop, length-drop, refl, sym, ap, subst, ◌∙◌, ◌||◌, eqb, arith, IsUtf8}
use Rattle.std.proofs.lemmas.Str.{IsUtf8-drop}
use Rattle.squawk_lexed.specs.LexedToken.{LexedToken, lexed_role}
use Rattle.squawk_lexer.specs.LookAhead.{TextsProgress, TextsRestart}
use Rattle.squawk_lexer.specs.declared.token.Strings.{Strings}
use Rattle.squawk_split.specs.PieceLaws.{PiecesTile, joined, AreChildrenOrData, AreChildrenWithoutData, has_data, is_data, child_pieces}
use Rattle.squawk_split.specs.Pieces.{tokens_of, first_part, child_kind, first_piece, piece_at, pieces_from, pieces_of}
use Rattle.squawk_split.specs.declared.pieces.Piece.{Piece}
use Rattle.squawk_split.proofs.FitLemmas.{first_fits, first_len_some}
use Rattle.squawk_split.proofs.PieceLemmas.{one_piece, pieces_tile, pieces_joined, pieces_are_cut}
use Rattle.squawk_split.proofs.TokenSteps.{is_start_after, after, begins, not_at_start, tokens_none}
use Rattle.squawk_statements.specs.Children.{first_child_len, parts_from, parts}
use Rattle.squawk_statements.specs.declared.division.Division.{Division}

-- ---- one part, and those after it

skip_parts : (d : Division) (n : ℕ) (ts : List LexedToken)
    → parts_from lexed_role n d ts ≡ parts lexed_role d (drop n ts)
skip_parts d zero ts = refl
skip_parts d (suc n) [] = refl
skip_parts d (suc n) (t ∷ ts) = skip_parts d n ts

-- what holds of tokens of which there are some
record FirstPart (d : Division) (ts : List LexedToken) : Type 0 where
  some : 0 < first_child_len lexed_role d ts
  parts_are : parts lexed_role d ts
      ≡ first_part d ts ∷ parts lexed_role d (drop (first_child_len lexed_role d ts) ts)
  kind_is : child_kind (first_part d ts) ≡ child_kind ts

first_part_is : (d : Division) (t : LexedToken) (ts : List LexedToken) → FirstPart d (t ∷ ts)
first_part_is d t ts = record {
  some = first_len_some d t ts;
  parts_are = ap (λ ps. first_part d (t ∷ ts) ∷ ps)
      (skip_parts d (first_child_len lexed_role d (t ∷ ts) - 1) ts
      ∙ ap (λ m. parts lexed_role d (drop m (t ∷ ts)))
      (let e : suc (first_child_len lexed_role d (t ∷ ts) - 1)
      ≡ first_child_len lexed_role d (t ∷ ts) =
      omega (arith, first_len_some d t ts) in e));
  kind_is = by (first_child_len lexed_role d (t ∷ ts)) (first_len_some d t ts);
}
  where
    by : (n : ℕ) → 0 < n → child_kind (take n (t ∷ ts)) ≡ child_kind (t ∷ ts)
    by zero h = absurd (omega arith)
    by (suc n) h = refl

not_start_after : (n : ℕ) (at_start : Bool) → 0 < n → is_start_after n at_start ≡ false
not_start_after zero at_start h = absurd (omega arith)
not_start_after (suc n) at_start h = refl

-- ---- no COPY data

no_data_here : (s : Strings) (d : Division) (follows : Bool) (at : ℕ) (text : List ℕ)
    → has_data (pieces_from s d follows 0 at text) ≡ false
    → pieces_from s d follows 0 at text ≡ pieces_from s d false 0 at text
no_data_here s d true at [] h = refl
no_data_here s d true at (b ∷ bs) h = absurd (cc)
no_data_here s d false at text h = refl

no_data_later : (p : Piece) (ps all : List Piece) → all ≡ p ∷ ps → has_data all ≡ false
    → has_data ps ≡ false
no_data_later p ps all e h = by (is_data p.kind) (sym (ap has_data e) ∙ h)
  where
    by : (b : Bool) → (b || has_data ps) ≡ false → has_data ps ≡ false
    by true h = absurd (cc)
    by false h = h

children_from : TextsProgress → TextsRestart → (n : ℕ) (s : Strings) (d : Division) (at : ℕ)
    (text : List ℕ) → IsUtf8 text → length text ≤ n
    → has_data (pieces_from s d false 0 at text) ≡ false
    → pieces_from s d false 0 at text
    ≡ child_pieces at (parts lexed_role d (tokens_of s (eqb at 0) text))
children_from progress restart n s d at [] utf8 h none =
    ap (λ ts. child_pieces at (parts lexed_role d ts)) (sym (tokens_none s (eqb at 0)))
children_from progress restart zero s d at (b ∷ bs) utf8 h none = absurd (omega arith)
children_from progress restart (suc n) s d at (b ∷ bs) utf8 h none =
    let text = b ∷ bs in
    let some : 0 < length text = omega arith in
    let ts = tokens_of s (eqb at 0) text in
    let p = first_piece s d (eqb at 0) false text in
    let fits = first_fits progress restart s d (eqb at 0) false text utf8 some in
    let rest = drop p.len text in
    let step = one_piece s d false at text some fits.some in
    let start = begins progress restart s (eqb at 0) text utf8 some in
    let part : FirstPart d ts = subst (FirstPart d) (sym start.tokens)
    (first_part_is d start.first (tokens_of s false (drop start.first.len text))) in
    let m = first_child_len lexed_role d ts in
    let left = after progress restart s (eqb at 0) m text utf8 in
    let later = no_data_later (piece_at at p)
    (pieces_from s d p.data_follows 0 (at + p.len) rest) _ step none in
    let same = no_data_here s d p.data_follows (at + p.len) rest later in
    let next = children_from progress restart n s d (at + p.len) rest
    (IsUtf8-drop text p.len utf8 fits.boundary)
    (let len = length-drop p.len text in omega (arith, fits.some, len))
    (ap has_data (sym same) ∙ later) in
    let tokens_left : drop m ts ≡ tokens_of s (eqb (at + p.len) 0) rest =
    left.rest ∙ ap (λ start. tokens_of s start rest) (not_start_after m (eqb at 0) part.some
    ∙ sym (not_at_start (at + p.len) (omega (arith, fits.some)))) in
    step ∙ ap (λ ps. piece_at at p ∷ ps) (same ∙ next
    ∙ ap (λ us. child_pieces (at + p.len) (parts lexed_role d us)) (sym tokens_left))
    ∙ ap (λ k. record { kind = k; start = at; end = at + p.len }
    ∷ child_pieces (at + p.len) (parts lexed_role d (drop m ts))) (sym part.kind_is)
    ∙ ap (child_pieces at) (sym part.parts_are)

pub pieces_are_children : TextsProgress → TextsRestart → (s : Strings) (d : Division)
    (text : List ℕ) → IsUtf8 text → AreChildrenWithoutData s d text (pieces_of s d text)
pieces_are_children progress restart s d text utf8 none =
    children_from progress restart (length text) s d 0 text utf8 (omega arith) none

-- ---- the laws together

-- what holds of the pieces of a script
pub record PiecesMeet (s : Strings) (d : Division) (text : List ℕ) (ps : List Piece) : Type 0 where
  pub tiles : PiecesTile text 0 ps
  pub joined_is : joined text ps ≡ text
  pub cuts : AreChildrenOrData s d text ps
  pub children : AreChildrenWithoutData s d text ps

pub pieces_meet : TextsProgress → TextsRestart → (s : Strings) (d : Division) (text : List ℕ)
    (ps : List Piece) → IsUtf8 text → ps ≡ pieces_of s d text → PiecesMeet s d text ps
pieces_meet progress restart s d text ps utf8 is = subst (PiecesMeet s d text) (sym is) (record {
  tiles = pieces_tile progress restart s d text utf8;
  joined_is = pieces_joined progress restart s d text utf8;
  cuts = pieces_are_cut progress restart s d text utf8;
  children = pieces_are_children progress restart s d text utf8;
})
