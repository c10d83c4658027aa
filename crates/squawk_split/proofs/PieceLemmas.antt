-- The pieces of a script, one after another.
use Rattle.std.proofs.Common.{◌≡◌, ◌⊎◌, inl, inr, ℕ, zero, suc, ◌+◌, ◌-◌, ◌<◌, ◌≤◌, Bool, true, false, List, [], ◌∷◌, ◌++◌, length, drop, append_assoc, append-nil, length-drop, refl, sym, ap, subst, ◌∙◌, eqb, arith, IsUtf8}
use Rattle.std.proofs.lemmas.Bool.{cases_lt}
use Rattle.std.proofs.lemmas.List.{drop-drop}
use Rattle.std.proofs.Math.Seq.{drop-length}
use Rattle.std.proofs.Math.ListN.{drop_of_length-le}
use Rattle.std.specs.List.{slice_range}
use Rattle.std.proofs.lemmas.List.Folds.{drop_split}
use Rattle.std.proofs.lemmas.Str.{IsUtf8-drop, IsCharBoundary-from_rest, IsCharBoundary-start}
use Rattle.std.specs.Str.{IsCharBoundary}
use Rattle.squawk_lexer.specs.LookAhead.{TextsProgress, TextsRestart}
use Rattle.squawk_lexer.specs.declared.token.Strings.{Strings}
use Rattle.squawk_split.specs.PieceLaws.{PiecesTile, joined, IsChildPiece, IsDataPiece, AreChildrenOrData}
use Rattle.squawk_split.specs.Pieces.{first_piece, piece_at, pieces_from, pieces_of}
use Rattle.squawk_split.specs.declared.pieces.Piece.{Piece}
use Rattle.squawk_split.specs.StatementEnds.{next_at}
use Rattle.squawk_split.specs.declared.pieces.NextPiece.{NextPiece}
use Rattle.squawk_split.proofs.FitLemmas.{Fits, first_fits}
use Rattle.squawk_statements.specs.declared.division.Division.{Division}

-- ---- one piece, and those after it

skip : (s : Strings) (d : Division) (is_data : Bool) (n at : ℕ) (text : List ℕ)
    → pieces_from s d is_data n at text ≡ pieces_from s d is_data 0 at (drop n text)
skip s d is_data zero at text = refl
skip s d is_data (suc n) at [] = refl
skip s d is_data (suc n) at (b ∷ bs) = skip s d is_data n at bs

pub one_piece : (s : Strings) (d : Division) (is_data : Bool) (at : ℕ) (text : List ℕ)
    → 0 < length text → 0 < (first_piece s d (eqb at 0) is_data text).len
    → pieces_from s d is_data 0 at text
    ≡ piece_at at (first_piece s d (eqb at 0) is_data text)
    ∷ pieces_from s d (first_piece s d (eqb at 0) is_data text).data_follows 0
    (at + (first_piece s d (eqb at 0) is_data text).len)
    (drop (first_piece s d (eqb at 0) is_data text).len text)
one_piece s d is_data at [] h some = absurd (omega arith)
one_piece s d is_data at (b ∷ bs) h some =
    let p = first_piece s d (eqb at 0) is_data (b ∷ bs) in
    ap (λ ps. piece_at at p ∷ ps) (skip s d p.data_follows (p.len - 1) (at + p.len) bs
    ∙ ap (λ n. pieces_from s d p.data_follows 0 (at + p.len) (drop n (b ∷ bs)))
    (let e : suc (p.len - 1) ≡ p.len = omega arith in e))

-- ---- what holds of all the pieces

-- what the pieces from an offset of a script on are
record Laws (s : Strings) (d : Division) (text : List ℕ) (at : ℕ) (ps : List Piece) : Type 0 where
  tiles : PiecesTile text at ps
  cuts : AreChildrenOrData s d text ps

-- the laws of a first piece and of those after it
laws_more : (s : Strings) (d : Division) (text : List ℕ) (at : ℕ) (is_data : Bool) (ps : List Piece)
    → Fits (drop at text) (first_piece s d (eqb at 0) is_data (drop at text)).len
    → at ≤ length text
    → Laws s d text (at + (first_piece s d (eqb at 0) is_data (drop at text)).len) ps
    → Laws s d text at (piece_at at (first_piece s d (eqb at 0) is_data (drop at text)) ∷ ps)
laws_more s d text at is_data ps fits within rest = record {
  tiles = (
    refl,
    omega (arith, fits.some),
    IsCharBoundary-from_rest text at (first_piece s d (eqb at 0) is_data (drop at text)).len within
        fits.boundary,
    rest.tiles,
  );
  cuts = (by is_data, rest.cuts);
}
  where
    by : (is_data : Bool)
        → IsChildPiece s d text (piece_at at (first_piece s d (eqb at 0) is_data (drop at text)))
        ⊎ IsDataPiece text (piece_at at (first_piece s d (eqb at 0) is_data (drop at text)))
    by true = inr refl
    by false = inl refl

-- the laws at the end of the script
laws_end : (s : Strings) (d : Division) (text : List ℕ) (at : ℕ) (is_data : Bool) (rest : List ℕ)
    → drop at text ≡ rest → length rest ≡ 0 → at ≤ length text
    → Laws s d text at (pieces_from s d is_data 0 at rest)
laws_end s d text at is_data [] e none within = record {
  tiles = let gone : length text - at ≡ 0 = sym (length-drop at text) ∙ ap length e in
      omega (arith, within, gone);
  cuts = tt;
}
laws_end s d text at is_data (b ∷ bs) e none within = absurd (omega (arith, none))

laws_from : TextsProgress → TextsRestart → (n : ℕ) (s : Strings) (d : Division) (is_data : Bool)
    (text : List ℕ) (at : ℕ) → IsUtf8 text → IsCharBoundary text at → length text ≤ at + n
    → Laws s d text at (pieces_from s d is_data 0 at (drop at text))
laws_from progress restart zero s d is_data text at utf8 boundary h =
    laws_end s d text at is_data (drop at text) refl (omega (arith, length-drop at text)) boundary.0
laws_from progress restart (suc n) s d is_data text at utf8 boundary h =
    by (cases_lt at (length text)) (λ is_data at boundary h.
    laws_from progress restart n s d is_data text at utf8 boundary h)
  where
    by : (at < length text) ⊎ (length text ≤ at)
        → ((is_data : Bool) (at : ℕ) → IsCharBoundary text at → length text ≤ at + n
        → Laws s d text at (pieces_from s d is_data 0 at (drop at text)))
        → Laws s d text at (pieces_from s d is_data 0 at (drop at text))
    by (inr gone) next = laws_end s d text at is_data (drop at text) refl
        (omega (arith, length-drop at text, gone)) boundary.0
    by (inl more) next =
        let some : 0 < length (drop at text) = omega (arith, length-drop at text, more) in
        let p = first_piece s d (eqb at 0) is_data (drop at text) in
        let fits = first_fits progress restart s d (eqb at 0) is_data (drop at text)
        (IsUtf8-drop text at utf8 boundary) some in
        subst (Laws s d text at) (sym (one_piece s d is_data at (drop at text) some fits.some))
        (laws_more s d text at is_data _ fits boundary.0
        (subst (λ u. Laws s d text (at + p.len) (pieces_from s d p.data_follows 0 (at + p.len) u))
        (sym (drop-drop p.len at text))
        (next p.data_follows (at + p.len)
        (IsCharBoundary-from_rest text at p.len boundary.0 fits.boundary)
        (omega (arith, fits.some, h)))))

-- pieces that tile a text are the text when they are joined
tiles_joined : (text : List ℕ) (at : ℕ) (ps : List Piece) → PiecesTile text at ps
    → joined text ps ≡ drop at text
tiles_joined text at [] e = sym (ap (λ n. drop n text) e ∙ drop-length text)
tiles_joined text at (p ∷ ps) (e, some, boundary, rest) =
    ap (λ us. slice_range text p.start p.end ++ us) (tiles_joined text p.end ps rest)
    ∙ sym (drop_split text p.start p.end (omega (arith, some)))
    ∙ ap (λ n. drop n text) e

pub pieces_tile : TextsProgress → TextsRestart → (s : Strings) (d : Division) (text : List ℕ)
    → IsUtf8 text → PiecesTile text 0 (pieces_of s d text)
pieces_tile progress restart s d text utf8 =
    (laws_from progress restart (length text) s d false text 0 utf8
    (IsCharBoundary-start text utf8) (omega arith)).tiles

pub pieces_joined : TextsProgress → TextsRestart → (s : Strings) (d : Division) (text : List ℕ)
    → IsUtf8 text → joined text (pieces_of s d text) ≡ text
pieces_joined progress restart s d text utf8 =
    tiles_joined text 0 (pieces_of s d text) (pieces_tile progress restart s d text utf8)

pub pieces_are_cut : TextsProgress → TextsRestart → (s : Strings) (d : Division) (text : List ℕ)
    → IsUtf8 text → AreChildrenOrData s d text (pieces_of s d text)
pieces_are_cut progress restart s d text utf8 =
    (laws_from progress restart (length text) s d false text 0 utf8
    (IsCharBoundary-start text utf8) (omega arith)).cuts

-- ---- the loop over pieces

-- one piece more
pub push_piece : (s : Strings) (d : Division) (is_data : Bool) (at : ℕ) (text : List ℕ)
    (old new whole : List Piece) (r : NextPiece)
    → new ≡ old ++ record { kind = r.kind; start = at; end = r.end } ∷ []
    → r ≡ next_at at (first_piece s d (eqb at 0) is_data (drop at text))
    → at < r.end → at < length text
    → old ++ pieces_from s d is_data 0 at (drop at text) ≡ whole
    → new ++ pieces_from s d r.data_follows 0 r.end (drop r.end text) ≡ whole
push_piece s d is_data at text old new whole r pushed is progress inside inv =
    let p = first_piece s d (eqb at 0) is_data (drop at text) in
    let own : Piece = record { kind = r.kind; start = at; end = r.end } in
    let rest = pieces_from s d r.data_follows 0 r.end (drop r.end text) in
    let end_is : r.end ≡ at + p.len = ap (λ (x : NextPiece). x.end) is in
    let some : 0 < p.len = omega (arith, end_is, progress) in
    let step = one_piece s d is_data at (drop at text) (omega (arith, length-drop at text, inside))
    some in
    ap (λ ps. ps ++ rest) pushed ∙ append_assoc old (own ∷ []) rest
    ∙ ap (λ ps. old ++ ps) (ap (λ (x : NextPiece).
    record { kind = x.kind; start = at; end = x.end }
    ∷ pieces_from s d x.data_follows 0 x.end (drop x.end text)) is
    ∙ ap (λ u. piece_at at p ∷ pieces_from s d p.data_follows 0 (at + p.len) u)
    (sym (drop-drop p.len at text)) ∙ sym step)
    ∙ inv

-- the end of the script
pub all_pieces : (s : Strings) (d : Division) (is_data : Bool) (at : ℕ) (text : List ℕ)
    (ps whole : List Piece) → length text ≤ at
    → ps ++ pieces_from s d is_data 0 at (drop at text) ≡ whole → ps ≡ whole
all_pieces s d is_data at text ps whole h inv =
    sym (append-nil ps)
    ∙ ap (λ u. ps ++ pieces_from s d is_data 0 at u) (sym (drop_of_length-le text h)) ∙ inv
