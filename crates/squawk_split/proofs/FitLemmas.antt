-- Each piece has at least one byte and ends at a character boundary.
use Rattle.std.proofs.Common.{◌≡◌, ◌⊎◌, inl, inr, ℕ, zero, suc, ◌+◌, ◌<◌, Bool, true, false, List, [], ◌∷◌, length, length-drop, take, drop, map, get_or, Option, Some, None, option_map, unwrap_or, refl, sym, ap, subst, ◌&&◌, eqb, cond, arith, IsUtf8}
use Rattle.std.proofs.lemmas.Bool.Decides.{nat_tests}
use Rattle.std.proofs.lemmas.Str.{IsUtf8-drop, IsCharBoundary-end, IsCharBoundary-after_ascii, IsCharBoundary-from_rest}
use Rattle.std.specs.Str.{IsCharBoundary}
use Rattle.squawk_kinds.specs.Role.{Role, role, is_trivia}
use Rattle.squawk_lexed.specs.LexedText.{total_len}
use Rattle.squawk_lexed.specs.LexedToken.{LexedToken, lexed_role}
use Rattle.squawk_lexer.specs.Classes.{line_feed, carriage_return, backslash}
use Rattle.squawk_lexer.specs.LookAhead.{TextsProgress, TextsRestart}
use Rattle.squawk_lexer.specs.declared.token.Strings.{Strings}
use Rattle.squawk_split.specs.CopyData.{full_stop, end_marker_len, copy_data_len}
use Rattle.squawk_split.specs.Pieces.{tokens_of, child_piece, first_piece}
use Rattle.squawk_split.specs.StatementEnds.{next_at}
use Rattle.squawk_split.specs.declared.pieces.NextPiece.{NextPiece}
use Rattle.squawk_split.proofs.TokenSteps.{begins, after}
use Rattle.squawk_statements.specs.Children.{first_child_len, trivia_child, single_token, is_single_token, statement_to, statement_end, statement, ends_statement, open_groups_after}
use Rattle.squawk_statements.specs.declared.division.Division.{Division}

-- the first bytes of a text, so many, are a piece
pub record Fits (text : List ℕ) (len : ℕ) : Type 0 where
  pub some : 0 < len
  pub boundary : IsCharBoundary text len

-- ---- COPY data

-- it extends to the end of the text or to an LF
abbrev DataEnd : List ℕ → ℕ → Type 0
DataEnd text n = (n ≡ length text)
    ⊎ ((k : ℕ) × (n ≡ k + 1) × (k < length text) × (get_or text k 0 ≡ line_feed))

within_of : (text : List ℕ) (k : ℕ) → get_or text k 0 ≡ line_feed → k < length text
within_of [] k e = absurd (cc)
within_of (b ∷ bs) zero e = omega arith
within_of (b ∷ bs) (suc k) e = let w = within_of bs k e in omega (arith, w)

at_line_feed : (text : List ℕ) (k n : ℕ) → n ≡ k + 1 → get_or text k 0 ≡ line_feed
    → DataEnd text n
at_line_feed text k n e is = inr (k, e, within_of text k is, is)

end_later : (c : ℕ) (cs : List ℕ) (n : ℕ) → DataEnd cs n → DataEnd (c ∷ cs) (1 + n)
end_later c cs n (inl e) = inl (omega (arith, e))
end_later c cs n (inr (k, e, w, is)) = inr (suc k, omega (arith, e), omega (arith, w), is)

some_is : {A : Type 0} (b : Bool) (x : A) (m : A) → cond b (Some x) None ≡ Some m
    → (b ≡ true) × (x ≡ m)
some_is true x m e = (refl, ap (λ o. unwrap_or o x) e)
some_is false x m e = absurd (cc)

marker_end : (cs : List ℕ) (m : ℕ) → end_marker_len cs ≡ Some m → DataEnd cs m
marker_end [] m e = absurd (cc)
marker_end (a ∷ []) m e = absurd (cc)
marker_end (a ∷ b ∷ []) m e = ends (eqb a backslash && eqb b full_stop) e
  where
    ends : (t : Bool) → cond t (Some 2) None ≡ Some m → DataEnd (a ∷ b ∷ []) m
    ends true e = two (ap (λ o. unwrap_or o 0) e)
      where
        two : 2 ≡ m → DataEnd (a ∷ b ∷ []) m
        two is = inl (omega (arith, is))
    ends false e = absurd (cc)
marker_end (a ∷ b ∷ c ∷ cs) m e =
    ends (eqb a backslash && eqb b full_stop) (eqb c line_feed) (eqb c carriage_return)
    (eqb (get_or cs 0 0) line_feed) refl refl e
  where
    ends : (t u v w : Bool) → eqb c line_feed ≡ u → eqb (get_or cs 0 0) line_feed ≡ w
        → cond t (cond u (Some 3) (cond (v && w) (Some 4) None)) None ≡ Some m
        → DataEnd (a ∷ b ∷ c ∷ cs) m
    ends true true v w t1 t2 e =
        at_line_feed (a ∷ b ∷ c ∷ cs) 2 m (let is : 3 ≡ m = ap (λ o. unwrap_or o 0) e in
        omega (arith, is)) (let is : c ≡ line_feed = grind (arith, nat_tests) in is)
    ends true false true true t1 t2 e =
        at_line_feed (a ∷ b ∷ c ∷ cs) 3 m (let is : 4 ≡ m = ap (λ o. unwrap_or o 0) e in
        omega (arith, is)) (let is : get_or cs 0 0 ≡ line_feed = grind (arith, nat_tests) in is)
    ends true false true false t1 t2 e = absurd (cc)
    ends true false false w t1 t2 e = absurd (cc)
    ends false u v w t1 t2 e = absurd (cc)

data_end : (text : List ℕ) → DataEnd text (copy_data_len text)
data_end [] = inl refl
data_end (c ∷ cs) = end_later c cs _
    (by (eqb c line_feed) (end_marker_len cs) refl (data_end cs))
  where
    by : (t : Bool) (o : Option ℕ) → end_marker_len cs ≡ o → DataEnd cs (copy_data_len cs)
        → DataEnd cs (unwrap_or (cond t o None) (copy_data_len cs))
    by true (Some m) e rest = marker_end cs m e
    by true None e rest = rest
    by false o e rest = rest

data_fits : (text : List ℕ) → IsUtf8 text → 0 < length text → Fits text (copy_data_len text)
data_fits [] utf8 h = absurd (omega arith)
data_fits (c ∷ cs) utf8 h = record {
  some = omega arith;
  boundary = by (copy_data_len (c ∷ cs)) (data_end (c ∷ cs));
}
  where
    by : (n : ℕ) → DataEnd (c ∷ cs) n → IsCharBoundary (c ∷ cs) n
    by n (inl e) = subst (IsCharBoundary (c ∷ cs)) (sym e) (IsCharBoundary-end (c ∷ cs))
    by n (inr (k, e, w, is)) = subst (IsCharBoundary (c ∷ cs)) (sym e)
        (IsCharBoundary-after_ascii (c ∷ cs) k utf8 w (omega (arith, is)))

-- ---- children

statement_some : (d : Division) (n : ℕ) (f : Role) (fs : List Role) → is_trivia f ≡ false
    → 0 < (statement_to (statement_end d n (f ∷ fs)) (f ∷ fs)).tokens
statement_some d n f fs i = by (ends_statement d n f)
    (statement_end d (open_groups_after n f) fs)
  where
    by : (b : Bool) (o : Option ℕ)
        → 0 < (statement_to (cond b (Some 1) (option_map suc o)) (f ∷ fs)).tokens
    by true o = omega arith
    by false (Some m) = omega arith
    by false None = rw i (omega arith)

pub first_len_some : (d : Division) (t : LexedToken) (ts : List LexedToken)
    → 0 < first_child_len lexed_role d (t ∷ ts)
first_len_some d t ts = by (is_trivia (role t.kind)) (is_single_token (role t.kind)) refl
  where
    by : (b c : Bool) → is_trivia (role t.kind) ≡ b
        → 0 < (cond b trivia_child (cond c single_token
        (statement d (map lexed_role (t ∷ ts))))).tokens
    by true c e = omega arith
    by false true e = omega arith
    by false false e = statement_some d 0 (role t.kind) (map lexed_role ts) e

child_fits : TextsProgress → TextsRestart → (strings : Strings) (d : Division) (at_start : Bool)
    (text : List ℕ) → IsUtf8 text → 0 < length text
    → Fits text (child_piece d (tokens_of strings at_start text)).len
child_fits progress restart strings d at_start text utf8 h =
    let s = begins progress restart strings at_start text utf8 h in
    let us = tokens_of strings false (drop s.first.len text) in
    let n = first_child_len lexed_role d (tokens_of strings at_start text) in
    let n_is : n ≡ first_child_len lexed_role d (s.first ∷ us) =
    ap (first_child_len lexed_role d) s.tokens in
    record {
      some = subst (λ ts. 0 < total_len (take n ts)) (sym s.tokens)
          (some_len n s.first us (subst (λ m. 0 < m) (sym n_is) (first_len_some d s.first us))
          s.some);
      boundary = (after progress restart strings at_start n text utf8).boundary;
    }
  where
    some_len : (n : ℕ) (t : LexedToken) (ts : List LexedToken) → 0 < n → 0 < t.len
        → 0 < total_len (take n (t ∷ ts))
    some_len zero t ts h g = absurd (omega arith)
    some_len (suc n) t ts h g = omega (arith, g)

pub first_fits : TextsProgress → TextsRestart → (strings : Strings) (d : Division)
    (at_start is_data : Bool) (text : List ℕ) → IsUtf8 text → 0 < length text
    → Fits text (first_piece strings d at_start is_data text).len
first_fits progress restart strings d at_start true text utf8 h = data_fits text utf8 h
first_fits progress restart strings d at_start false text utf8 h =
    child_fits progress restart strings d at_start text utf8 h

-- what holds of a piece that begins at an offset
pub record FitsAt (text : List ℕ) (at : ℕ) (r : NextPiece) : Type 0 where
  pub progress : at < r.end
  pub ends_between : IsCharBoundary text r.end

pub fits_at : TextsProgress → TextsRestart → (strings : Strings) (d : Division) (is_data : Bool)
    (text : List ℕ) (at : ℕ) (r : NextPiece) → IsUtf8 text → IsCharBoundary text at
    → at < length text
    → r ≡ next_at at (first_piece strings d (eqb at 0) is_data (drop at text)) → FitsAt text at r
fits_at progress restart strings d is_data text at r utf8 boundary inside is =
    let fits = first_fits progress restart strings d (eqb at 0) is_data (drop at text)
    (IsUtf8-drop text at utf8 boundary) (omega (arith, length-drop at text)) in
    subst (FitsAt text at) (sym is) (record {
      progress = omega (arith, fits.some);
      ends_between = IsCharBoundary-from_rest text at
          (first_piece strings d (eqb at 0) is_data (drop at text)).len boundary.0 fits.boundary;
    })
