-- A step of a run of cuts.
use Rattle.std.proofs.Common.{◌≡◌, ℕ, ◌+◌, ◌-◌, ◌<◌, ◌≤◌, Bool, true, false, not, nat_lt, ◌&&◌, eqb, List, [], ◌∷◌, ◌++◌, length, take, drop, refl, sym, ◌∙◌, ap, subst, arith, append_assoc, length-drop}
use Rattle.std.proofs.lemmas.Bool.Decides.{nat_tests}
use Rattle.std.proofs.lemmas.List.{drop-drop, drop_all, append-nil}
use Rattle.std.specs.List.{list_any}
use Rattle.std.specs.Str.{IsUtf8, IsCharBoundary}
use Rattle.std.proofs.lemmas.Str.{IsUtf8-drop, IsCharBoundary-from_rest}
use Rattle.squawk_lexer.specs.Cut.{token_ends}
use Rattle.squawk_lexer.specs.declared.token.Token.{Token}
use Rattle.squawk_cut.specs.Tells.{Tells, IsLawful}
use Rattle.squawk_cut.specs.Tokens.{tokens_from}
use Rattle.squawk_document.specs.Boundaries.{is_boundary, total_len}
use Rattle.squawk_document.specs.Recut.{EndsAtMeeting, IsCutSoFar, MeetsNowhere, is_new_meeting}
use Rattle.squawk_document.proofs.OffsetTests.{total_len-append, token_ends-append, any-append}
use Rattle.squawk_document.proofs.Cutting.{tokens_first, above_zero}

-- before the first cut
pub cutting_start : (t : Tells) (text : List ℕ) (old : List Token) (restart new_end end : ℕ)
    → IsCharBoundary text restart → IsCutSoFar t text old restart new_end end [] restart
cutting_start t text old restart new_end end b =
    record { tokens = refl; offset = omega arith; boundary = b; none_meets = refl }

-- what one more token gives
pub record IsNext (t : Tells) (text : List ℕ) (restart at : ℕ) (fresh_tokens more : List Token)
    (x : Token) (next : ℕ) : Type 0 where
  pub tokens : tokens_from t 0 (eqb restart 0) (drop restart text) ≡ more ++ tokens_from t 0 false
      (drop next text)
  pub offset : next ≡ restart + total_len more
  pub boundary : IsCharBoundary text next
  pub past : at < next
  pub within : next ≤ length text

-- what one more cut gives
pub next_token : (t : Tells) → IsLawful t
    → (text : List ℕ) (old : List Token) (restart new_end end : ℕ) (fresh_tokens : List Token)
    (at : ℕ) (x : Token)
    → IsUtf8 text → IsCutSoFar t text old restart new_end end fresh_tokens at → at < length text
    → x ≡ t.token_at (eqb at 0) (drop at text)
    → IsNext t text restart at fresh_tokens (fresh_tokens ++ x ∷ []) x (at + x.len)
next_token t law text old restart new_end end fresh_tokens at x utf8 cutting inside is =
    let rest_utf8 = IsUtf8-drop text at utf8 cutting.boundary in
    let filled : 0 < length (drop at text) = omega (arith, length-drop at text) in
    let step = tokens_first t law (eqb at 0) (drop at text) rest_utf8 filled in
    let after : drop (t.token_at (eqb at 0) (drop at text)).len (drop at text) ≡ drop
    (at + x.len) text = ap (λ (y : Token). drop y.len (drop at text)) (sym is)
    ∙ drop-drop x.len at text in
    let some : 0 < x.len =
    subst (λ (y : Token). 0 < y.len) (sym is)
    (law.some (eqb at 0) (drop at text) rest_utf8 filled) in
    let bound : IsCharBoundary (drop at text) x.len =
    subst (λ (y : Token). IsCharBoundary (drop at text) y.len) (sym is)
    (law.within (eqb at 0) (drop at text) rest_utf8 filled) in
    let boundary = IsCharBoundary-from_rest text at x.len (omega arith) bound in
    let offset : at ≡ restart + total_len fresh_tokens = cutting.offset in
    record {
      tokens = cutting.tokens
          ∙ ap (λ ts. fresh_tokens ++ ts)
          (step ∙ ap (λ w. t.token_at (eqb at 0) (drop at text) ∷ tokens_from t 0 false w) after
          ∙ ap (λ (y : Token). y ∷ tokens_from t 0 false (drop (at + x.len) text)) (sym is))
          ∙ sym (append_assoc fresh_tokens (x ∷ [])
          (tokens_from t 0 false (drop (at + x.len) text)));
      offset = omega (arith, total_len-append fresh_tokens (x ∷ []));
      boundary = boundary;
      past = omega arith;
      within = boundary.0;
    }

-- no meeting at one more end
unmet_more : (q : ℕ → Bool) (restart : ℕ) (fresh_tokens : List Token) (x : Token) (at next : ℕ)
    → at ≡ restart + total_len fresh_tokens → next ≡ at + x.len
    → list_any q (token_ends restart fresh_tokens) ≡ false → q next ≡ false
    → list_any q (token_ends restart (fresh_tokens ++ x ∷ [])) ≡ false
unmet_more q restart fresh_tokens x at next offset is none fails =
    let same : restart + total_len fresh_tokens + x.len ≡ next = omega arith in
    ap (list_any q) (token_ends-append restart fresh_tokens (x ∷ []))
    ∙ any-append q (token_ends restart fresh_tokens) _ ∙ rw (none, same, fails) refl

-- one more token at whose end the texts do not meet
pub cutting_more : (t : Tells) → IsLawful t
    → (text : List ℕ) (old : List Token) (restart new_end end : ℕ) (fresh_tokens more : List Token)
    (at : ℕ) (x : Token)
    → IsUtf8 text → IsCutSoFar t text old restart new_end end fresh_tokens at → at < length text
    → x ≡ t.token_at (eqb at 0) (drop at text) → more ≡ fresh_tokens ++ x ∷ []
    → is_new_meeting new_end end old (at + x.len) ≡ false
    → IsCutSoFar t text old restart new_end end more (at + x.len)
cutting_more t law text old restart new_end end fresh_tokens more at x utf8 cutting inside is push
    fails =
    let n = next_token t law text old restart new_end end fresh_tokens at x utf8 cutting inside is
    in
    let past : at < at + x.len = n.past in
    let flag : eqb (at + x.len) 0 ≡ false = above_zero (at + x.len) (omega arith) in
    subst (λ ts. IsCutSoFar t text old restart new_end end ts (at + x.len)) (sym push) (record {
      tokens = n.tokens ∙ ap (λ b. (fresh_tokens ++ x ∷ []) ++ tokens_from t 0 b
          (drop (at + x.len) text)) (sym flag);
      offset = n.offset;
      boundary = n.boundary;
      none_meets = unmet_more (is_new_meeting new_end end old) restart fresh_tokens x at
          (at + x.len) cutting.offset refl cutting.none_meets fails;
    })

-- one more token at whose end the texts meet
pub cut_meets : (t : Tells) → IsLawful t
    → (text : List ℕ) (old : List Token) (restart new_end end : ℕ) (fresh_tokens more : List Token)
    (at : ℕ) (x : Token) (next : ℕ)
    → IsUtf8 text → IsCutSoFar t text old restart new_end end fresh_tokens at → at < length text
    → x ≡ t.token_at (eqb at 0) (drop at text) → more ≡ fresh_tokens ++ x ∷ []
    → is_new_meeting new_end end old (at + x.len) ≡ true → next ≤ length old
    → total_len (take next old) ≡ at + x.len - new_end + end
    → EndsAtMeeting t text old restart new_end end more next
cut_meets t law text old restart new_end end fresh_tokens more at x next utf8 cutting inside is push
    yes_is within here =
    let n = next_token t law text old restart new_end end fresh_tokens at x utf8 cutting inside is
    in
    let offset : at + x.len ≡ restart + total_len (fresh_tokens ++ x ∷ []) = n.offset in
    let test = new_meeting_parts new_end end old (at + x.len) yes_is in
    subst (λ ts. EndsAtMeeting t text old restart new_end end ts next) (sym push) (record {
      before = fresh_tokens;
      last = x;
      parts = refl;
      none_meets = cutting.none_meets;
      tokens = n.tokens ∙ ap (λ m. (fresh_tokens ++ x ∷ []) ++ tokens_from t 0 false (drop m text))
          offset;
      low = omega (arith, test.0);
      within = within;
      offset = here ∙ ap (λ m. m - new_end + end) offset;
      some = omega (arith, test.1);
    })
  where
    new_meeting_parts : (new_end end : ℕ) (old : List Token) (p : ℕ)
        → is_new_meeting new_end end old p ≡ true → (new_end ≤ p) × (0 < p - new_end + end)
    new_meeting_parts new_end end old p e =
        by (nat_lt p new_end) (nat_lt 0 (p - new_end + end)) refl refl e
      where
        by : (a b : Bool) → nat_lt p new_end ≡ a → nat_lt 0 (p - new_end + end) ≡ b
            → (not a && (b && is_boundary old (p - new_end + end))) ≡ true
            → (new_end ≤ p) × (0 < p - new_end + end)
        by true b f g e = absurd (cc)
        by false true f g e = (grind (arith, nat_tests), grind (arith, nat_tests))
        by false false f g e = absurd (cc)

-- no token is left
pub cutting_ends : (t : Tells) (text : List ℕ) (old : List Token) (restart new_end end : ℕ)
    (fresh_tokens : List Token) (at : ℕ) → IsCutSoFar t text old restart new_end end fresh_tokens at
    → length text ≤ at → MeetsNowhere t text old restart new_end end fresh_tokens
cutting_ends t text old restart new_end end fresh_tokens at cutting past = record {
  tokens = cutting.tokens
      ∙ ap (λ w. fresh_tokens ++ tokens_from t 0 (eqb at 0) w) (drop_all at text past)
      ∙ append-nil fresh_tokens;
  none_meets = cutting.none_meets;
}
