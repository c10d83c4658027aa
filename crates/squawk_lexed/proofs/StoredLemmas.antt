-- The tokens that are read off the stored lists are those that were stored.
use Rattle.std.proofs.Common.{◌≡◌, ℕ, zero, suc, ◌+◌, ◌-◌, ◌<◌, ◌≤◌, ◌^◌, true, false, ◌&&◌, List, [], ◌∷◌, ◌++◌, length, take, drop, get_or, nat_lt, refl, ap, sym, subst, ◌∙◌, arith}
use Rattle.std.proofs.lemmas.Bool.{and_parts}
use Rattle.std.proofs.lemmas.List.{append-nil, get_or_default}
use Rattle.std.proofs.lemmas.Bool.Decides.{nat_tests}
use Rattle.std.specs.Str.{IsCharBoundary}
use Rattle.squawk_events.specs.declared.steps.ParseError.{ParseError}
use Rattle.squawk_events.specs.declared.steps.StrStep.TheVariants as step
use Rattle.squawk_lexer.specs.declared.token.Token.{Token}
use Rattle.squawk_lexer.specs.Cut.{Tiles}
use Rattle.squawk_lexer.specs.Flags.{FlagsLieWithin, AreCut}
use Rattle.squawk_lexed.specs.declared.fault.Fault.{Fault}
use Rattle.squawk_lexed.specs.LexedToken.{LexedToken}
use Rattle.squawk_lexed.specs.Faults.{fault_within, faults_within}
use Rattle.squawk_lexed.specs.LexedText.{LexedText, lexed_tokens, token_start, total_len, are_sound}
use Rattle.squawk_lexed.specs.Stored.{kinds_of, starts_of, errors_at, errors_of, faults_before, errors_from, lexed_tokens_from, faults_at, AreBoundaries, IsStoredAs, IsStored}
use Rattle.squawk_lexed.proofs.FaultLemmas.{flagged, faults_lie_within}

-- what the test `nat_lt` returns, and a difference
not_less : (a b : ℕ) → b ≤ a → nat_lt a b ≡ false
not_less a b h = grind (arith, nat_tests)

is_less : (a b : ℕ) → a < b → nat_lt a b ≡ true
is_less a b h = grind (arith, nat_tests)

taken_off : (at n : ℕ) → (at + n) - at ≡ n
taken_off at n = omega arith

-- ---- errors that begin at the end of a token or after it are not its own: none of them is taken,
-- and all are left

none_before : (start end at : ℕ) (ts : List LexedToken) → end ≤ at
    → faults_before start end (errors_of at ts) ≡ []
none_before start end at [] h = refl
none_before start end at (t ∷ ts) h =
    by t.faults (none_before start end (at + t.len) ts (omega arith))
  where
    by : (fs : List Fault) → faults_before start end (errors_of (at + t.len) ts) ≡ []
        → faults_before start end (errors_at at fs ++ errors_of (at + t.len) ts) ≡ []
    by [] rest = rest
    by (f ∷ fs) rest = rw (not_less (at + f.start) end (omega arith)) refl

all_after : (end at : ℕ) (ts : List LexedToken) → end ≤ at
    → errors_from end (errors_of at ts) ≡ errors_of at ts
all_after end at [] h = refl
all_after end at (t ∷ ts) h = by t.faults (all_after end (at + t.len) ts (omega arith))
  where
    by : (fs : List Fault) → errors_from end (errors_of (at + t.len) ts) ≡ errors_of (at + t.len) ts
        → errors_from end (errors_at at fs ++ errors_of (at + t.len) ts)
        ≡ errors_at at fs ++ errors_of (at + t.len) ts
    by [] rest = rest
    by (f ∷ fs) rest = rw (not_less (at + f.start) end (omega arith)) refl

-- ---- a token's own errors begin before its end, so they are taken, and none of them is left

begins_within : (len : ℕ) (f : Fault) → fault_within len f ≡ true → f.start < len
begins_within len f h = grind (arith, nat_tests)

own_before : (at len : ℕ) (fs : List Fault) (es : List ParseError) → faults_within len fs ≡ true
    → faults_before at (at + len) es ≡ []
    → faults_before at (at + len) (errors_at at fs ++ es) ≡ fs
own_before at len [] es h none = none
own_before at len (f ∷ fs) es h none =
    let parts = and_parts (fault_within len f) (faults_within len fs) h in
    let inside = begins_within len f parts.0 in
    rw (
      is_less (at + f.start) (at + len) (omega arith),
      taken_off at f.start,
      taken_off at f.end,
      own_before at len fs es parts.1 none,
    ) refl

own_after : (at len : ℕ) (fs : List Fault) (es : List ParseError) → faults_within len fs ≡ true
    → errors_from (at + len) es ≡ es
    → errors_from (at + len) (errors_at at fs ++ es) ≡ es
own_after at len [] es h all = all
own_after at len (f ∷ fs) es h all =
    let parts = and_parts (fault_within len f) (faults_within len fs) h in
    let inside = begins_within len f parts.0 in
    rw (is_less (at + f.start) (at + len) (omega arith)) (own_after at len fs es parts.1 all)

-- the first start
first_start : (at : ℕ) (ts : List LexedToken) → get_or (starts_of at ts) 0 0 ≡ at
first_start at [] = refl
first_start at (t ∷ ts) = refl

-- tokens are read back from the lists that store them
pub read_back : (at : ℕ) (ts : List LexedToken) → are_sound ts ≡ true
    → lexed_tokens_from (kinds_of ts) (starts_of at ts) (errors_of at ts) ≡ ts
read_back at [] h = refl
read_back at (t ∷ ts) h =
    let parts = and_parts (nat_lt 0 t.len) (faults_within t.len t.faults && are_sound ts) h in
    let more = and_parts (faults_within t.len t.faults) (are_sound ts) parts.1 in
    rw (
      first_start (at + t.len) ts,
      taken_off at t.len,
      own_before at t.len t.faults (errors_of (at + t.len) ts) more.0
          (none_before at (at + t.len) (at + t.len) ts (omega arith)),
      own_after at t.len t.faults (errors_of (at + t.len) ts) more.0
          (all_after (at + t.len) (at + t.len) ts (omega arith)),
      read_back (at + t.len) ts more.1,
    ) refl

-- ---- the tokens of a text are sound, cover it, and begin and end at character boundaries

pub tokens_are_sound : FlagsLieWithin → (text : List ℕ) (at : ℕ) (ts : List Token) → AreCut ts
    → are_sound (lexed_tokens text at ts) ≡ true
tokens_are_sound law text at [] cut = refl
tokens_are_sound law text at (t ∷ ts) cut =
    rw (is_less 0 t.len (flagged law t cut.0).some, faults_lie_within law t cut.0)
    (tokens_are_sound law text (at + t.len) ts cut.1)

pub tokens_cover_text : (text : List ℕ) (at : ℕ) (ts : List Token) → Tiles text at ts
    → at + total_len (lexed_tokens text at ts) ≡ length text
tokens_cover_text text at [] tiles = omega arith
tokens_cover_text text at (t ∷ ts) (some, real, boundary, more) =
    omega (arith, tokens_cover_text text (at + t.len) ts more)

pub tokens_have_boundaries : (text : List ℕ) (at : ℕ) (ts : List Token) → IsCharBoundary text at
    → Tiles text at ts → AreBoundaries text (starts_of at (lexed_tokens text at ts))
tokens_have_boundaries text at [] here tiles = (here, tt)
tokens_have_boundaries text at (t ∷ ts) here (some, real, boundary, more) =
    (here, tokens_have_boundaries text (at + t.len) ts boundary more)

-- ---- lists that store tokens store those that are read off them

pub kept_as : (text kinds starts : List ℕ) (errors : List ParseError) (ts : List LexedToken)
    → IsStoredAs text kinds starts errors ts → lexed_tokens_from kinds starts errors ≡ ts
kept_as text kinds starts errors ts is =
    rw (is.kinds_are, is.starts_are, is.errors_are) (read_back 0 ts is.sound)

pub stored : (text kinds starts : List ℕ) (errors : List ParseError) (ts : List LexedToken)
    → IsStoredAs text kinds starts errors ts → IsStored text kinds starts errors
stored text kinds starts errors ts is =
    subst (IsStoredAs text kinds starts errors) (sym (kept_as text kinds starts errors ts is)) is

-- ---- the lengths of the lists, and the elements at an index

pub length_kinds : (ts : List LexedToken) → length (kinds_of ts) ≡ length ts
length_kinds [] = refl
length_kinds (t ∷ ts) = ap suc (length_kinds ts)

pub length_starts : (at : ℕ) (ts : List LexedToken) → length (starts_of at ts) ≡ suc (length ts)
length_starts at [] = refl
length_starts at (t ∷ ts) = ap suc (length_starts (at + t.len) ts)

pub start_at : (d at : ℕ) (ts : List LexedToken) (i : ℕ) → i ≤ length ts
    → get_or (starts_of at ts) i d ≡ at + total_len (take i ts)
start_at d at [] zero h = omega arith
start_at d at [] (suc i) h = absurd (omega arith)
start_at d at (t ∷ ts) zero h = omega arith
start_at d at (t ∷ ts) (suc i) h = omega (arith, start_at d (at + t.len) ts i (omega arith))

pub bounded_at : (text starts : List ℕ) (i : ℕ) → AreBoundaries text starts → i < length starts
    → IsCharBoundary text (get_or starts i 0)
bounded_at text [] i all h = absurd (omega arith)
bounded_at text (p ∷ starts) zero all h = all.0
bounded_at text (p ∷ starts) (suc i) all h = bounded_at text starts i all.1 (omega arith)

-- starts do not decrease
pub rising : (ts : List LexedToken) (i j : ℕ) → i ≤ j
    → total_len (take i ts) ≤ total_len (take j ts)
rising ts zero j h = omega arith
rising ts (suc i) zero h = absurd (omega arith)
rising [] (suc i) (suc j) h = omega arith
rising (t ∷ ts) (suc i) (suc j) h = omega (arith, rising ts i j (omega arith))

-- ---- the loop over all tokens: its three lists store the tokens of the text

pub all_kept : FlagsLieWithin → (text : List ℕ) (ts : List Token) → AreCut ts → Tiles text 0 ts
    → IsCharBoundary text 0 → length text < 2 ^ 32
    → (at : ℕ) (left : List Token) (kinds starts starts' : List ℕ) (errors : List ParseError)
    → left ≡ []
    → kinds ++ kinds_of (lexed_tokens text at left) ≡ kinds_of (lexed_tokens text 0 ts)
    → starts ++ starts_of at (lexed_tokens text at left) ≡ starts_of 0 (lexed_tokens text 0 ts)
    → starts' ≡ starts ++ at ∷ []
    → errors ++ errors_of at (lexed_tokens text at left) ≡ errors_of 0 (lexed_tokens text 0 ts)
    → IsStoredAs text kinds starts' errors (lexed_tokens text 0 ts)
all_kept law text ts cut tiles here fits at left kinds starts starts' errors none k s s' e =
    record {
      kinds_are = sym (append-nil kinds) ∙ rw none at k;
      starts_are = s' ∙ rw none at s;
      errors_are = sym (append-nil errors) ∙ rw none at e;
      sound = tokens_are_sound law text 0 ts cut;
      whole = omega (arith, tokens_cover_text text 0 ts tiles);
      fits = fits;
      boundaries = tokens_have_boundaries text 0 ts here tiles;
    }

-- ---- what the accessors read off the lists: the lengths, starts and boundaries of the tokens that
-- a contract names

-- the lists store the tokens of the value that a contract names
pub seen_as : (text kinds starts : List ℕ) (errors : List ParseError) (l : LexedText)
    → record { text = text; tokens = lexed_tokens_from kinds starts errors } ≡ l
    → IsStored text kinds starts errors → IsStoredAs text kinds starts errors l.tokens
seen_as text kinds starts errors l seen is =
    subst (λ m. IsStoredAs text kinds starts errors m.tokens) seen is

pub count : (text kinds starts : List ℕ) (errors : List ParseError) (ts : List LexedToken)
    → IsStoredAs text kinds starts errors ts → length kinds ≡ length ts
count text kinds starts errors ts is = rw is.kinds_are (length_kinds ts)

pub count_starts : (text kinds starts : List ℕ) (errors : List ParseError) (ts : List LexedToken)
    → IsStoredAs text kinds starts errors ts → length starts ≡ suc (length ts)
count_starts text kinds starts errors ts is = rw is.starts_are (length_starts 0 ts)

pub start_of_token : (text kinds starts : List ℕ) (errors : List ParseError) (ts : List LexedToken)
    → IsStoredAs text kinds starts errors ts
    → (i d : ℕ) → i ≤ length ts → get_or starts i d ≡ total_len (take i ts)
start_of_token text kinds starts errors ts is i d h =
    rw is.starts_are (omega (arith, start_at d 0 ts i h))

pub boundary_at : (text kinds starts : List ℕ) (errors : List ParseError) (ts : List LexedToken)
    → IsStoredAs text kinds starts errors ts
    → (i : ℕ) → i ≤ length ts → IsCharBoundary text (total_len (take i ts))
boundary_at text kinds starts errors ts is i h =
    let len = length_starts 0 ts in
    subst (IsCharBoundary text) (omega (arith, start_at 0 0 ts i h))
    (bounded_at text (starts_of 0 ts) i is.boundaries (omega arith))

-- there are no more tokens than bytes
pub few_tokens : (ts : List LexedToken) → are_sound ts ≡ true → length ts ≤ total_len ts
few_tokens [] h = omega arith
few_tokens (t ∷ ts) h =
    let parts = and_parts (nat_lt 0 t.len) (faults_within t.len t.faults && are_sound ts) h in
    let some : 0 < t.len = grind (arith, nat_tests) in
    omega (arith, few_tokens ts (and_parts (faults_within t.len t.faults) (are_sound ts) parts.1).1)

-- so the index after a token fits in a `u32`
pub next_fits : (text kinds starts : List ℕ) (errors : List ParseError) (ts : List LexedToken)
    → IsStoredAs text kinds starts errors ts
    → (i : ℕ) → i < length ts → i + 1 < 2 ^ 32
next_fits text kinds starts errors ts is i h =
    omega (arith, few_tokens ts is.sound, is.whole, is.fits)

-- ---- the token at an index, by its kind and by the two starts around it

token_in : (at : ℕ) (ts : List LexedToken) (i k s e : ℕ) → i < length ts
    → k ≡ get_or (kinds_of ts) i k → s ≡ get_or (starts_of at ts) i s
    → e ≡ get_or (starts_of at ts) (suc i) e
    → drop i ts ≡ record { kind = k; len = e - s; faults = faults_at ts i } ∷ drop (suc i) ts
token_in at [] i k s e h p q r = absurd (omega arith)
token_in at (t ∷ ts) zero k s e h p q r =
    let len : e - s ≡ t.len = omega (arith, start_at e (at + t.len) ts 0 (omega arith), q, r) in
    rw (len, p) refl
token_in at (t ∷ ts) (suc i) k s e h p q r = token_in (at + t.len) ts i k s e (omega arith) p q r

next : (i : ℕ) → i + 1 ≡ suc i
next i = omega arith

pub token_at_index : (text kinds starts : List ℕ) (errors : List ParseError) (ts : List LexedToken)
    → IsStoredAs text kinds starts errors ts
    → (i k s e : ℕ) → i < length ts → k ≡ get_or kinds i k → s ≡ get_or starts i s
    → e ≡ get_or starts (i + 1) e
    → drop i ts ≡ record { kind = k; len = e - s; faults = faults_at ts i } ∷ drop (i + 1) ts
token_at_index text kinds starts errors ts is i k s e h p q r =
    rw (next i) (token_in 0 ts i k s e h (rw is.kinds_are at p) (rw is.starts_are at q)
    (rw (is.starts_are, next i) at r))

-- the `Token` step of the token at an index, by its kind and by the two starts around it
pub step_of_token : (text kinds starts : List ℕ) (errors : List ParseError) (ts : List LexedToken)
    → IsStoredAs text kinds starts errors ts
    → (i k s e : ℕ) → i < length ts → k ≡ get_or kinds i k → s ≡ get_or starts i s
    → e ≡ get_or starts (i + 1) e
    → step.Token k s e
    ≡ step.Token (get_or (kinds_of ts) i 0) (token_start ts i) (token_start ts (i + 1))
step_of_token text kinds starts errors ts is i k s e h p q r =
    let size = length_kinds ts in
    let kind : k ≡ get_or (kinds_of ts) i 0 =
    rw is.kinds_are at p ∙ get_or_default (kinds_of ts) i k 0 (omega arith) in
    let start = q ∙ start_of_token text kinds starts errors ts is i s (omega arith) in
    let end = r ∙ start_of_token text kinds starts errors ts is (i + 1) e (omega arith) in
    rw (kind, start, end) refl

-- two adjacent starts do not decrease
pub starts_rise : (text kinds starts : List ℕ) (errors : List ParseError) (ts : List LexedToken)
    → IsStoredAs text kinds starts errors ts
    → (i s e : ℕ) → i < length ts → s ≡ get_or starts i s → e ≡ get_or starts (i + 1) e → s ≤ e
starts_rise text kinds starts errors ts is i s e h q r =
    omega (
      arith,
      q,
      r,
      start_of_token text kinds starts errors ts is i s (omega arith),
      start_of_token text
          kinds starts errors ts is (i + 1) e (omega arith),
      rising ts i (i + 1) (omega arith),
    )

-- the tokens of the value cover its text, which is shorter than 4 GiB
pub seen_whole : (text kinds starts : List ℕ) (errors : List ParseError) (l : LexedText)
    → record { text = text; tokens = lexed_tokens_from kinds starts errors } ≡ l
    → IsStored text kinds starts errors → (total_len l.tokens ≡ length l.text)
    × (length l.text < 2 ^ 32)
seen_whole text kinds starts errors l seen is =
    subst (λ m. (total_len m.tokens ≡ length m.text)
    × (length m.text < 2 ^ 32)) seen (is.whole, is.fits)
