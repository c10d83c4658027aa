-- The first line of a record, and a record, by what the code reads.
use Rattle.std.proofs.Common.{◌≡◌, ◌≢◌, ℕ, ◌+◌, ◌-◌, ◌<◌, ◌≤◌, true, false, List, [], ◌∷◌, take, drop, length, slice_index, Some, None, refl, ap, ◌∙◌, eqb, eqb-true, arith}
use Rattle.std.proofs.lemmas.Bool.Decides.{nat_tests}
use Rattle.std.proofs.lemmas.List.{get_or-drop}
use Rattle.squawk_script.proofs.NumberSteps.{none_past_end}
use Rattle.std.specs.List.{slice_range}
use Rattle.squawk_script.specs.Script.{number_at, header, record_with_line, first_record}
use Rattle.squawk_script.specs.declared.number.Number.{Number}
use Rattle.squawk_script.specs.declared.record.Header.{Header}

-- a text that begins with another byte
pub other_byte : (bytes : List ℕ) → slice_index bytes 0 ≢ 64 → None ≡ header bytes
unfolding header
other_byte bytes other = let e : eqb (slice_index bytes 0) 64 ≡ false =
    grind (arith, nat_tests) in rw e refl

-- a text that begins with `@` is not empty
pub some_bytes : (bytes : List ℕ) → slice_index bytes 0 ≡ 64 → 0 < length bytes
some_bytes [] first = absurd (omega arith)
some_bytes (b ∷ bs) first = omega arith

pub none_if_empty : (bytes : List ℕ) → eqb (length bytes) 0 ≡ true → slice_index bytes 0 ≡ 64 → ⊥
none_if_empty bytes empty first = omega (arith, eqb-true _ _ empty, some_bytes bytes first)

-- `no_start`, `no_end`, `no_len`: a line in which a number is missing
pub no_start : (bytes : List ℕ) → slice_index bytes 0 ≡ 64 → None ≡ number_at 32 bytes 1
    → None ≡ header bytes
unfolding header
no_start bytes first start = rw (first, ← start) refl

pub no_end : (bytes : List ℕ) (start : Number) → slice_index bytes 0 ≡ 64
    → Some start ≡ number_at 32 bytes 1 → None ≡ number_at 32 bytes start.after
    → None ≡ header bytes
unfolding header
no_end bytes start first is_start end = rw (first, ← is_start, ← end) refl

pub no_len : (bytes : List ℕ) (start end : Number) → slice_index bytes 0 ≡ 64
    → Some start ≡ number_at 32 bytes 1 → Some end ≡ number_at 32 bytes start.after
    → None ≡ number_at 10 bytes end.after → None ≡ header bytes
unfolding header
no_len bytes start end first is_start is_end len = rw (first, ← is_start, ← is_end, ← len) refl

-- a whole line
pub whole_line : (bytes : List ℕ) (start end len : Number) → slice_index bytes 0 ≡ 64
    → Some start ≡ number_at 32 bytes 1 → Some end ≡ number_at 32 bytes start.after
    → Some len ≡ number_at 10 bytes end.after
    → Some (record { start = start.value; end = end.value; new_len = len.value; after = len.after })
    ≡ header bytes
unfolding header
whole_line bytes start end len first is_start is_end is_len =
    rw (first, ← is_start, ← is_end, ← is_len) refl

-- a byte of what follows an offset
pub byte_after : (bytes rest : List ℕ) (at n : ℕ) → rest ≡ drop at bytes
    → slice_index rest n ≡ slice_index bytes (at + n)
byte_after bytes rest at n same =
    ap (λ xs. slice_index xs n) same ∙ get_or-drop at bytes n 0

-- a range from the start is a prefix
pub prefix : (bytes : List ℕ) (n : ℕ) → slice_range bytes 0 n ≡ take n bytes
prefix bytes n = ap (λ k. take k bytes) (let e : n - 0 ≡ n = omega arith in e)

-- no LF past the end
pub no_line_feed_past_end : (bytes rest : List ℕ) (at n : ℕ) → rest ≡ drop at bytes
    → length rest ≤ n → slice_index bytes (at + n) ≡ 10 → ⊥
no_line_feed_past_end bytes rest at n same past is =
    none_past_end rest 10 n (omega arith) past (byte_after bytes rest at n same ∙ is)

-- no line, and a line without LF after the new bytes
pub no_line : (bytes : List ℕ) → None ≡ header bytes → None ≡ first_record bytes
unfolding first_record
no_line bytes line = rw (← line) refl

pub no_line_feed : (bytes : List ℕ) (line : Header) → Some line ≡ header bytes
    → slice_index bytes (line.after + line.new_len) ≢ 10 → None ≡ first_record bytes
unfolding first_record record_with_line
no_line_feed bytes line is other =
    let e : eqb (slice_index bytes (line.after + line.new_len)) 10 ≡ false =
    grind (arith, nat_tests) in
    rw (← is, e) refl

-- a whole record
pub whole_record : (bytes new : List ℕ) (line : Header) → Some line ≡ header bytes
    → slice_index bytes (line.after + line.new_len) ≡ 10
    → new ≡ take line.new_len (drop line.after bytes)
    → Some (record {
      edit = record { start = line.start; end = line.end; new = new };
      len = line.after + line.new_len + 1;
    }) ≡ first_record bytes
unfolding first_record record_with_line
whole_record bytes new line is follows same = rw (← is, follows, same) refl
