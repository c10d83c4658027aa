use Rattle.std.proofs.Common.{◌≡◌, ℕ, zero, suc, refl, inl, inr, slice_index, ◌+◌, ◌-◌, ◌≤◌, ◌<◌, List, length, take, drop, Some, arith, [], sym, ap, ◌∙◌, length-take, length-drop, drop-drop, slice_range}
use Rattle.std.proofs.lemmas.Bool.{cases_lt}
use Rattle.std.proofs.lemmas.List.{drop-take, take-take}
use Rattle.std.proofs.lemmas.Option.{slice_get-get_or}
use Rattle.squawk_names.specs.Texts.{texts}
use Rattle.squawk_names.specs.Offsets.{IsOffsets}
use Rattle.squawk_names.proofs.name_window.Goals as goal

-- the two offsets of a line of a short text are at most its length apart
width : (bytes text : List ℕ) (start end : ℕ) → start < end → end ≤ length bytes
    → slice_range bytes start (end - 1) ≡ text → length text ≤ 39 → end - 1 - start ≤ 39
width bytes text start end ordered within text_is short =
    let size : length (take (end - 1 - start) (drop start bytes)) ≡ length text =
    ap length text_is in
    omega (arith, length-take (end - 1 - start) (drop start bytes), length-drop start bytes)

-- a window of 64 bytes from four bytes before the text on has the text at its offset 4
from_fifth : (bytes text seen : List ℕ) (start end : ℕ) → seen ≡ bytes → 4 ≤ start
    → end - 1 - start ≤ 39 → slice_range bytes start (end - 1) ≡ text
    → text ≡ take (end - 1 - start)
    (drop 4 (take (start + 60 - (start - 4)) (drop (start - 4) seen)))
from_fifth bytes text seen start end same low narrow text_is =
    rw same (
    let sizes : start + 60 - (start - 4) ≡ 4 + 60 = omega arith in
    let sum : (start - 4) + 4 ≡ start = omega arith in
    let rest : drop 4 (take (start + 60 - (start - 4)) (drop (start - 4) bytes))
    ≡ take 60 (drop start bytes) =
    ap (λ n. drop 4 (take n (drop (start - 4) bytes))) sizes
    ∙ drop-take 4 60 (drop (start - 4) bytes)
    ∙ ap (take 60) (drop-drop 4 (start - 4) bytes ∙ ap (λ n. drop n bytes) sum) in
    sym (ap (take (end - 1 - start)) rest
    ∙ take-take (end - 1 - start) 60 (drop start bytes) (omega (arith, narrow)) ∙ text_is))

-- k numbers later, the offset is at least k bytes later
offsets_apart : (starts bytes : List ℕ) (ts : List (List ℕ)) (count : ℕ)
    → IsOffsets starts bytes ts count
    → (n k m : ℕ) → n + k ≡ m → m ≤ count → slice_index starts n + k ≤ slice_index starts m
offsets_apart starts bytes ts count index n zero m e h =
    let same : slice_index starts n ≡ slice_index starts m =
    ap (slice_index starts) (omega (arith, e)) in
    omega (arith, same)
offsets_apart starts bytes ts count index n (suc k) m e h =
    let below : n + k < count = omega (arith, e, h) in
    let before = offsets_apart starts bytes ts count index n k (n + k) refl
    (omega (arith, below)) in
    let next = (index.each (n + k) below).ordered in
    let same : slice_index starts (n + k + 1) ≡ slice_index starts m =
    ap (slice_index starts) (omega (arith, e)) in
    omega (arith, before, next, same)

pub bounds-starts-i : goal.bounds-starts-i
bounds-starts-i c =
    omega (arith, c.tables.ensures.offsets.each c.args.number c.if-number-ge-COUNT.false)

pub bounds-starts-i-2 : goal.bounds-starts-i-2
bounds-starts-i-2 c =
    omega (arith, c.tables.ensures.offsets.each c.args.number c.if-number-ge-COUNT.false)

pub returns-clause-text : goal.returns-clause-text
returns-clause-text c =
    let line = c.tables.ensures.offsets.each c.args.number c.if-number-ge-COUNT.false in
    let listed : c.args.number < length texts =
    omega (arith, c.tables.ensures.offsets.len, c.if-number-ge-COUNT.false) in
    let narrow = width _ _ _ _ line.ordered line.within line.text_is line.short in
    slice_get-get_or texts c.args.number [] listed
    ∙ ap Some (from_fifth _ _ _ _ _ c.as_bytes-bytes.ensures.value c.if-start-lt4.false narrow
    line.text_is)

pub returns-clause-short : goal.returns-clause-short
returns-clause-short c =
    let line = c.tables.ensures.offsets.each c.args.number c.if-number-ge-COUNT.false in
    width _ _ _ _ line.ordered line.within line.text_is line.short

-- the number of a text that begins before the fifth byte
pub returns-then-start-lt4-clause-none : goal.returns-then-start-lt4-clause-none
returns-then-start-lt4-clause-none c = (
  λ _. elim (cases_lt c.args.number 1) [
    | inl first ↦ inl (let h : c.args.number ≡ 0 = omega (arith, first) in h)
    | inr later ↦
        absurd (omega (
          arith,
          c.if-start-lt4.true,
          c.tables.ensures.windows.second,
          offsets_apart _ _ _ _ c.tables.ensures.offsets 1 (c.args.number - 1) c.args.number
              (omega (arith, later)) (omega arith),
        ))
  ],
  λ _. refl,
)

-- the number of a text that has less than 60 bytes from its offset on
pub returns-then-bytes-start-clause-none : goal.returns-then-bytes-start-clause-none
returns-then-bytes-start-clause-none c = (
  λ _. elim (cases_lt c.args.number 2065) [
    | inl earlier ↦
        absurd (omega (
          arith,
          c.if-bytes-start.true,
          ap length c.as_bytes-bytes.ensures.value,
          c.tables.ensures.windows.last,
          offsets_apart _ _ _ _ c.tables.ensures.offsets c.args.number (2064 - c.args.number) 2064
              (omega (arith, earlier)) (omega arith),
        ))
    | inr past ↦ inr past
  ],
  λ _. refl,
)

-- a window that is found is not that of the first kind or the last ones
pub returns-clause-none : goal.returns-clause-none
returns-clause-none c = (
  λ none. cc,
  λ outside. elim outside [
    | inl first ↦
        absurd (omega (
          arith,
          c.if-start-lt4.false,
          c.tables.ensures.windows.first,
          ap (slice_index c.tables.result.0.now) first,
        ))
    | inr past ↦
        absurd (omega (
          arith,
          c.if-bytes-start.false,
          ap length c.as_bytes-bytes.ensures.value,
          c.tables.ensures.windows.past,
          offsets_apart _ _ _ _ c.tables.ensures.offsets 2065 (c.args.number - 2065) c.args.number
              (omega (arith, past)) (omega arith),
        ))
  ],
)
