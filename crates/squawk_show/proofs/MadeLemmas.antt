-- The length of a made text.
use Rattle.std.proofs.Common.{◌≡◌, ℕ, zero, suc, ◌+◌, ◌*◌, ◌%◌, ◌==◌, ◌<◌, ◌≤◌, List, [], ◌∷◌, ◌++◌, Bool, true, false, length, refl, ap, arith}
use Rattle.std.specs.Prelude.{codes, decimal, if◌then◌else◌}
use Rattle.std.proofs.lemmas.Fmt.{length-decimal-le}
use Rattle.std.proofs.lemmas.List.{length-append}
use Rattle.squawk_events.specs.Limit.{limit}
use Rattle.squawk_show.specs.Made.{most_pieces, numbered_line, piece, made}

-- a text with one piece more
pub made_more : (n : ℕ) → made (n + 1) ≡ made n ++ piece n
made_more n = let e : n + 1 ≡ suc n = omega arith in ap made e

-- `piece_select` to `piece_echo`: the piece with a number, by its remainder
pub piece_select : (i : ℕ) → i % 4 ≡ 0 → piece i ≡ numbered_line (codes "select ") i (codes ";")
unfolding piece
piece_select i is = rw is refl

pub piece_insert : (i : ℕ) → i % 4 ≡ 1
    → piece i ≡ numbered_line (codes "insert into t values ('") i (codes "');")
unfolding piece
piece_insert i is = rw is refl

pub piece_update : (i : ℕ) → i % 4 ≡ 2
    → piece i ≡ numbered_line (codes "update t set a = $1 where b = ") i (codes ";")
unfolding piece
piece_update i is = rw is refl

pub piece_echo : (i : ℕ) → i % 4 ≡ 3
    → piece i ≡ numbered_line (codes "-- ") i [] ++ numbered_line (codes "\\echo ") i []
unfolding piece
piece_echo i is = rw is refl

-- a line is within a length if what stands around its number is short
line_within : (before : List ℕ) (i : ℕ) (after : List ℕ) → i < 100000 → length before ≤ 40
    → length after ≤ 10 → length (numbered_line before i after) ≤ 56
line_within before i after small short_before short_after =
    let digits = length-decimal-le 5 i (omega arith) (omega arith) (omega arith) in
    let start = length-append before (decimal i) in
    let text = length-append (before ++ decimal i) after in
    let whole : length (numbered_line before i after) ≡ length (before ++ decimal i ++ after) + 1 =
    length-append (before ++ decimal i ++ after) (10 ∷ []) in
    omega (arith, digits, start, text, whole, short_before, short_after)

-- the text is within 112 bytes
abbrev IsShort : List ℕ → Type 0
IsShort xs = length xs ≤ 112

-- one line is short, and two are
one_line : (before : List ℕ) (i : ℕ) (after : List ℕ) → i < 100000 → length before ≤ 40
    → length after ≤ 10 → IsShort (numbered_line before i after)
one_line before i after small short_before short_after =
    omega (arith, line_within before i after small short_before short_after)

two_lines : (before next : List ℕ) (i : ℕ) → i < 100000 → length before ≤ 40 → length next ≤ 40
    → IsShort (numbered_line before i [] ++ numbered_line next i [])
two_lines before next i small short_before short_next =
    omega (
      arith,
      length-append (numbered_line before i []) (numbered_line next i []),
      line_within before i [] small short_before (omega arith),
      line_within next i [] small short_next (omega arith),
    )

-- a choice is short if both choices are
choice : (b : Bool) (xs ys : List ℕ) → IsShort xs → IsShort ys → IsShort (if b then xs else ys)
choice true xs ys short_xs short_ys = short_xs
choice false xs ys short_xs short_ys = short_ys

-- a piece is within 112 bytes
pub piece_within : (i : ℕ) → i < 100000 → length (piece i) ≤ 112
unfolding piece
piece_within i small =
    let select = codes "select " in
    let insert = codes "insert into t values ('" in
    let update = codes "update t set a = $1 where b = " in
    let comment = codes "-- " in
    let echo = codes "\\echo " in
    let lines = numbered_line comment i [] ++ numbered_line echo i [] in
    let third = if i % 4 == 2 then numbered_line update i (codes ";") else lines in
    let second = if i % 4 == 1 then numbered_line insert i (codes "');") else third in
    choice (i % 4 == 0) (numbered_line select i (codes ";")) second
    (one_line select i (codes ";") small (omega arith) (omega arith))
    (choice (i % 4 == 1) (numbered_line insert i (codes "');")) third
    (one_line insert i (codes "');") small (omega arith) (omega arith))
    (choice (i % 4 == 2) (numbered_line update i (codes ";")) lines
    (one_line update i (codes ";") small (omega arith) (omega arith))
    (two_lines comment echo i small (omega arith) (omega arith))))

-- a made text is within 112 bytes a piece
made_length : (n : ℕ) → n ≤ 100000 → length (made n) ≤ 112 * n
made_length zero within = omega arith
made_length (suc n) within =
    let sum = length-append (made n) (piece n) in
    omega (arith, sum, made_length n (omega arith), piece_within n (omega arith))

-- a made text is within the limit of texts
pub made_within : (n : ℕ) → n ≤ most_pieces → length (made n) ≤ limit
made_within n within = omega (arith, made_length n within)
