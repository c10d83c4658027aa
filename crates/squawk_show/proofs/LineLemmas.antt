-- A line, made a piece at a time.
use Rattle.std.proofs.Common.{◌≡◌, ℕ, ◌+◌, ◌<◌, ◌≤◌, List, [], ◌∷◌, ◌++◌, length, take, drop, ap, sym, ◌∙◌, append_assoc, arith}
use Rattle.std.specs.Prelude.{decimal}
use Rattle.std.proofs.Math.Seq.{take-add}
use Rattle.std.proofs.lemmas.List.{length-append, length-take-le, take_at, drop_at, take-append-le}
use Rattle.std.proofs.lemmas.Slice.{take-put_mid_below}
use borrow.Rule.Slice.PartMut.{post_of, put_mid}
use Rattle.squawk_show.proofs.DigitLemmas.{decimal_one}
use Rattle.squawk_lexer.specs.Classes.{line_feed, space}
use Rattle.squawk_show.specs.Report.{line_with_text, range_text}

-- after the first four bytes of a line were written over: they, and the printed text after them
pub take_start : (depth letter len : ℕ) (text old : List ℕ) → depth < 10
    → text ≡ decimal depth ++ (32 ∷ letter ∷ 32 ∷ []) ++ drop 4 old
    → take (4 + len) text ≡ decimal depth ++ (32 ∷ letter ∷ 32 ∷ []) ++ take len (drop 4 old)
take_start depth letter len text old small is =
    let one = decimal_one depth small in
    let four : text ≡ ((48 + depth) ∷ 32 ∷ letter ∷ 32 ∷ []) ++ drop 4 old = is
    ∙ ap (λ ds. ds ++ (32 ∷ letter ∷ 32 ∷ []) ++ drop 4 old) one in
    take-add 4 len text ∙ ap (λ xs. take 4 xs ++ take len (drop 4 xs)) four
    ∙ sym (ap (λ ds. ds ++ (32 ∷ letter ∷ 32 ∷ []) ++ take len (drop 4 old)) one)

-- pieces appended in turn: a space, two numbers with two dots between, and an LF
pub join_pieces : (start a b c d e f from to : List ℕ) → a ≡ start ++ 32 ∷ [] → b ≡ a ++ from
    → c ≡ b ++ 46 ∷ [] → d ≡ c ++ 46 ∷ [] → e ≡ d ++ to → f ≡ e ++ 10 ∷ []
    → f ≡ start ++ (32 ∷ []) ++ (from ++ (46 ∷ 46 ∷ []) ++ to) ++ (10 ∷ [])
join_pieces start a b c d e f from to is_a is_b is_c is_d is_e is_f =
    let dots : d ≡ b ++ 46 ∷ 46 ∷ [] = is_d ∙ ap (λ xs. xs ++ 46 ∷ []) is_c
    ∙ append_assoc b (46 ∷ []) (46 ∷ []) in
    let upto : d ≡ a ++ (from ++ 46 ∷ 46 ∷ []) = dots ∙ ap (λ xs. xs ++ 46 ∷ 46 ∷ []) is_b
    ∙ append_assoc a from (46 ∷ 46 ∷ []) in
    let both : e ≡ a ++ (from ++ (46 ∷ 46 ∷ []) ++ to) = is_e ∙ ap (λ xs. xs ++ to) upto
    ∙ append_assoc a (from ++ 46 ∷ 46 ∷ []) to in
    is_f ∙ ap (λ xs. xs ++ 10 ∷ []) (both ∙ ap (λ xs. xs ++ (from ++ (46 ∷ 46 ∷ []) ++ to)) is_a)

-- A window was copied into a text at an offset, and `new` over it, the first n bytes of which are
-- `shape` of the window.
pub shape_over_window : (shape : List ℕ → List ℕ) (text window copy new : List ℕ) (at k n : ℕ)
    → at + k ≤ length text → copy ≡ window → length window ≡ k → length new ≡ k → n ≤ k
    → take n new ≡ shape (take k (drop at (put_mid at k text copy)))
    → take (at + n) (put_mid at k (put_mid at k text copy) new) ≡ take at text ++ shape window
shape_over_window shape text window copy new at k n room is_copy window_len new_len few written =
    let both = put_mid at k text copy in
    let rest = copy ++ post_of at k text in
    let all = put_mid at k both new in
    let front : length (take at text) ≡ at = length-take-le at text (omega (arith, room)) in
    let len_both = length-append (take at text) rest in
    let within : at ≤ length both = omega (arith, front, len_both) in
    let copy_len : length copy ≡ k = ap length is_copy ∙ window_len in
    let mid : take k (drop at both) ≡ window = ap (take k) (drop_at (take at text) rest at front)
    ∙ take_at copy (post_of at k text) k copy_len ∙ is_copy in
    let before : take at all ≡ take at text =
    take-put_mid_below at k both new at (omega arith) within
    ∙ take-put_mid_below at k text copy at (omega arith) (omega (arith, room)) in
    let front_both : length (take at both) ≡ at = length-take-le at both within in
    let after : drop at all ≡ new ++ post_of at k both =
    drop_at (take at both) (new ++ post_of at k both) at front_both in
    take-add at n all ∙ ap (λ xs. xs ++ take n (drop at all)) before
    ∙ ap (λ xs. take at text ++ take n xs) after
    ∙ ap (λ xs. take at text ++ xs)
    (take-append-le n new (post_of at k both) (omega (arith, new_len, few)) ∙ written
    ∙ ap shape mid)

-- a line is the digits of its depth, and what does not depend on the depth
line_after_depth : (depth letter : ℕ) (text : List ℕ) (range : ℕ × ℕ)
    → line_with_text depth letter text range ≡ decimal depth
    ++ ((space ∷ letter ∷ space ∷ []) ++ text ++ (space ∷ []) ++ range_text range
    ++ (line_feed ∷ []))
line_after_depth depth letter text range =
    let ds = decimal depth in
    let a = space ∷ letter ∷ space ∷ [] in
    let b = a ++ text in
    let c = b ++ space ∷ [] in
    let d = c ++ range_text range in
    let to_b : (ds ++ a) ++ text ≡ ds ++ b = append_assoc ds a text in
    let to_c : ((ds ++ a) ++ text) ++ space ∷ [] ≡ ds ++ c =
    ap (λ xs. xs ++ space ∷ []) to_b ∙ append_assoc ds b (space ∷ []) in
    let to_d : (((ds ++ a) ++ text) ++ space ∷ []) ++ range_text range ≡ ds ++ d =
    ap (λ xs. xs ++ range_text range) to_c ∙ append_assoc ds c (range_text range) in
    ap (λ xs. xs ++ line_feed ∷ []) to_d ∙ append_assoc ds d (line_feed ∷ [])

-- a line that was appended with the last digit of its depth, after the other digits
pub depth_completed : (depth digit letter : ℕ) (text : List ℕ) (range : ℕ × ℕ)
    (out upper now : List ℕ) → upper ++ decimal digit ≡ out ++ decimal depth
    → now ≡ upper ++ line_with_text digit letter text range
    → now ≡ out ++ line_with_text depth letter text range
depth_completed depth digit letter text range out upper now digits appended =
    let rest = (space ∷ letter ∷ space ∷ []) ++ text ++ (space ∷ []) ++ range_text range
    ++ (line_feed ∷ []) in
    appended ∙ ap (λ xs. upper ++ xs) (line_after_depth digit letter text range)
    ∙ sym (append_assoc upper (decimal digit) rest)
    ∙ ap (λ xs. xs ++ rest) digits ∙ append_assoc out (decimal depth) rest
    ∙ sym (ap (λ xs. out ++ xs) (line_after_depth depth letter text range))
