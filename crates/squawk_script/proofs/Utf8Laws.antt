-- The new texts of records in a UTF-8 text are UTF-8.
use Rattle.std.proofs.Common.{◌≡◌, ℕ, zero, suc, ◌+◌, ◌-◌, ◌<◌, Bool, true, false, ◌&&◌, List, [], ◌∷◌, ◌++◌, drop, length, map, slice_index, Option, Some, None, refl, sym, ap, subst, arith, length-append, IsUtf8}
use Rattle.std.proofs.lemmas.Bool.Decides.{nat_tests}
use Rattle.std.proofs.lemmas.List.Elements.{All-cons}
use Rattle.std.proofs.lemmas.Str.{IsUtf8-past_char, IsUtf8-take, IsUtf8-drop, IsCharBoundary-before_ascii, encode_ascii}
use Rattle.std.proofs.Math.Seq.{take-append_seam, drop-append_seam}
use Rattle.std.specs.Char.{is_ascii_digit}
use Rattle.std.specs.List.{All}
use Rattle.std.specs.Str.{all_ascii_digits}
use Rattle.squawk_script.specs.Laws.{IsRecord, NewTextsAreUtf8}
use Rattle.squawk_script.specs.Script.{first_record, then_records, records_from, ScriptEdit, Record}
use Rattle.squawk_script.proofs.FormRecord.{form_bytes, byte_at_seam}
use Rattle.squawk_script.proofs.RecordForm.{has_record}
use Rattle.squawk_script.proofs.RecordLaws.{record_short}
use Rattle.squawk_script.proofs.ScriptSteps.{drop_after}

-- what follows an ASCII byte
past_byte : (b : ℕ) (bs : List ℕ) → b < 128 → IsUtf8 (b ∷ bs) → IsUtf8 bs
past_byte b bs small utf8 =
    IsUtf8-past_char (b ∷ bs) bs b utf8 (sym (ap (λ xs. xs ++ bs) (encode_ascii b small)))

-- what follows digits
past_digits : (ds bs : List ℕ) → all_ascii_digits ds ≡ true → IsUtf8 (ds ++ bs) → IsUtf8 bs
past_digits [] bs all utf8 = utf8
past_digits (d ∷ ds) bs all utf8 = by (past_digits ds bs) (is_ascii_digit d) refl all
  where
    by : (all_ascii_digits ds ≡ true → IsUtf8 (ds ++ bs) → IsUtf8 bs)
        → (b : Bool) → is_ascii_digit d ≡ b → (b && all_ascii_digits ds) ≡ true → IsUtf8 bs
    by rest true e others =
        let small : d < 128 = grind (arith, nat_tests) in
        rest others (past_byte d (ds ++ bs) small utf8)
    by rest false e others = absurd (cc)

-- a text and an LF, and what follows them
record AreUtf8 (new rest : List ℕ) : Type 0 where
  new_is : IsUtf8 new
  rest_is : IsUtf8 rest

split_line : (new rest : List ℕ) → IsUtf8 (new ++ 10 ∷ rest) → AreUtf8 new rest
split_line new rest utf8 =
    let whole = new ++ 10 ∷ rest in
    let len : length whole ≡ length new + length (10 ∷ rest) = length-append new (10 ∷ rest) in
    let inside : length new < length whole = omega (arith, len) in
    let line_feed : slice_index whole (length new) ≡ 10 = byte_at_seam new rest 10 in
    let small : slice_index whole (length new) < 128 = omega (arith, line_feed) in
    record {
      new_is = rw take-append_seam at (IsUtf8-take whole (length new) utf8
          (IsCharBoundary-before_ascii whole (length new) inside small));
      rest_is = past_byte 10 rest (omega arith) (rw drop-append_seam at (IsUtf8-drop whole
          (length new) utf8 (IsCharBoundary-before_ascii whole (length new) inside small)));
    }

-- a record, and what follows it
split_record : (own rest : List ℕ) (edit : ScriptEdit) → IsRecord own edit → IsUtf8 (own ++ rest)
    → AreUtf8 edit.new rest
split_record own rest edit h utf8 =
    let form = form_bytes own rest edit h in
    let start = past_byte 64 _ (omega arith) (subst IsUtf8 form utf8) in
    let end = past_byte 32 _ (omega arith) (past_digits h.start _ h.start_is.are_digits start) in
    let len = past_byte 32 _ (omega arith) (past_digits h.end _ h.end_is.are_digits end) in
    split_line edit.new rest
    (past_byte 10 _ (omega arith) (past_digits h.len _ h.len_is.are_digits len))

-- the new texts of the records after some bytes
new_texts : (n : ℕ) (bytes : List ℕ) → IsUtf8 (drop n bytes)
    → All (λ (edit : ScriptEdit). IsUtf8 edit.new) (map (λ r. r.edit) (records_from n bytes))
new_texts zero [] utf8 = λ k d within. absurd (omega arith)
new_texts (suc n) [] utf8 = λ k d within. absurd (omega arith)
new_texts (suc n) (b ∷ bs) utf8 = new_texts n bs utf8
new_texts zero (b ∷ bs) utf8 = by (λ m. new_texts m bs) (first_record (b ∷ bs)) refl
  where
    by : ((m : ℕ) → IsUtf8 (drop m bs)
        → All (λ (edit : ScriptEdit). IsUtf8 edit.new) (map (λ r. r.edit) (records_from m bs)))
        → (o : Option Record) → first_record (b ∷ bs) ≡ o
        → All (λ (edit : ScriptEdit). IsUtf8 edit.new) (map (λ r. r.edit)
        (then_records o (λ len. records_from (len - 1) bs)))
    by rest None e = λ k d within. absurd (omega arith)
    by rest (Some r) e =
        let h = has_record (b ∷ bs) r (sym e) in
        let some : 0 < r.len = omega (arith, (record_short (b ∷ bs) r (sym e)).new) in
        let parts = split_record h.own (drop r.len (b ∷ bs)) r.edit h.is_record
        (subst IsUtf8 h.is utf8) in
        All-cons (λ (edit : ScriptEdit). IsUtf8 edit.new) r.edit
        (map (λ x. x.edit) (records_from (r.len - 1) bs)) parts.new_is
        (rest (r.len - 1) (subst IsUtf8 (sym (drop_after r.len b bs some)) parts.rest_is))

pub new_texts_are_utf8 : NewTextsAreUtf8
new_texts_are_utf8 bytes utf8 = new_texts 0 bytes utf8
