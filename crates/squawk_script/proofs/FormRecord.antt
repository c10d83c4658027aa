-- Bytes of a record's form are read as a record.
use Rattle.std.proofs.Common.{◌≡◌, ℕ, ◌+◌, Bool, true, false, ◌&&◌, List, [], ◌∷◌, ◌++◌, take, drop, length, slice_index, Some, refl, sym, ap, ◌∙◌, cond, arith, append_assoc, length-append}
use Rattle.std.proofs.lemmas.List.{drop-drop, get_or-drop}
use Rattle.std.proofs.Math.Seq.{drop-append_seam, take-append_seam}
use Rattle.std.specs.Char.{is_ascii_digit}
use Rattle.std.specs.List.{prefix_len}
use Rattle.std.specs.Str.{all_ascii_digits}
use Rattle.std.specs.Str.Parse.{digits_value}
use Rattle.squawk_script.specs.Laws.{IsNumber, IsRecord}
use Rattle.squawk_script.specs.Script.{number_at, first_record, ScriptEdit}
use Rattle.squawk_script.proofs.NumberSteps.{digits_at, AreNumber, some_number}
use Rattle.squawk_script.proofs.RecordSteps.{whole_line, whole_record}

-- a run of digits before another byte
digits_run : (digits rest : List ℕ) (byte : ℕ) → is_ascii_digit byte ≡ false
    → all_ascii_digits digits ≡ true
    → prefix_len is_ascii_digit (digits ++ byte ∷ rest) ≡ length digits
digits_run [] rest byte other all = rw other refl
digits_run (d ∷ ds) rest byte other all = by (digits_run ds rest byte other)
    (is_ascii_digit d) refl all
  where
    by : (all_ascii_digits ds ≡ true
        → prefix_len is_ascii_digit (ds ++ byte ∷ rest) ≡ length ds)
        → (b : Bool) → is_ascii_digit d ≡ b → (b && all_ascii_digits ds) ≡ true
        → cond b (1 + prefix_len is_ascii_digit (ds ++ byte ∷ rest)) 0 ≡ length (d ∷ ds)
    by others true e all = omega (arith, others all)
    by others false e all = absurd (cc)

-- the first byte of the second part
pub byte_at_seam : (xs ys : List ℕ) (byte : ℕ) → slice_index (xs ++ byte ∷ ys) (length xs) ≡ byte
byte_at_seam [] ys byte = refl
byte_at_seam (x ∷ xs) ys byte = byte_at_seam xs ys byte

-- a number's digits at an offset, and a byte after them
record StandsAt (byte : ℕ) (bytes : List ℕ) (at : ℕ) (digits rest : List ℕ)
    (value : ℕ) : Type 0 where
  is : drop at bytes ≡ digits ++ byte ∷ rest
  number : IsNumber digits value

-- the number is read
number_read : (byte : ℕ) (bytes : List ℕ) (at : ℕ) (digits rest : List ℕ) (value : ℕ)
    → is_ascii_digit byte ≡ false → StandsAt byte bytes at digits rest value
    → Some (record { value = value; after = at + length digits + 1 }) ≡ number_at byte bytes at
number_read byte bytes at digits rest value other h =
    let count : prefix_len is_ascii_digit (drop at bytes) ≡ length digits =
    ap (prefix_len is_ascii_digit) h.is ∙ digits_run digits rest byte other h.number.are_digits in
    let same : digits_at bytes at ≡ digits = rw (count, h.is) (take-append_seam digits (byte ∷
    rest)) in
    let follows : slice_index bytes (at + length digits) ≡ byte =
    sym (get_or-drop at bytes (length digits) 0) ∙ ap (λ xs. slice_index xs (length digits)) h.is
    ∙ byte_at_seam digits rest byte in
    let number : AreNumber digits = record {
      some = h.number.some;
      few = h.number.few;
      within = rw h.number.is h.number.within;
    } in
    some_number byte bytes at (length digits) value (sym count) (rw same number) follows
    (ap (digits_value 10) same ∙ h.number.is)

-- what follows the byte
rest_at : (byte : ℕ) (bytes : List ℕ) (at : ℕ) (digits rest : List ℕ) (value : ℕ)
    → StandsAt byte bytes at digits rest value → drop (at + length digits + 1) bytes ≡ rest
rest_at byte bytes at digits rest value h =
    sym (drop-drop 1 (at + length digits) bytes) ∙ ap (drop 1) (sym (drop-drop (length digits) at
    bytes)
    ∙ ap (drop (length digits)) h.is ∙ drop-append_seam digits (byte ∷ rest))

-- the bytes of a record, and of what follows it
pub form_bytes : (own rest : List ℕ) (edit : ScriptEdit) (h : IsRecord own edit)
    → own ++ rest ≡ 64 ∷ (h.start ++ 32 ∷ (h.end ++ 32 ∷ (h.len ++ 10 ∷ (edit.new ++ 10 ∷ rest))))
form_bytes own rest edit h = ap (λ xs. xs ++ rest) h.is ∙ simp append_assoc

-- the length of a record
own_len : (own : List ℕ) (edit : ScriptEdit) (h : IsRecord own edit) → length own
    ≡ 1 + length h.start + 1 + length h.end + 1 + length h.len + 1 + length edit.new + 1
own_len own edit h =
    let new : length (edit.new ++ 10 ∷ []) ≡ length edit.new + 1 =
    length-append edit.new (10 ∷ []) in
    let len : length (h.len ++ 10 ∷ (edit.new ++ 10 ∷ []))
    ≡ length h.len + length (10 ∷ (edit.new ++ 10 ∷ [])) = length-append h.len _ in
    let end : length (h.end ++ 32 ∷ (h.len ++ 10 ∷ (edit.new ++ 10 ∷ [])))
    ≡ length h.end + length (32 ∷ (h.len ++ 10 ∷ (edit.new ++ 10 ∷ []))) = length-append h.end _ in
    let start : length (h.start ++ 32 ∷ (h.end ++ 32 ∷ (h.len ++ 10 ∷ (edit.new ++ 10 ∷ []))))
    ≡ length h.start + length (32 ∷ (h.end ++ 32 ∷ (h.len ++ 10 ∷ (edit.new ++ 10 ∷ [])))) =
    length-append h.start _ in
    ap length h.is ∙ omega (arith, new, len, end, start)

-- the record is read
pub record_read : (own rest : List ℕ) (edit : ScriptEdit) → IsRecord own edit
    → Some (record { edit = edit; len = length own }) ≡ first_record (own ++ rest)
record_read own rest edit h =
    let bytes = own ++ rest in
    let form = form_bytes own rest edit h in
    let start : StandsAt 32 bytes 1 h.start (h.end ++ 32 ∷ (h.len ++ 10 ∷ (edit.new
    ++ 10 ∷ rest))) edit.start =
    record { is = ap (drop 1) form; number = h.start_is } in
    let end : StandsAt 32 bytes (1 + length h.start + 1) h.end (h.len ++ 10 ∷ (edit.new
    ++ 10 ∷ rest)) edit.end =
    record { is = rest_at 32 bytes 1 _ _ _ start; number = h.end_is } in
    let len : StandsAt 10 bytes (1 + length h.start + 1 + length h.end + 1) h.len (edit.new
    ++ 10 ∷ rest) (length edit.new) =
    record { is = rest_at 32 bytes (1 + length h.start + 1) _ _ _ end; number = h.len_is } in
    let after : ℕ = 1 + length h.start + 1 + length h.end + 1 + length h.len + 1 in
    let new_at : drop after bytes ≡ edit.new ++ 10 ∷ rest =
    rest_at 10 bytes (1 + length h.start + 1 + length h.end + 1) _ _ _ len in
    let line = whole_line bytes (record { value = edit.start; after = 1 + length h.start + 1 })
    (record { value = edit.end; after = 1 + length h.start + 1 + length h.end + 1 })
    (record { value = length edit.new; after = after }) (ap (λ xs. slice_index xs 0) form)
    (number_read 32 bytes 1 _ _ _ refl start)
    (number_read 32 bytes (1 + length h.start + 1) _ _ _ refl end)
    (number_read 10 bytes (1 + length h.start + 1 + length h.end + 1) _ _ _ refl len) in
    let follows : slice_index bytes (after + length edit.new) ≡ 10 =
    sym (get_or-drop after bytes (length edit.new) 0)
    ∙ ap (λ xs. slice_index xs (length edit.new)) new_at ∙ byte_at_seam edit.new rest 10 in
    let new : edit.new ≡ take (length edit.new) (drop after bytes) =
    sym (ap (take (length edit.new)) new_at ∙ take-append_seam edit.new (10 ∷ rest)) in
    ap (λ n. Some (record { edit = edit; len = n })) (own_len own edit h)
    ∙ whole_record bytes edit.new (record {
      start = edit.start;
      end = edit.end;
      new_len = length edit.new;
      after = after;
    }) line follows new
