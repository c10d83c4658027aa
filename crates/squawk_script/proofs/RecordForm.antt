-- A record that is read has a record's form.
use Rattle.std.proofs.Common.{◌≡◌, ℕ, ◌+◌, ◌-◌, ◌<◌, ◌≤◌, Bool, true, false, ◌&&◌, List, [], ◌∷◌, ◌++◌, take, drop, length, slice_index, Option, Some, None, refl, sym, ap, subst, ◌∙◌, eqb, eqb-true, cond, arith, append_assoc, length-append, inl, inr}
use Rattle.std.proofs.lemmas.Bool.{cases_lt}
use Rattle.std.proofs.lemmas.List.{drop-drop, drop_more, take-append-drop, length-take-le, length-drop}
use Rattle.std.specs.Char.{is_ascii_digit}
use Rattle.std.specs.List.{prefix_len}
use Rattle.std.specs.Str.Parse.{digits_value}
use Rattle.squawk_script.specs.Laws.{IsNumber, IsRecord}
use Rattle.squawk_script.specs.Script.{is_number, number_at, and_then, header, first_record, Record}
use Rattle.squawk_script.specs.declared.number.Number.{Number}
use Rattle.squawk_script.specs.declared.record.Header.{Header}
use Rattle.squawk_script.proofs.NumberSteps.{digits_at, are_number, all_digits, none_past_end}
use Rattle.squawk_script.proofs.RecordLaws.{has_line, record_short}

-- a number at an offset, its digits, and what follows
record HasNumber (byte : ℕ) (bytes : List ℕ) (at : ℕ) (n : Number) : Type 0 where
  digits : List ℕ
  number : IsNumber digits n.value
  is : drop at bytes ≡ digits ++ byte ∷ drop n.after bytes

-- what follows an offset, split at a byte
split_at : (byte : ℕ) (bytes : List ℕ) (at count : ℕ) → 0 < byte
    → slice_index bytes (at + count) ≡ byte
    → drop at bytes ≡ take count (drop at bytes) ++ byte ∷ drop (at + count + 1) bytes
split_at byte bytes at count some is =
    let inside : at + count < length bytes = elim (cases_lt (at + count) (length bytes)) [
      | inl inside ↦ inside
      | inr past ↦ absurd (none_past_end bytes byte (at + count) some past is)
    ] in
    sym (take-append-drop count (drop at bytes))
    ∙ ap (λ xs. take count (drop at bytes) ++ xs) (drop-drop count at bytes
    ∙ drop_more bytes (at + count) 0 inside ∙ ap (λ b. b ∷ drop (at + count + 1) bytes) is)

has_number : (byte : ℕ) (bytes : List ℕ) (at : ℕ) (n : Number) → 0 < byte
    → number_at byte bytes at ≡ Some n → HasNumber byte bytes at n
unfolding number_at
has_number byte bytes at n some is =
    by (is_number (digits_at bytes at))
    (eqb (slice_index bytes (at + prefix_len is_ascii_digit (drop at bytes))) byte) refl refl is
  where
    found : Number
    found = record {
      value = digits_value 10 (digits_at bytes at);
      after = at + prefix_len is_ascii_digit (drop at bytes) + 1;
    }

    by : (a b : Bool) → is_number (digits_at bytes at) ≡ a
        → eqb (slice_index bytes (at + prefix_len is_ascii_digit (drop at bytes))) byte ≡ b
        → cond (a && b) (Some found) None ≡ Some n → HasNumber byte bytes at n
    by true true x y same =
        let number = are_number (digits_at bytes at) x in
        let e : found ≡ n = cc in
        subst (HasNumber byte bytes at) e (record {
          digits = digits_at bytes at;
          number = record {
            are_digits = all_digits (drop at bytes);
            some = number.some;
            few = number.few;
            is = refl;
            within = number.within;
          };
          is = split_at byte bytes at (prefix_len is_ascii_digit (drop at bytes)) some
              (eqb-true _ byte y);
        })
    by true false x y same = absurd (cc)
    by false b x y same = absurd (cc)

-- a record's first line
record HasForm (bytes : List ℕ) (line : Header) : Type 0 where
  start : List ℕ
  end : List ℕ
  len : List ℕ
  start_is : IsNumber start line.start
  end_is : IsNumber end line.end
  len_is : IsNumber len line.new_len
  is : bytes ≡ 64 ∷ (start ++ 32 ∷ (end ++ 32 ∷ (len ++ 10 ∷ drop line.after bytes)))

-- from its three numbers
form_of : (bytes : List ℕ) (start end len : Number) → slice_index bytes 0 ≡ 64
    → HasNumber 32 bytes 1 start → HasNumber 32 bytes start.after end
    → HasNumber 10 bytes end.after len
    → HasForm bytes (record {
      start = start.value;
      end = end.value;
      new_len =
          len.value;
      after = len.after;
    })
form_of [] start end len first s e l = absurd (omega arith)
form_of (b ∷ bs) start end len first s e l = record {
  start = s.digits;
  end = e.digits;
  len = l.digits;
  start_is = s.number;
  end_is = e.number;
  len_is = l.number;
  is = ap (λ x. x ∷ bs) first ∙ ap (λ xs. 64 ∷ xs) (s.is
      ∙ ap (λ xs. s.digits ++ 32 ∷ xs) (e.is ∙ ap (λ xs. e.digits ++ 32 ∷ xs) l.is));
}

has_form : (bytes : List ℕ) (line : Header) → header bytes ≡ Some line → HasForm bytes line
unfolding header
has_form bytes line is = by_first (eqb (slice_index bytes 0) 64) refl is
  where
    by_len : (start end : Number) → slice_index bytes 0 ≡ 64
        → number_at 32 bytes 1 ≡ Some start → number_at 32 bytes start.after ≡ Some end
        → (o : Option Number) → number_at 10 bytes end.after ≡ o
        → and_then o (λ len. Some (record {
          start = start.value;
          end = end.value;
          new_len =
              len.value;
          after = len.after;
        })) ≡ Some line
        → HasForm bytes line
    by_len start end first s e None l same = absurd (cc)
    by_len start end first s e (Some len) l same =
        let found : Header = record {
          start = start.value;
          end = end.value;
          new_len =
              len.value;
          after = len.after;
        } in
        let at_line : found ≡ line = cc in
        subst (HasForm bytes) at_line (form_of bytes start end len first
        (has_number 32 bytes 1 start (omega arith) s)
        (has_number 32 bytes start.after end (omega arith) e)
        (has_number 10 bytes end.after len (omega arith) l))

    by_end : (start : Number) → slice_index bytes 0 ≡ 64
        → number_at 32 bytes 1 ≡ Some start
        → (o : Option Number) → number_at 32 bytes start.after ≡ o
        → and_then o (λ end. and_then (number_at 10 bytes end.after)
        (λ len. Some (record {
          start = start.value;
          end = end.value;
          new_len =
              len.value;
          after = len.after;
        }))) ≡ Some line
        → HasForm bytes line
    by_end start first s None e same = absurd (cc)
    by_end start first s (Some end) e same = by_len start end first s e (number_at 10 bytes
        end.after) refl same

    by_start : slice_index bytes 0 ≡ 64
        → (o : Option Number) → number_at 32 bytes 1 ≡ o
        → and_then o (λ start. and_then (number_at 32 bytes start.after)
        (λ end. and_then (number_at 10 bytes end.after) (λ len. Some (record {
          start =
              start.value;
          end = end.value;
          new_len = len.value;
          after =
              len.after;
        })))) ≡ Some line
        → HasForm bytes line
    by_start first None s same = absurd (cc)
    by_start first (Some start) s same = by_end start first s (number_at 32 bytes start.after)
        refl same

    by_first : (b : Bool) → eqb (slice_index bytes 0) 64 ≡ b
        → cond b (and_then (number_at 32 bytes 1) (λ start. and_then (number_at 32 bytes
        start.after) (λ end. and_then (number_at 10 bytes end.after)
        (λ len. Some (record {
          start = start.value;
          end = end.value;
          new_len =
              len.value;
          after = len.after;
        }))))) None ≡ Some line
        → HasForm bytes line
    by_first true e same = by_start (eqb-true _ 64 e) (number_at 32 bytes 1) refl same
    by_first false e same = absurd (cc)

-- a record, and what follows it
pub record HasRecord (bytes : List ℕ) (r : Record) : Type 0 where
  pub own : List ℕ
  pub is_record : IsRecord own r.edit
  pub is : bytes ≡ own ++ drop r.len bytes
  pub len : length own ≡ r.len

-- an appended list within brackets of numbers
regroup : (a b c d rest : List ℕ)
    → 64 ∷ (a ++ 32 ∷ (b ++ 32 ∷ (c ++ 10 ∷ (d ++ 10 ∷ rest))))
    ≡ (64 ∷ (a ++ 32 ∷ (b ++ 32 ∷ (c ++ 10 ∷ (d ++ 10 ∷ []))))) ++ rest
regroup a b c d rest = simp append_assoc

-- two parts of a list, and the length of the first
first_len : (bytes own : List ℕ) (n : ℕ) → n ≤ length bytes → bytes ≡ own ++ drop n bytes
    → length own ≡ n
first_len bytes own n within is =
    let whole : length bytes ≡ length (own ++ drop n bytes) = ap length is in
    let parts : length (own ++ drop n bytes) ≡ length own + length (drop n bytes) =
    length-append own (drop n bytes) in
    let rest : length (drop n bytes) ≡ length bytes - n = length-drop n bytes in
    omega (arith, whole, parts, rest, within)

pub has_record : (bytes : List ℕ) (r : Record) → Some r ≡ first_record bytes → HasRecord bytes r
has_record bytes r is =
    let h = has_line bytes r is in
    let line = h.line in
    let form = has_form bytes line h.begins in
    let short = record_short bytes r is in
    let rest = split_at 10 bytes line.after line.new_len (omega arith) h.line_feed in
    let new = take line.new_len (drop line.after bytes) in
    let own = 64 ∷ (form.start ++ 32 ∷ (form.end ++ 32 ∷ (form.len ++ 10 ∷ (new ++ 10 ∷ [])))) in
    let whole : bytes ≡ own ++ drop (line.after + line.new_len + 1) bytes = form.is
    ∙ ap (λ xs. 64 ∷ (form.start ++ 32 ∷ (form.end ++ 32 ∷ (form.len ++ 10 ∷ xs)))) rest
    ∙ regroup form.start form.end form.len new (drop (line.after + line.new_len + 1) bytes) in
    let len : r.len ≡ line.after + line.new_len + 1 = ap (λ x. x.len) h.is in
    let short_len : r.len ≤ length bytes = short.within in
    let within : line.after + line.new_len + 1 ≤ length bytes = omega (arith, len, short_len) in
    let rest_len : length (drop line.after bytes) ≡ length bytes - line.after =
    length-drop line.after bytes in
    let new_len : length new ≡ line.new_len = length-take-le line.new_len (drop line.after bytes)
    (omega (arith, within, rest_len)) in
    rw h.is (record {
      own = own;
      is_record = record {
        start = form.start;
        end = form.end;
        len = form.len;
        start_is = form.start_is;
        end_is = form.end_is;
        len_is = rw new_len form.len_is;
        is = refl;
      };
      is = whole;
      len = first_len bytes own (line.after + line.new_len + 1) within whole;
    })
