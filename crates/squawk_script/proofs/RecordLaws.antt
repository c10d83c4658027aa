-- What a record that begins bytes says of them.
use Rattle.std.proofs.Common.{◌≡◌, ℕ, zero, suc, ◌+◌, ◌-◌, ◌<◌, ◌≤◌, Bool, true, false, List, [], ◌∷◌, take, drop, length, map, slice_index, Option, Some, None, refl, sym, eqb, eqb-true, cond, arith, length-take, inl, inr}
use Rattle.std.proofs.lemmas.Bool.{cases_lt}
use Rattle.squawk_script.specs.Laws.{new_bytes, NewTextsAreShort}
use Rattle.squawk_script.specs.Script.{header, record_with_line, first_record, and_then, then_records, records_from, ScriptEdit, Record}
use Rattle.squawk_script.specs.declared.record.Header.{Header}
use Rattle.squawk_script.proofs.NumberSteps.{none_past_end}

-- a record and the line that it begins with
pub record HasLine (bytes : List ℕ) (r : Record) : Type 0 where
  pub line : Header
  pub begins : header bytes ≡ Some line
  pub line_feed : slice_index bytes (line.after + line.new_len) ≡ 10
  pub is : r ≡ record {
    edit = record {
      start = line.start;
      end = line.end;
      new = take line.new_len (drop line.after bytes);
    };
    len = line.after + line.new_len + 1;
  }

-- a record begins with its line
pub has_line : (bytes : List ℕ) (r : Record) → Some r ≡ first_record bytes → HasLine bytes r
unfolding first_record record_with_line
has_line bytes r is = by (header bytes) refl is
  where
    with_line : (line : Header) → header bytes ≡ Some line → (b : Bool)
        → eqb (slice_index bytes (line.after + line.new_len)) 10 ≡ b
        → Some r ≡ cond b (Some (record {
          edit = record {
            start = line.start;
            end = line.end;
            new =
                take line.new_len (drop line.after bytes);
          };
          len = line.after + line.new_len + 1;
        })) None
        → HasLine bytes r
    with_line line begins true e same = record {
      line = line;
      begins = begins;
      line_feed = eqb-true _ 10 e;
      is = let s : r ≡ record {
        edit = record {
          start = line.start;
          end = line.end;
          new =
              take line.new_len (drop line.after bytes);
        };
        len = line.after + line.new_len + 1;
      } = cc in s;
    }
    with_line line begins false e same = absurd (cc)

    by : (o : Option Header) → header bytes ≡ o → Some r ≡ and_then o (record_with_line bytes)
        → HasLine bytes r
    by None e same = absurd (cc)
    by (Some line) e same = with_line line e (eqb (slice_index bytes (line.after + line.new_len))
        10) refl same

-- its new text has fewer bytes than it has, and it lies within the bytes
pub record IsShort (bytes : List ℕ) (r : Record) : Type 0 where
  pub new : length r.edit.new < r.len
  pub within : r.len ≤ length bytes

pub record_short : (bytes : List ℕ) (r : Record) → Some r ≡ first_record bytes → IsShort bytes r
record_short bytes r is =
    let h = has_line bytes r is in
    let line = h.line in
    let inside : line.after + line.new_len < length bytes =
    elim (cases_lt (line.after + line.new_len) (length bytes)) [
      | inl inside ↦ inside
      | inr past ↦ absurd (none_past_end bytes 10 (line.after + line.new_len)
          (omega arith) past h.line_feed)
    ] in
    let few : length (take line.new_len (drop line.after bytes)) ≤ line.new_len =
    omega (arith, length-take line.new_len (drop line.after bytes)) in
    rw h.is (record { new = omega (arith, few); within = omega (arith, inside) })

-- the bytes of the new texts, and a byte for each
abbrev texts_len : List ScriptEdit → ℕ
texts_len edits = new_bytes edits + length edits

-- those of the records after some bytes are within the others
new_texts : (n : ℕ) (bytes : List ℕ) → n ≤ length bytes
    → n + texts_len (map (λ r. r.edit) (records_from n bytes)) ≤ length bytes
new_texts n [] within = omega arith
new_texts (suc n) (b ∷ bs) within = omega (arith, new_texts n bs (omega arith))
new_texts zero (b ∷ bs) within = by (λ m. new_texts m bs) (first_record (b ∷ bs)) refl
  where
    by : ((m : ℕ) → m ≤ length bs
        → m + texts_len (map (λ r. r.edit) (records_from m bs)) ≤ length bs)
        → (o : Option Record) → first_record (b ∷ bs) ≡ o
        → 0 + texts_len (map (λ r. r.edit) (then_records o (λ len. records_from (len - 1) bs)))
        ≤ length (b ∷ bs)
    by rest None e = omega arith
    by rest (Some r) e =
        let short = record_short (b ∷ bs) r (sym e) in
        let within : r.len ≤ length (b ∷ bs) = short.within in
        let others = rest (r.len - 1) (omega (arith, within)) in
        omega (arith, short.new, within, others)

pub new_texts_are_short : NewTextsAreShort
new_texts_are_short bytes = omega (arith, new_texts 0 bytes (omega arith))
