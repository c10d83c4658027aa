-- The records that are read are those of the form, and all of them.
use Rattle.std.proofs.Common.{◌≡◌, ℕ, zero, suc, ◌+◌, ◌-◌, ◌<◌, List, [], ◌∷◌, ◌++◌, take, drop, length, map, Option, Some, None, refl, sym, ap, ◌∙◌, arith, append_assoc, length-append}
use Rattle.std.proofs.Math.Seq.{drop-append_seam, take-append-add}
use Rattle.squawk_script.specs.Laws.{IsRecord, AreRecords, RecordsBeginBytes, RecordsStandAlone}
use Rattle.squawk_script.specs.Script.{first_record, then_records, records_from, total_len, ScriptEdit, Record}
use Rattle.squawk_script.proofs.RecordForm.{has_record}
use Rattle.squawk_script.proofs.RecordLaws.{record_short}
use Rattle.squawk_script.proofs.FormRecord.{record_read}
use Rattle.squawk_script.proofs.ScriptSteps.{records_first, drop_after}

-- a first part of a list, and t elements after it
take_both : (bytes own : List ℕ) (n t : ℕ) → bytes ≡ own ++ drop n bytes → length own ≡ n
    → take (n + t) bytes ≡ own ++ take t (drop n bytes)
take_both bytes own n t is len =
    ap (take (n + t)) is ∙ ap (λ m. take (m + t) (own ++ drop n bytes)) (sym len)
    ∙ take-append-add own (drop n bytes) t

-- the records after some bytes are records
are_records : (n : ℕ) (bytes : List ℕ)
    → AreRecords (take (total_len (records_from n bytes)) (drop n bytes)) (map (λ r. r.edit)
    (records_from n bytes))
are_records zero [] = refl
are_records (suc n) [] = refl
are_records (suc n) (b ∷ bs) = are_records n bs
are_records zero (b ∷ bs) = by (λ m. are_records m bs) (first_record (b ∷ bs)) refl
  where
    by : ((m : ℕ) → AreRecords (take (total_len (records_from m bs)) (drop m bs))
        (map (λ r. r.edit) (records_from m bs)))
        → (o : Option Record) → first_record (b ∷ bs) ≡ o
        → AreRecords (take (total_len (then_records o (λ len. records_from (len - 1) bs)))
        (b ∷ bs)) (map (λ r. r.edit) (then_records o (λ len. records_from (len - 1) bs)))
    by rest None e = refl
    by rest (Some r) e =
        let h = has_record (b ∷ bs) r (sym e) in
        let t = total_len (records_from (r.len - 1) bs) in
        let some : 0 < r.len = omega (arith, (record_short (b ∷ bs) r (sym e)).new) in
        record {
          first = h.own;
          others = take t (drop (r.len - 1) bs);
          is = take_both (b ∷ bs) h.own r.len t h.is h.len
              ∙ ap (λ xs. h.own ++ take t xs) (sym (drop_after r.len b bs some));
          is_record = h.is_record;
          are_others = rest (r.len - 1);
        }

pub records_begin_bytes : RecordsBeginBytes
records_begin_bytes bytes = are_records 0 bytes

-- a record has a byte
some_bytes : (own : List ℕ) (edit : ScriptEdit) → IsRecord own edit → 0 < length own
some_bytes own edit h = omega (arith, ap length h.is)

pub records_stand_alone : RecordsStandAlone
records_stand_alone own others [] none = rw none (refl, omega arith)
records_stand_alone own others (edit ∷ edits) h =
    let tail : List ℕ = h.others ++ others in
    let whole : own ++ others ≡ h.first ++ tail =
    ap (λ xs. xs ++ others) h.is ∙ append_assoc h.first h.others others in
    let rest = records_stand_alone h.others others edits h.are_others in
    let first : Record = record { edit = edit; len = length h.first } in
    let len : length (h.first ++ tail) ≡ length h.first + length tail =
    length-append h.first tail in
    let all : records_from 0 (h.first ++ tail)
    ≡ first ∷ records_from 0 (drop (length h.first) (h.first ++ tail)) =
    records_first (h.first ++ tail) first (some_bytes h.first edit h.is_record)
    (omega (arith, len)) (record_read h.first tail edit h.is_record) in
    let all_rest : records_from 0 (own ++ others) ≡ first ∷ records_from 0 tail =
    ap (records_from 0) whole ∙ all
    ∙ ap (λ xs. first ∷ records_from 0 xs) (drop-append_seam h.first tail) in
    let own_len : length own ≡ length h.first + length h.others =
    ap length h.is ∙ length-append h.first h.others in
    let edits_are = ap (map (λ r. r.edit)) all_rest ∙ ap (λ xs. edit ∷ xs) rest.0 in
    (edits_are, ap total_len all_rest ∙ omega (arith, rest.1, own_len))
