-- The records of a script, one after another.
use Rattle.std.proofs.Common.{◌≡◌, ℕ, zero, suc, ◌+◌, ◌-◌, ◌<◌, ◌≤◌, List, [], ◌∷◌, drop, length, map, Some, None, refl, ap, ◌∙◌, arith}
use Rattle.squawk_script.specs.Script.{first_record, records_from, total_len, records, records_len, Record}

-- no record begins in another
records_skip : (n : ℕ) (bytes : List ℕ) → records_from n bytes ≡ records_from 0 (drop n bytes)
records_skip zero bytes = refl
records_skip (suc n) [] = refl
records_skip (suc n) (b ∷ bs) = records_skip n bs

-- a byte and n - 1 more are n
pub drop_after : (n b : ℕ) (bs : List ℕ) → 0 < n → drop (n - 1) bs ≡ drop n (b ∷ bs)
drop_after zero b bs h = absurd (omega arith)
drop_after (suc n) b bs h = ap (λ m. drop m bs) (let e : suc n - 1 ≡ n = omega arith in e)

-- the records of bytes that begin with none
pub records_none : (bytes : List ℕ) → None ≡ first_record bytes → records_from 0 bytes ≡ []
records_none [] none = refl
records_none (b ∷ bs) none = rw (← none) refl

-- those of bytes that begin with one
pub records_first : (bytes : List ℕ) (first : Record) → 0 < first.len
    → first.len ≤ length bytes → Some first ≡ first_record bytes
    → records_from 0 bytes ≡ first ∷ records_from 0 (drop first.len bytes)
records_first [] first some within is = absurd (omega arith)
records_first (b ∷ bs) first some within is = rw (← is)
    (ap (λ rs. first ∷ rs) (records_skip (first.len - 1) bs
    ∙ ap (records_from 0) (drop_after first.len b bs some)))

-- the edits that are left, and the number of bytes of the records
pub edits_none : (bytes : List ℕ) → None ≡ first_record bytes → records bytes ≡ []
edits_none bytes none = ap (map (λ r. r.edit)) (records_none bytes none)

pub edits_first : (bytes : List ℕ) (first : Record) → 0 < first.len
    → first.len ≤ length bytes → Some first ≡ first_record bytes
    → records bytes ≡ first.edit ∷ records (drop first.len bytes)
edits_first bytes first some within is =
    ap (map (λ r. r.edit)) (records_first bytes first some within is)

pub len_none : (bytes : List ℕ) → None ≡ first_record bytes → records_len bytes ≡ 0
len_none bytes none = ap total_len (records_none bytes none)

pub len_first : (bytes : List ℕ) (first : Record) → 0 < first.len
    → first.len ≤ length bytes → Some first ≡ first_record bytes
    → records_len bytes ≡ first.len + records_len (drop first.len bytes)
len_first bytes first some within is =
    ap total_len (records_first bytes first some within is)
