-- Laws of scripts.
use Rattle.std.specs.Prelude.{◌≡◌, ℕ, ◌+◌, ◌<◌, ◌≤◌, true, List, [], ◌∷◌, ◌++◌, length, take}
use Rattle.std.specs.List.{All}
use Rattle.std.specs.Str.{all_ascii_digits, IsUtf8}
use Rattle.std.specs.Str.Parse.{digits_value}
use Rattle.squawk_script.specs.Script.{ScriptEdit, records, records_len, at_sign, space, line_feed, max_digits, max_number}

-- the digits are a number of this value
pub record IsNumber (digits : List ℕ) (value : ℕ) : Type 0 where
  pub are_digits : all_ascii_digits digits ≡ true
  pub some : 0 < length digits
  pub few : length digits ≤ max_digits
  pub is : digits_value 10 digits ≡ value
  pub within : value ≤ max_number

-- the bytes are one record, with this edit
pub record IsRecord (bytes : List ℕ) (edit : ScriptEdit) : Type 0 where
  pub start : List ℕ
  pub end : List ℕ
  pub len : List ℕ
  pub start_is : IsNumber start edit.start
  pub end_is : IsNumber end edit.end
  pub len_is : IsNumber len (length edit.new)
  pub is : bytes ≡ at_sign ∷ (start ++ space ∷ (end ++ space ∷ (len ++ line_feed
      ∷ (edit.new ++ line_feed ∷ []))))

-- a record with this edit begins the bytes, and the others are such
pub record BeginsWithRecord (bytes : List ℕ) (edit : ScriptEdit)
    (AreOthers : List ℕ → Type 0) : Type 0 where
  pub first : List ℕ
  pub others : List ℕ
  pub is : bytes ≡ first ++ others
  pub is_record : IsRecord first edit
  pub are_others : AreOthers others

-- the bytes are records with these edits, one after another
abbrev pub AreRecords : List ℕ → List ScriptEdit → Type 0
AreRecords bytes [] = bytes ≡ []
AreRecords bytes (edit ∷ edits) = BeginsWithRecord bytes edit (λ others. AreRecords others edits)

-- the records that begin the bytes have a record's form, and as many bytes as is said
abbrev pub RecordsBeginBytes : Type 0
RecordsBeginBytes = (bytes : List ℕ) → AreRecords (take (records_len bytes) bytes) (records bytes)

-- bytes that are records are read as these, whatever follows them: none is left out
abbrev pub RecordsStandAlone : Type 0
RecordsStandAlone = (own others : List ℕ) (edits : List ScriptEdit) → AreRecords own edits
    → (records (own ++ others) ≡ edits ++ records others)
    × (records_len (own ++ others) ≡ length own + records_len others)

-- The new texts of records in a UTF-8 text are UTF-8 themselves: LF follows each, so it ends at a
-- character boundary.
abbrev pub NewTextsAreUtf8 : Type 0
NewTextsAreUtf8 = (bytes : List ℕ) → IsUtf8 bytes → All (λ edit. IsUtf8 edit.new) (records bytes)

-- the number of the bytes of the new texts
abbrev pub new_bytes : List ScriptEdit → ℕ
new_bytes [] = 0
new_bytes (edit ∷ edits) = length edit.new + new_bytes edits

-- The new texts of the records, and a byte for each record, are together no longer than the text
-- that the records begin.
abbrev pub NewTextsAreShort : Type 0
NewTextsAreShort = (bytes : List ℕ)
    → new_bytes (records bytes) + length (records bytes) ≤ length bytes
