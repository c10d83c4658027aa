-- Scripts of edits. A script is a list of records, and a record is an edit of a text: the range of
-- bytes that it replaces, and the bytes that come in their place. A script is a list of bytes: all
-- characters that its form knows are ASCII.
use Rattle.std.specs.Prelude.{◌≡◌, ℕ, zero, suc, ◌+◌, ◌-◌, Bool, ◌&&◌, ◌==◌, nat_lt, nat_le, List, [], ◌∷◌, length, take, drop, map, slice_index, Option, Some, None, if◌then◌else◌}
use Rattle.std.specs.Char.{is_ascii_digit}
use Rattle.std.specs.List.{prefix_len}
use Rattle.std.specs.Str.Parse.{digits_value}
use Rattle.squawk_script.specs.declared.number.Number.{Number}
use Rattle.squawk_script.specs.declared.record.Header.{Header}

-- `@`
abbrev pub at_sign : ℕ
at_sign = 64

-- the space
abbrev pub space : ℕ
space = 32

-- LF
abbrev pub line_feed : ℕ
line_feed = 10

-- the largest number
abbrev pub max_number : ℕ
max_number = 4294967295

-- the most digits of a number
abbrev pub max_digits : ℕ
max_digits = 10

-- the digits are a number: one to ten, leading zeros among them, of at most the largest number
abbrev pub is_number : List ℕ → Bool
is_number digits = (nat_lt 0 (length digits) && nat_le (length digits) max_digits)
    && nat_le (digits_value 10 digits) max_number

-- the number that begins at an offset, with the offset after the byte that follows it
unfoldable pub number_at : (byte : ℕ) → List ℕ → (at : ℕ) → Option Number
number_at byte bytes at =
    let count = prefix_len is_ascii_digit (drop at bytes) in
    let digits = take count (drop at bytes) in
    if is_number digits && slice_index bytes (at + count) == byte
    then Some (record { value = digits_value 10 digits; after = at + count + 1 })
    else None

-- what is read after a value, if that value is there
abbrev pub and_then : {A B : Type 0} → Option A → (A → Option B) → Option B
and_then None next = None
and_then (Some value) next = next value

-- the first line of a record: `@`, two numbers that are followed by a space each, and one by LF
unfoldable pub header : List ℕ → Option Header
header bytes =
    if slice_index bytes 0 == at_sign then
    and_then (number_at space bytes 1) (λ start.
    and_then (number_at space bytes start.after) (λ end.
    and_then (number_at line_feed bytes end.after) (λ len. Some (record {
      start = start.value;
      end = end.value;
      new_len = len.value;
      after = len.after;
    }))))
    else None

-- an edit: the bytes of a text from start to end are replaced by new
pub record ScriptEdit : Type 0 where
  pub start : ℕ
  pub end : ℕ
  pub new : List ℕ

-- a record: its edit, and the number of its bytes
pub record Record : Type 0 where
  pub edit : ScriptEdit
  pub len : ℕ

-- the record with this first line: LF follows the new bytes, as many as the line's third number
unfoldable pub record_with_line : List ℕ → Header → Option Record
record_with_line bytes line =
    if slice_index bytes (line.after + line.new_len) == line_feed
    then Some (record {
      edit = record {
        start = line.start;
        end = line.end;
        new = take line.new_len (drop line.after bytes);
      };
      len = line.after + line.new_len + 1;
    })
    else None

-- the record that begins the bytes, if there is one
unfoldable pub first_record : List ℕ → Option Record
first_record bytes = and_then (header bytes) (record_with_line bytes)

-- a record, if there is one, and the records that follow its bytes
abbrev pub then_records : Option Record → (ℕ → List Record) → List Record
then_records None following = []
then_records (Some first) following = first ∷ following first.len

-- the longest list of whole records that begins the bytes after some that are skipped
abbrev pub records_from : (skipped : ℕ) → List ℕ → List Record
records_from skipped [] = []
records_from (suc skipped) (b ∷ bs) = records_from skipped bs
records_from zero (b ∷ bs) =
    then_records (first_record (b ∷ bs)) (λ len. records_from (len - 1) bs)

-- the number of the bytes of records
abbrev pub total_len : List Record → ℕ
total_len [] = 0
total_len (r ∷ rs) = r.len + total_len rs

-- the edits of the longest list of whole records that begins the bytes
abbrev pub records : List ℕ → List ScriptEdit
records bytes = map (λ r. r.edit) (records_from 0 bytes)

-- the number of the bytes of those records
abbrev pub records_len : List ℕ → ℕ
records_len bytes = total_len (records_from 0 bytes)

-- the bytes are records to their end
abbrev pub IsScript : List ℕ → Type 0
IsScript bytes = records_len bytes ≡ length bytes
