-- The data of a `COPY .. FROM STDIN` in a script: the lines after the statement, up to an
-- end-of-data marker. Every character that matters is ASCII, so a text is a list of bytes.
use Rattle.std.specs.Prelude.{◌≡◌, ℕ, ◌+◌, ◌<◌, ◌&&◌, ◌==◌, List, [], ◌∷◌, drop, length, slice_index, Option, Some, None, unwrap_or, if◌then◌else◌}
use Rattle.squawk_lexer.specs.Classes.{line_feed, carriage_return, backslash}

abbrev pub full_stop : ℕ
full_stop = 46

-- The length of the end-of-data marker that begins the text, its line end included: `\.` before
-- LF, before CR and LF, or at the end of the text. `None` if the text begins with another line.
abbrev pub end_marker_len : List ℕ → Option ℕ
end_marker_len [] = None
end_marker_len (a ∷ []) = None
end_marker_len (a ∷ b ∷ []) = if a == backslash && b == full_stop then Some 2 else None
end_marker_len (a ∷ b ∷ c ∷ cs) =
    if a == backslash && b == full_stop then
    (if c == line_feed then Some 3
    else if c == carriage_return && slice_index cs 0 == line_feed then Some 4
    else None)
    else None

-- The length of the data that begins the text: up to the end of the first end-of-data marker that
-- follows an LF, or else to the end of the text.
abbrev pub copy_data_len : List ℕ → ℕ
copy_data_len [] = 0
copy_data_len (c ∷ cs) =
    1 + unwrap_or (if c == line_feed then end_marker_len cs else None) (copy_data_len cs)

-- ---- laws

-- an LF stands at index k, and an end-of-data marker of n bytes follows it
pub record IsEndMarker (text : List ℕ) (k n : ℕ) : Type 0 where
  pub within : k < length text
  pub after_line_feed : slice_index text k ≡ line_feed
  pub marker : end_marker_len (drop (k + 1) text) ≡ Some n

-- the data ends with the first end-of-data marker
abbrev pub DataEndsAtFirstMarker : Type 0
DataEndsAtFirstMarker =
    (text : List ℕ) (k n : ℕ) → IsEndMarker text k n
    → ((j m : ℕ) → j < k → IsEndMarker text j m → ⊥) → copy_data_len text ≡ k + 1 + n

-- without an end-of-data marker, the data is the whole text
abbrev pub DataWithoutMarkerIsAll : Type 0
DataWithoutMarkerIsAll =
    (text : List ℕ) → ((j m : ℕ) → IsEndMarker text j m → ⊥) → copy_data_len text ≡ length text
