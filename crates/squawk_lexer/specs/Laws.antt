-- Laws of the definitions, each for every text. Each is the clause of a function in src/laws.rt.
use Rattle.std.specs.Prelude.{◌≡◌, ℕ, zero, suc, ◌+◌, ◌<◌, ◌≤◌, Bool, true, false, ◌&&◌, not, List, [], ◌∷◌, length, drop, take, slice_index, nat_eq, Some, None, if◌then◌else◌}
use Rattle.std.specs.List.{starts_with, sum_by}
use Rattle.squawk_lexer.specs.declared.token.Token.{Token}
use Rattle.squawk_lexer.specs.declared.token.TokenKind.{TokenKind}
use Rattle.squawk_lexer.specs.declared.token.TokenKind.TheVariants.{Unknown}
use Rattle.squawk_lexer.specs.declared.token.Strings.{Strings}
use Rattle.squawk_lexer.specs.Text.{utf8_len}
use Rattle.squawk_lexer.specs.Classes.{is_control, is_whitespace}
use Rattle.squawk_lexer.specs.Runs.{run_end}
use Rattle.squawk_lexer.specs.Dollar.{find_end}
use Rattle.squawk_lexer.specs.Comment.{opens_comment, closes_comment, comment_len}
use Rattle.squawk_lexer.specs.Token.{lexeme_at}
use Rattle.squawk_lexer.specs.Cut.{tokens_from}

-- ---- runs

-- The characters of u from index i up to index j are of the class, and the one at j, if any, is
-- not.
pub record IsRun (class : ℕ → Bool) (u : List ℕ) (i j : ℕ) : Type 0 where
  pub on : i ≤ j
  pub within : j ≤ length u
  pub all : (k : ℕ) → i ≤ k → k < j → class (slice_index u k) ≡ true
  pub stops : j < length u → class (slice_index u j) ≡ false

-- `run_end` is the end of the longest run of a class.
abbrev pub RunsAreLongest : Type 0
RunsAreLongest = (class : ℕ → Bool) (u : List ℕ) (i : ℕ) → i ≤ length u
    → IsRun class u i (run_end class u i)

-- No other index is the end of such a run.
abbrev pub RunsAreUnique : Type 0
RunsAreUnique = (class : ℕ → Bool) (u : List ℕ) (i j : ℕ) → IsRun class u i j
    → j ≡ run_end class u i

-- ---- tokens

-- A token has at least one character.
abbrev pub TokensProgress : Type 0
TokensProgress = (strings : Strings) (at_start : Bool) (u : List ℕ) → 1 ≤ length u
    → 1 ≤ (lexeme_at strings at_start u).end

-- A token ends within the text.
abbrev pub TokensWithin : Type 0
TokensWithin = (strings : Strings) (at_start : Bool) (u : List ℕ) → 1 ≤ length u
    → (lexeme_at strings at_start u).end ≤ length u

-- The number of characters of the first n tokens, or of all tokens where there are fewer than n.
abbrev pub chars_of_tokens : Strings → Bool → ℕ → List ℕ → ℕ
chars_of_tokens strings at_start zero u = 0
chars_of_tokens strings at_start (suc n) [] = 0
chars_of_tokens strings at_start (suc n) (c ∷ cs) =
    (lexeme_at strings at_start (c ∷ cs)).end
    + chars_of_tokens strings false n (drop (lexeme_at strings at_start (c ∷ cs)).end (c ∷ cs))

-- The `len` of the first n tokens add up to the bytes of their characters.
abbrev pub LengthsAddUp : Type 0
LengthsAddUp =
    (strings : Strings) (at_start : Bool) (n : ℕ) (u : List ℕ)
    → utf8_len (take (chars_of_tokens strings at_start n u) u)
    ≡ sum_by (λ (t : Token). t.len) (take n (tokens_from strings 0 at_start u))

-- The first n tokens have no more characters than the text.
abbrev pub LengthsWithin : Type 0
LengthsWithin = (strings : Strings) (at_start : Bool) (n : ℕ) (u : List ℕ)
    → chars_of_tokens strings at_start n u ≤ length u

-- The tokens after the first n are those of the rest of the text by itself, where a leading byte
-- order mark is not white space.
abbrev pub TokensRestart : Type 0
TokensRestart =
    (strings : Strings) (at_start : Bool) (n : ℕ) (u : List ℕ) → 1 ≤ n
    → drop n (tokens_from strings 0 at_start u)
    ≡ tokens_from strings 0 false (drop (chars_of_tokens strings at_start n u) u)

-- ---- unknown characters

-- Whether a kind is `Unknown`.
abbrev pub is_unknown : TokenKind → Bool
is_unknown Unknown = true
is_unknown _ = false

-- A token is `Unknown` exactly where it begins with a control character of ASCII other than white
-- space.
abbrev pub UnknownIsControl : Type 0
UnknownIsControl =
    (strings : Strings) (at_start : Bool) (c : ℕ) (cs : List ℕ)
    → is_unknown (lexeme_at strings at_start (c ∷ cs)).kind
    ≡ (is_control c && not (is_whitespace c))

-- An `Unknown` token is one character.
abbrev pub UnknownIsOneCharacter : Type 0
UnknownIsOneCharacter =
    (strings : Strings) (at_start : Bool) (c : ℕ) (cs : List ℕ)
    → is_unknown (lexeme_at strings at_start (c ∷ cs)).kind ≡ true
    → (lexeme_at strings at_start (c ∷ cs)).end ≡ 1

-- ---- dollar-quoted strings

-- The first occurrence of d in v begins at index k.
pub record IsFirstOccurrence (d v : List ℕ) (k : ℕ) : Type 0 where
  pub stands : starts_with nat_eq (drop k v) d ≡ true
  pub first : (j : ℕ) → j < k → starts_with nat_eq (drop j v) d ≡ false

-- `find_end` is the end of the first occurrence.
abbrev pub FirstOccurrenceIsFound : Type 0
FirstOccurrenceIsFound = (d v : List ℕ) (n : ℕ) → find_end d v ≡ Some n → (k : ℕ)
    × (n ≡ k + length d) × IsFirstOccurrence d v k

-- Where `find_end` is `None`, d does not occur.
abbrev pub NoOccurrenceIsMissed : Type 0
NoOccurrenceIsMissed = (d v : List ℕ) → find_end d v ≡ None → (k : ℕ) → k < length v
    → starts_with nat_eq (drop k v) d ≡ false

-- ---- block comments

-- A part of the inside of a block comment: `/*`, `*/`, or another character.
pub data CommentPart : Type 0 where
  Open : CommentPart
  Close : CommentPart
  Plain : CommentPart

-- The parts of a text from the left: `/*` or `*/` where the next two characters are one of them,
-- else the next character.
abbrev pub comment_parts : List ℕ → List CommentPart
comment_parts [] = []
comment_parts (c ∷ []) = Plain ∷ []
comment_parts (c ∷ d ∷ cs) =
    if opens_comment c d then Open ∷ comment_parts cs
    else if closes_comment c d then Close ∷ comment_parts cs
    else Plain ∷ comment_parts (d ∷ cs)

-- The number of characters of a part.
abbrev pub comment_part_len : CommentPart → ℕ
comment_part_len Plain = 1
comment_part_len _ = 2

-- The number of comments that a part opens.
abbrev pub opens_in : CommentPart → ℕ
opens_in Open = 1
opens_in _ = 0

-- The number of comments that a part closes.
abbrev pub closes_in : CommentPart → ℕ
closes_in Close = 1
closes_in _ = 0

-- Where n comments are open before the parts, at least one is open after the first k.
abbrev pub StaysOpen : ℕ → List CommentPart → ℕ → Type 0
StaysOpen n ps k = sum_by closes_in (take k ps) < n + sum_by opens_in (take k ps)

-- Where n comments are open before the parts, k is the least number of parts after which none is
-- open.
pub record IsBalance (n : ℕ) (ps : List CommentPart) (k : ℕ) : Type 0 where
  pub within : k ≤ length ps
  pub balanced : sum_by closes_in (take k ps) ≡ n + sum_by opens_in (take k ps)
  pub first : (j : ℕ) → j < k → StaysOpen n ps j

-- A comment ends with the first part after which no comment is open.
abbrev pub CommentsBalance : Type 0
CommentsBalance =
    (inner : ℕ) (v : List ℕ) (n : ℕ) → comment_len inner v ≡ Some n
    → (k : ℕ) × (n ≡ sum_by comment_part_len (take k (comment_parts v)))
    × IsBalance (inner + 1) (comment_parts v) k

-- Where a comment is not closed, one is open after any number of parts.
abbrev pub OpenCommentsStayOpen : Type 0
OpenCommentsStayOpen = (inner : ℕ) (v : List ℕ) → comment_len inner v ≡ None → (k : ℕ)
    → StaysOpen (inner + 1) (comment_parts v) k
