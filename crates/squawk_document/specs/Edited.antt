-- What an edit returns: its counts, or why it is refused.
use Rattle.std.specs.Prelude.{ℕ, ◌<◌, ⊤, List, length}
use Rattle.squawk_cut.specs.Tells.{Tells}
use Rattle.squawk_events.specs.Limit.{limit}
use Rattle.squawk_events.specs.declared.error.FrontError.{FrontError}
use Rattle.squawk_events.specs.declared.error.FrontError.TheVariants.{TooLong, OutOfMemory, BadRange}
use Rattle.squawk_document.specs.Boundaries.{IsRange, splice}
use Rattle.squawk_document.specs.EditedTokens.{token_counts_of}
use Rattle.squawk_document.specs.EditedChildren.{child_counts_of}
use Rattle.squawk_document.specs.declared.edited.TokenCounts.{TokenCounts}
use Rattle.squawk_document.specs.declared.edited.ChildCounts.{ChildCounts}
use Rattle.squawk_document.specs.declared.edited.Edited.{Edited}

-- the counts of tokens and of children together
abbrev pub both_counts : TokenCounts → ChildCounts → Edited
both_counts tokens children = record {
  front_tokens = tokens.front_tokens;
  cut_tokens = tokens.cut_tokens;
  back_tokens = tokens.back_tokens;
  front_children = children.front_children;
  parsed_children = children.parsed_children;
  back_children = children.back_children;
}

-- the counts of the edit that replaces the bytes of a text from start to end
abbrev pub edited_of : Tells → List ℕ → ℕ → ℕ → List ℕ → Edited
edited_of t text start end new =
    both_counts (token_counts_of t text start end new) (child_counts_of t text start end new)

-- the range is one of the text, but the text after the edit has too many bytes
abbrev pub IsTooLong : List ℕ → ℕ → ℕ → List ℕ → Type 0
IsTooLong text start end new = IsRange text start end × (limit < length (splice text start end new))

-- the errors that an edit may return
abbrev pub MayRefuseEdit : List ℕ → ℕ → ℕ → List ℕ → FrontError → Type 0
MayRefuseEdit text start end new TooLong = IsTooLong text start end new
MayRefuseEdit text start end new OutOfMemory = ⊤
MayRefuseEdit text start end new BadRange = ¬ IsRange text start end
