-- The flags of tags, set in one pass over a value. For private functions.
use Rattle.std.specs.Prelude.{◌≡◌, ℕ, suc, ◌<◌, ◌≤◌, Bool, true, false, ◌||◌, ◌==◌, List, [], ◌∷◌, if◌then◌else◌}
use Rattle.squawk_lexer.specs.Classes.{dollar_sign}
use Rattle.squawk_quote.specs.Values.{TagRun, is_run_of, has_tag, delimiter_fits}

-- the flags of the tags of n letters, of n + 1 letters and so on, where that of the run is set
abbrev pub mark_run : ℕ → TagRun → List Bool → List Bool
mark_run n run [] = []
mark_run n run (b ∷ bs) = (b || is_run_of n run) ∷ mark_run (suc n) run bs

-- the flags after the character c, which ends a tag if it is a `$`
abbrev pub mark_at : ℕ → TagRun → (c : ℕ) → List Bool → List Bool
mark_at n run c bs = if c == dollar_sign then mark_run n run bs else bs

-- the flags where those of the tags are set that occur in a value after a run
abbrev pub mark_tags : ℕ → TagRun → List ℕ → List Bool → List Bool
mark_tags n run value [] = []
mark_tags n run value (b ∷ bs) = (b || has_tag n run value) ∷ mark_tags (suc n) run value bs

-- the index of the first flag that is not set, or the number of flags
abbrev pub first_unset : List Bool → ℕ
first_unset [] = 0
first_unset (b ∷ bs) = if b then suc (first_unset bs) else 0

-- the tag of n letters is the first that fits, of those of `from` letters up to `to`; n is `to` if
-- none of them does
pub record IsFirstToFit (value : List ℕ) (from to n : ℕ) : Type 0 where
  pub within : n ≤ to
  pub fits : n < to → delimiter_fits value n ≡ true
  pub others : (k : ℕ) → from ≤ k → k < n → delimiter_fits value k ≡ false
