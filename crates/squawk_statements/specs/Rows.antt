-- The code's table as a list of rows, and the kinds that its search reads. For private functions.
use Rattle.std.specs.Prelude.{◌≡◌, ℕ, ◌==◌, ◌&&◌, ◌||◌, Bool, false, List, [], ◌∷◌, drop, if◌then◌else◌}
use Rattle.std.specs.List.{find, prefix_len}
use Rattle.squawk_kinds.specs.declared.numbers.TheConstants.Number as kind
use Rattle.squawk_events.specs.Kinds.{is_trivia_kind, without_trivia}
use Rattle.squawk_statements.specs.Opening as opening
use Rattle.squawk_statements.specs.declared.rows.Row.{Row}

-- the kinds and the node of a row
abbrev pub row_of : Row → opening.Row
row_of row = (row.first ∷ row.rest.now, row.node)

-- for a statement with this first kind, the first of these rows that is a prefix is the longest
-- such row of the whole table
unfoldable pub FirstMatchIsLongest : ℕ → List opening.Row → Type 0
FirstMatchIsLongest first rows = (rest : List ℕ)
    → find (λ (row : opening.Row). opening.is_prefix row.0 (first ∷ rest)) rows
    ≡ opening.longest opening.rows (first ∷ rest)

-- the kinds that are not trivia if the flag is set, else all
abbrev pub without_trivia_if : Bool → List ℕ → List ℕ
without_trivia_if skip_trivia ks = if skip_trivia then without_trivia ks else ks

-- the rest of the key, of these kinds after the kinds that the key has so far
abbrev pub key_rest : List ℕ → List ℕ → List ℕ
key_rest [] ks = opening.key ks
key_rest (k ∷ []) ks = if k == kind.CREATE_KW then drop (prefix_len opening.is_modifier ks) ks
    else ks
key_rest (k ∷ l ∷ so_far) ks = ks

-- whether the key, which has these kinds so far, leaves out this kind as a modifier
abbrev pub is_skipped_modifier : List ℕ → ℕ → Bool
is_skipped_modifier [] k = false
is_skipped_modifier (c ∷ []) k = c == kind.CREATE_KW && opening.is_modifier k
is_skipped_modifier (c ∷ d ∷ so_far) k = false

-- whether the key, which has these kinds so far, leaves out this kind
abbrev pub is_skipped : Bool → List ℕ → ℕ → Bool
is_skipped skip_trivia so_far k = skip_trivia && is_trivia_kind k || is_skipped_modifier so_far k
