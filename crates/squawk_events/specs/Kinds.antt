-- Trivia among kinds.
use Rattle.std.specs.Prelude.{ℕ, ◌==◌, ◌||◌, ◌&&◌, not, Bool, true, List, [], ◌∷◌, if◌then◌else◌}
use Rattle.squawk_kinds.specs.declared.numbers.TheConstants.Number as kind

-- whether a kind is trivia: white space or a comment
unfoldable pub is_trivia_kind : ℕ → Bool
is_trivia_kind k = k == kind.WHITESPACE || k == kind.COMMENT

-- the kinds that are not trivia
abbrev pub without_trivia : List ℕ → List ℕ
without_trivia [] = []
without_trivia (k ∷ ks) = if is_trivia_kind k then without_trivia ks else k ∷ without_trivia ks

-- whether no kind is trivia
abbrev pub has_no_trivia : List ℕ → Bool
has_no_trivia [] = true
has_no_trivia (k ∷ ks) = not (is_trivia_kind k) && has_no_trivia ks
