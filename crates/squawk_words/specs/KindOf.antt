-- The kind of the keyword that a text spells.
use Rattle.std.specs.Prelude.{◌≡◌, ℕ, List, [], ◌∷◌, ◌++◌, All, Any, codes, Option, None, Some, if◌then◌else◌}
use Rattle.std.specs.Str.{str_to_ascii_lowercase, str_eq_ignore_ascii_case}
use Rattle.squawk_kinds.specs.declared.SyntaxKind.{SyntaxKind}
use Rattle.squawk_words.specs.Words.{keywords, contextual_keywords}

-- the word equals the text, compared ASCII case-insensitively
abbrev pub IsWord : List ℕ → List ℕ → Type 0
IsWord word text = str_to_ascii_lowercase word ≡ str_to_ascii_lowercase text

-- no word of the pairs equals the text
abbrev pub HasNoWord : List (List ℕ × SyntaxKind) → List ℕ → Type 0
HasNoWord pairs text = All (λ pair. ¬ IsWord pair.0 text) pairs

-- one of the pairs has this kind and a word that equals the text
abbrev pub HasWord : List (List ℕ × SyntaxKind) → List ℕ → SyntaxKind → Type 0
HasWord pairs text kind = Any (λ pair. IsWord pair.0 text × (pair.1 ≡ kind)) pairs

-- the text in ASCII lowercase, between backquotes
abbrev pub backquoted : List ℕ → List ℕ
backquoted text = codes "`" ++ str_to_ascii_lowercase text ++ codes "`"

-- the kind of the first word that equals the text; the words of each of the two tables differ
abbrev pub kind_of : List (List ℕ × SyntaxKind) → List ℕ → Option SyntaxKind
kind_of [] text = None
kind_of (pair ∷ pairs) text = if str_eq_ignore_ascii_case pair.0 text then Some pair.1
    else kind_of pairs text

-- the kind of the keyword that the text spells
unfoldable pub keyword_of : List ℕ → Option SyntaxKind
keyword_of text = kind_of keywords text

-- the kind of the contextual keyword that the text spells
unfoldable pub contextual_keyword_of : List ℕ → Option SyntaxKind
contextual_keyword_of text = kind_of contextual_keywords text
