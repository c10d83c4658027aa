-- How tokens are stored: as three lists, of their kinds, of their starts, and of all errors. Public
-- contracts cite the three lists; the rest is for private functions.
use Rattle.std.specs.Prelude.{◌≡◌, ⊤, ℕ, zero, suc, ◌+◌, ◌-◌, ◌<◌, ◌^◌, IsTrue, nat_lt, List, [], ◌∷◌, ◌++◌, length, slice_index, if◌then◌else◌}
use Rattle.std.specs.Str.{IsCharBoundary}
use Rattle.squawk_events.specs.declared.steps.ParseError.{ParseError}
use Rattle.squawk_lexed.specs.declared.fault.Fault.{Fault}
use Rattle.squawk_lexed.specs.LexedToken.{LexedToken}
use Rattle.squawk_lexed.specs.LexedText.{total_len, are_sound}

-- the kinds of tokens
abbrev pub kinds_of : List LexedToken → List ℕ
kinds_of [] = []
kinds_of (t ∷ ts) = t.kind ∷ kinds_of ts

-- the start of each token, and the end of the last
abbrev pub starts_of : ℕ → List LexedToken → List ℕ
starts_of at [] = at ∷ []
starts_of at (t ∷ ts) = at ∷ starts_of (at + t.len) ts

-- the faults of a token that begins at this byte, as errors of the text
abbrev pub errors_at : ℕ → List Fault → List ParseError
errors_at at [] = []
errors_at at (f ∷ fs) = record { start = at + f.start; end = at + f.end; number = f.number }
    ∷ errors_at at fs

-- the errors of all tokens
abbrev pub errors_of : ℕ → List LexedToken → List ParseError
errors_of at [] = []
errors_of at (t ∷ ts) = errors_at at t.faults ++ errors_of (at + t.len) ts

-- ---- the way back: a token has the errors that begin before its end

-- the leading errors that begin before this end, as faults of the token that begins at `at`
abbrev pub faults_before : ℕ → ℕ → List ParseError → List Fault
faults_before at end [] = []
faults_before at end (e ∷ es) =
    if nat_lt e.start end then record { number = e.number; start = e.start - at; end = e.end - at }
    ∷ faults_before at end es else []

-- the errors from the first on that begins at this offset or after it
abbrev pub errors_from : ℕ → List ParseError → List ParseError
errors_from offset [] = []
errors_from offset (e ∷ es) = if nat_lt e.start offset then errors_from offset es else e ∷ es

-- the tokens that three lists store
abbrev pub lexed_tokens_from : List ℕ → List ℕ → List ParseError → List LexedToken
lexed_tokens_from [] starts errors = []
lexed_tokens_from (kind ∷ kinds) [] errors = []
lexed_tokens_from (kind ∷ kinds) (start ∷ starts) errors =
    record {
      kind = kind;
      len = slice_index starts 0 - start;
      faults = faults_before start (slice_index starts 0) errors;
    }
    ∷ lexed_tokens_from kinds starts (errors_from (slice_index starts 0) errors)

-- each offset is a character boundary of the text
abbrev pub AreBoundaries : List ℕ → List ℕ → Type 0
AreBoundaries text [] = ⊤
AreBoundaries text (at ∷ offsets) = IsCharBoundary text at × AreBoundaries text offsets

-- the lists store these tokens, which are sound and cover the text, and begin and end at character
-- boundaries
pub record IsStoredAs (text kinds starts : List ℕ) (errors : List ParseError)
    (ts : List LexedToken) : Type 0 where
  pub kinds_are : kinds ≡ kinds_of ts
  pub starts_are : starts ≡ starts_of 0 ts
  pub errors_are : errors ≡ errors_of 0 ts
  pub sound : IsTrue (are_sound ts)
  pub whole : total_len ts ≡ length text
  pub fits : length text < 2 ^ 32
  pub boundaries : AreBoundaries text (starts_of 0 ts)

-- the lists store the tokens that are read off them
abbrev pub IsStored : List ℕ → List ℕ → List ℕ → List ParseError → Type 0
IsStored text kinds starts errors =
    IsStoredAs text kinds starts errors (lexed_tokens_from kinds starts errors)

-- the token with this kind, this length and these faults
abbrev pub token_of : ℕ → ℕ → List Fault → LexedToken
token_of kind len faults = record { kind = kind; len = len; faults = faults }

-- the faults of the token at index i
abbrev pub faults_at : List LexedToken → ℕ → List Fault
faults_at [] i = []
faults_at (t ∷ ts) zero = t.faults
faults_at (t ∷ ts) (suc i) = faults_at ts i
