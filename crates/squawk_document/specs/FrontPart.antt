-- The tokens and children at the front of a text that an edit keeps, and how they are found.
use Rattle.std.specs.Prelude.{ℕ, ◌≡◌, ◌<◌, ◌≤◌, ◌+◌, ◌-◌, ◌&&◌, Bool, true, List, [], ◌∷◌, length, take, drop, Option}
use Rattle.std.specs.Option.{MatchOption}
use Rattle.std.specs.Str.{chars, IsCharBoundary}
use Rattle.squawk_lexer.specs.declared.token.Token.{Token}
use Rattle.squawk_cut.specs.Join.{child_bytes}
use Rattle.squawk_cut.specs.ChildValue.{ChildValue}
use Rattle.squawk_document.specs.Boundaries.{total_len}
use Rattle.squawk_document.specs.declared.skip.FrontChildren.{FrontChildren}
use Rattle.squawk_document.specs.declared.skip.Position.{Position}

-- the number of tokens of children
abbrev pub child_tokens : List ChildValue → ℕ
child_tokens [] = 0
child_tokens (c ∷ cs) = c.tokens + child_tokens cs

-- none of these children is open
abbrev pub AllClosed : List ChildValue → Type 0
AllClosed [] = Unit {0}
AllClosed (c ∷ cs) = (c.closed ≡ true) × AllClosed cs

-- the same as a test
abbrev pub all_closed : List ChildValue → Bool
all_closed [] = true
all_closed (c ∷ cs) = c.closed && all_closed cs

-- the first child is open or has more than n bytes
abbrev pub StopsBefore : List ChildValue → ℕ → Type 0
StopsBefore [] n = Unit {0}
StopsBefore (c ∷ cs) n = c.closed ≡ true → n < c.bytes

-- the offset of the last but one character of a text, if it has two
abbrev pub IsLastButOne : List ℕ → Option ℕ → Type 0
IsLastButOne text limit = MatchOption limit (length (chars text) < 2)
    (λ m. IsCharBoundary text m × (length (chars (drop m text)) ≡ 2))

-- the first n tokens are those that end at or before the limit; without a limit there are none
abbrev pub EndsByLimit : List Token → Option ℕ → ℕ → Type 0
EndsByLimit tokens limit n = MatchOption limit (n ≡ 0) (λ m. (total_len (take n tokens) ≤ m)
    × (n < length tokens → m < total_len (take (n + 1) tokens)))

-- children lie along tokens: the first n children have the bytes of the tokens that they hold
pub record AreAligned (tokens : List Token) (children : List ChildValue) : Type 0 where
  pub bytes : (n : ℕ) → child_bytes (take n children)
      ≡ total_len (take (child_tokens (take n children)) tokens)
  pub within : (n : ℕ) → child_tokens (take n children) ≤ length tokens

-- the position after the front tokens, where `before` is the text before the range of the edit
pub record IsFrontEnd (before : List ℕ) (old : List Token) (p : Position) : Type 0 where
  pub limit : Option ℕ
  pub limit_is : IsLastButOne before limit
  pub tokens : EndsByLimit old limit p.index
  pub within : p.index ≤ length old
  pub offset : p.offset ≡ total_len (take p.index old)

-- the closed children at the front that end at or before a limit, and the position of the token
-- after them
pub record AreFrontChildren (children : List ChildValue) (limit : ℕ) (front : FrontChildren)
    : Type 0 where
  pub within : front.len ≤ length children
  pub index : front.end.index ≡ child_tokens (take front.len children)
  pub offset : front.end.offset ≡ child_bytes (take front.len children)
  pub closed : AllClosed (take front.len children)
  pub low : front.end.offset ≤ limit
  pub stopped : StopsBefore (drop front.len children) (limit - front.end.offset)
