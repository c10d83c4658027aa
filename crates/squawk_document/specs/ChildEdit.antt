-- What a run of parses returns: children from an offset on, up to the return.
use Rattle.std.specs.Prelude.{ℕ, ◌≡◌, ◌+◌, ◌-◌, ◌≤◌, ◌&&◌, not, nat_lt, Bool, true, false, List, [], ◌∷◌, ◌++◌, length, take, drop}
use Rattle.std.specs.List.{list_any}
use Rattle.std.specs.Option.{MatchOption}
use Rattle.std.specs.declared.option.Option.{Option}
use Rattle.std.specs.declared.option.Option.TheVariants.{None, Some}
use Rattle.squawk_cut.specs.Children.{text_tokens, children_from, children_of}
use Rattle.squawk_cut.specs.Join.{child_bytes}
use Rattle.squawk_cut.specs.ChildValue.{ChildValue}
use Rattle.squawk_cut.specs.Tells.{Tells}
use Rattle.squawk_lexer.specs.declared.token.Token.{Token}
use Rattle.squawk_document.specs.Boundaries.{total_len, splice}
use Rattle.squawk_document.specs.ChildEnds.{quiet_ends, is_quiet}
use Rattle.squawk_document.specs.EditedChildren.{front_children, back_children}
use Rattle.squawk_document.specs.EditedTokens.{meeting}
use Rattle.squawk_document.specs.FrontPart.{AllClosed, all_closed}
use Rattle.squawk_document.specs.declared.skip.Position.{Position}

-- whether the children may return at an offset of the new text: it is at or past the new offset m
-- of the meeting, and its old offset is quiet; nowhere without a meeting
abbrev pub is_new_return : ℕ → ℕ → Option ℕ → List ChildValue → ℕ → Bool
is_new_return new_end end None old p = false
is_new_return new_end end (Some m) old p = not (nat_lt p m) && is_quiet old (p - new_end + end)

-- the children of the tokens from the index i on, which begin at an offset
abbrev pub children_at : Tells → List ℕ → List Token → ℕ → ℕ → List ChildValue
children_at t text tokens at i = children_from t 0 (text_tokens (drop at text) (drop i tokens))

-- the children from a position on are these so far, and then those from `at` on; the children do
-- not return at a quiet end of one of these
pub record IsParsedSoFar (t : Tells) (text : List ℕ) (tokens : List Token) (old : List ChildValue)
    (restart : Position) (new_end end : ℕ) (m : Option ℕ) (fresh_children : List ChildValue)
    (at i : ℕ) (only_closed : Bool) : Type 0 where
  pub children : children_at t text tokens restart.offset restart.index
      ≡ fresh_children ++ children_at t text tokens at i
  pub offset : at ≡ restart.offset + child_bytes fresh_children
  pub index : at ≡ total_len (take i tokens)
  pub within : i ≤ length tokens
  pub only_closed_is : only_closed ≡ all_closed fresh_children
  pub none_returns :
      list_any (is_new_return new_end end m old) (quiet_ends restart.offset fresh_children) ≡ false

-- the children are closed, they return at the end of the last and not before it, and in the old
-- text the children from the index `next` on follow there
pub record EndsAtReturn (t : Tells) (text : List ℕ) (tokens : List Token) (old : List ChildValue)
    (restart : Position) (new_end end : ℕ) (m : Option ℕ) (fresh_children : List ChildValue)
    (next : ℕ) : Type 0 where
  pub before : List ChildValue
  pub last : ChildValue
  pub parts : fresh_children ≡ before ++ last ∷ []
  pub none_returns :
      list_any (is_new_return new_end end m old) (quiet_ends restart.offset before) ≡ false
  pub rest : List ChildValue
  pub children : children_at t text tokens restart.offset restart.index ≡ fresh_children ++ rest
  pub closed : AllClosed fresh_children
  pub at_return :
      is_new_return new_end end m old (restart.offset + child_bytes fresh_children) ≡ true
  pub within : next ≤ length old
  pub old_closed : AllClosed (take next old)
  pub offset : child_bytes (take next old)
      ≡ restart.offset + child_bytes fresh_children - new_end + end

-- these are all children from a position on, and they do not return at a quiet end of one
pub record ReturnsNowhere (t : Tells) (text : List ℕ) (tokens : List Token) (old : List ChildValue)
    (restart : Position) (new_end end : ℕ) (m : Option ℕ) (fresh_children : List ChildValue)
    : Type 0 where
  pub children : children_at t text tokens restart.offset restart.index ≡ fresh_children
  pub none_returns :
      list_any (is_new_return new_end end m old) (quiet_ends restart.offset fresh_children) ≡ false

-- the children from a position on, up to the return if there is one
abbrev pub IsReparse : Tells → List ℕ → List Token → List ChildValue → Position → ℕ → ℕ → Option ℕ
    → List ChildValue → Option ℕ → Type 0
IsReparse t text tokens old restart new_end end m fresh_children back = MatchOption back
    (ReturnsNowhere t text tokens old restart new_end end m fresh_children)
    (λ next. EndsAtReturn t text tokens old restart new_end end m fresh_children next)

-- the number of old children before those after the return
abbrev pub back_child_index : List ChildValue → Option ℕ → ℕ
back_child_index children None = length children
back_child_index children (Some next) = next

-- the children of the new text are the first front_len old children, the parsed children and the
-- old children from the index `next` on, and the definitions count as many
pub record IsChildEdit (t : Tells) (text : List ℕ) (start end : ℕ) (new : List ℕ)
    (old new_tokens : List Token) (front : ℕ) (children : List ChildValue) (front_len : ℕ)
    (fresh_children : List ChildValue) (next : ℕ) : Type 0 where
  pub new_children : children_of t (splice text start end new)
      ≡ take front_len children ++ (fresh_children ++ drop next children)
  pub count : front_children front old children ≡ front_len
  pub back : back_children start end new (meeting start end new old new_tokens) children
      (children_of t (splice text start end new)) ≡ length children - next
  pub ordered : front_len ≤ next
  pub within : next ≤ length children
