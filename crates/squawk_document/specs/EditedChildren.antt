-- The counts of children of an edit. They compare the children of two whole texts.
use Rattle.std.specs.Prelude.{ℕ, ◌+◌, ◌-◌, ◌&&◌, not, nat_lt, Bool, List, length, take}
use Rattle.std.specs.List.{count_by, position_or_len}
use Rattle.std.specs.declared.option.Option.{Option}
use Rattle.std.specs.declared.option.Option.TheVariants.{None, Some}
use Rattle.squawk_lexer.specs.declared.token.Token.{Token}
use Rattle.squawk_cut.specs.ChildValue.{ChildValue}
use Rattle.squawk_cut.specs.Tells.{Tells}
use Rattle.squawk_cut.specs.Tokens.{tokens_of}
use Rattle.squawk_cut.specs.Children.{children_of}
use Rattle.squawk_document.specs.Boundaries.{total_len, new_offset, splice}
use Rattle.squawk_document.specs.declared.edited.ChildCounts.{ChildCounts}
use Rattle.squawk_document.specs.EditedTokens.{front_tokens, meeting}
use Rattle.squawk_document.specs.ChildEnds.{child_ends, quiet_ends, is_quiet}

-- the number of front children: old children of front tokens alone, the last of which ends at a
-- quiet offset
abbrev pub front_children : ℕ → List Token → List ChildValue → ℕ
front_children front_tokens old children =
    count_by (λ e. not (nat_lt (total_len (take front_tokens old)) e)) (quiet_ends 0 children)

-- whether the children may return at an old offset: it is at or past the meeting m and quiet in the
-- old text, and its new offset is quiet in the new text
abbrev pub is_return : ℕ → ℕ → List ℕ → ℕ → List ChildValue → List ChildValue → ℕ → Bool
is_return start end new m old new_children p =
    (not (nat_lt p m) && is_quiet old p) && is_quiet new_children (new_offset start end new p)

-- the number of back children: old children after the first end at which they may return; none
-- without a meeting
abbrev pub back_children : ℕ → ℕ → List ℕ → Option ℕ → List ChildValue → List ChildValue → ℕ
back_children start end new None old new_children = 0
back_children start end new (Some m) old new_children =
    length old
    - (position_or_len (is_return start end new m old new_children) (child_ends 0 old) + 1)

-- the counts of front, parsed and back children; the parsed children are the new children between
-- the others
abbrev pub child_counts_of : Tells → List ℕ → ℕ → ℕ → List ℕ → ChildCounts
child_counts_of t text start end new =
    let tokens = tokens_of t text in
    let new_tokens = tokens_of t (splice text start end new) in
    let old = children_of t text in
    let new_children = children_of t (splice text start end new) in
    let front = front_children (front_tokens text start tokens) tokens old in
    let m = meeting start end new tokens new_tokens in
    let back = back_children start end new m old new_children in
    record {
      front_children = front;
      parsed_children = length new_children - front - back;
      back_children = back;
    }
