-- What a call leaves in an array of its caller.
use Rattle.std.specs.Prelude.{◌≡◌, ℕ, ◌<◌, ◌≤◌, List, length, take, drop}

-- An array that was `before` begins with these elements if it has room for all of them, and what
-- comes after them is as it was. Otherwise all of it is as it was. `count` is the number of
-- the elements.
pub record IsPut {A : Type 0} (elements before after : List A) (count : ℕ) : Type 0 where
  pub count_is : count ≡ length elements
  pub same_length : length after ≡ length before
  pub put : count ≤ length before → take count after ≡ elements
  pub rest : count ≤ length before → drop count after ≡ drop count before
  pub none : length before < count → after ≡ before
