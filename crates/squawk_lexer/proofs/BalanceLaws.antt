-- A block comment ends at the first balance of its parts.
use Rattle.std.proofs.Common.{◌≡◌, ℕ, zero, suc, ◌+◌, ◌<◌, ◌≤◌, Bool, true, false, List, [], ◌∷◌, length, take, Option, Some, None, option_map, cond, refl, subst, arith}
use Rattle.std.proofs.lemmas.List.Sums.{sum_by-cons}
use Rattle.std.specs.List.{sum_by}
use Rattle.squawk_lexer.specs.Comment.{opens_comment, closes_comment, comment_len}
use Rattle.squawk_lexer.specs.Laws.{CommentPart, Open, Close, Plain, comment_parts, comment_part_len, opens_in, closes_in, StaysOpen, IsBalance, CommentsBalance, OpenCommentsStayOpen}

-- What a length, or its absence, says of the parts, where n comments are open before them.
abbrev Ends : ℕ → List CommentPart → Option ℕ → Type 0
Ends n ps None = (k : ℕ) → StaysOpen n ps k
Ends n ps (Some m) = (k : ℕ) × (m ≡ sum_by comment_part_len (take k ps)) × IsBalance n ps k

-- A comment that is open after some parts is open with one more part before them.
open_on : (p : CommentPart) (ps : List CommentPart) (n m k : ℕ) → n + opens_in p ≡ m + closes_in p
    → StaysOpen m ps k → StaysOpen n (p ∷ ps) (suc k)
open_on p ps n m k e h =
    omega (arith, h, e, sum_by-cons opens_in p (take k ps), sum_by-cons closes_in p (take k ps))

-- The law with one more part before it, where n comments are open before it and m after it.
more : (p : CommentPart) (ps : List CommentPart) (n m : ℕ) (o : Option ℕ) → 0 < n
    → n + opens_in p ≡ m + closes_in p → Ends m ps o
    → Ends n (p ∷ ps) (option_map (λ l. l + comment_part_len p) o)
more p ps n m None some e h = stays
  where
    stays : (k : ℕ) → StaysOpen n (p ∷ ps) k
    stays zero = omega arith
    stays (suc k) = open_on p ps n m k e (h k)
more p ps n m (Some l) some e (k, is, b) = (
  suc k,
  omega (arith, is, sum_by-cons comment_part_len p (take k ps)),
  record {
    within = within;
    balanced = balanced;
    first = first;
  },
)
  where
    within : suc k ≤ length (p ∷ ps)
    within = let h : k ≤ length ps = b.within in omega arith

    balanced : sum_by closes_in (take (suc k) (p ∷ ps))
        ≡ n + sum_by opens_in (take (suc k) (p ∷ ps))
    balanced = omega (
      arith,
      b.balanced,
      e,
      sum_by-cons opens_in p (take k ps),
      sum_by-cons closes_in p (take k ps),
    )

    first : (j : ℕ) → j < suc k → StaysOpen n (p ∷ ps) j
    first zero h = omega arith
    first (suc j) h = open_on p ps n m j e (b.first j (omega arith))

-- The law at the part that closes the outer comment.
last : (ps : List CommentPart) → Ends 1 (Close ∷ ps) (Some 2)
last ps = (1, refl, record { within = omega arith; balanced = refl; first = first })
  where
    first : (j : ℕ) → j < 1 → StaysOpen 1 (Close ∷ ps) j
    first zero h = omega arith
    first (suc j) h = absurd (omega arith)

-- The law by cases on the tests of the next two characters.
branch : (n : ℕ) (b k : Bool) (p q r : List CommentPart) (x y z : Option ℕ) → Ends n p x
    → Ends n q y → Ends n r z → Ends n (cond b p (cond k q r)) (cond b x (cond k y z))
branch n true k p q r x y z f g h = f
branch n false true p q r x y z f g h = g
branch n false false p q r x y z f g h = h

-- The law for both outcomes.
ends : (inner : ℕ) (v : List ℕ) → Ends (inner + 1) (comment_parts v) (comment_len inner v)
ends inner [] = stays
  where
    stays : (k : ℕ) → StaysOpen (inner + 1) [] k
    stays zero = omega arith
    stays (suc k) = omega arith
ends inner (c ∷ []) =
    more Plain [] (inner + 1) (inner + 1) None (omega arith) (omega arith) (ends inner [])
ends zero (c ∷ d ∷ cs) =
    branch 1 (opens_comment c d) (closes_comment c d) _ _ _ _ _ _
    (more Open (comment_parts cs) 1 2 (comment_len 1 cs) (omega arith) (omega arith) (ends 1 cs))
    (last (comment_parts cs))
    (more Plain (comment_parts (d ∷ cs)) 1 1 (comment_len 0 (d ∷ cs)) (omega arith) (omega arith)
    (ends 0 (d ∷ cs)))
ends (suc n) (c ∷ d ∷ cs) =
    branch (suc n + 1) (opens_comment c d) (closes_comment c d) _ _ _ _ _ _
    (more Open (comment_parts cs) (suc n + 1) (suc (suc n) + 1) (comment_len (suc (suc n)) cs)
    (omega arith) (omega arith) (ends (suc (suc n)) cs))
    (more Close (comment_parts cs) (suc n + 1) (n + 1) (comment_len n cs) (omega arith)
    (omega arith) (ends n cs))
    (more Plain (comment_parts (d ∷ cs)) (suc n + 1) (suc n + 1) (comment_len (suc n) (d ∷ cs))
    (omega arith) (omega arith) (ends (suc n) (d ∷ cs)))

-- The two laws of block comments.
pub comments_balance : CommentsBalance
comments_balance inner v n e = subst (Ends (inner + 1) (comment_parts v)) e (ends inner v)

pub open_comments_stay_open : OpenCommentsStayOpen
open_comments_stay_open inner v e = subst (Ends (inner + 1) (comment_parts v)) e (ends inner v)
