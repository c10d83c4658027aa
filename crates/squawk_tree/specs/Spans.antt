-- The ranges of the nodes' steps that a pass has read. The range of a node that is still open is
-- empty. An open node is the index of its `Enter` among these steps and the offset at which it
-- begins; the innermost is first.
use Rattle.std.specs.Prelude.{ℕ, zero, suc, ◌<◌, List, [], ◌∷◌, ◌++◌, slice_set, ⊤}
use Rattle.squawk_events.specs.declared.steps.StrStep.{StrStep}
use Rattle.squawk_events.specs.declared.steps.StrStep.TheVariants.{Enter, Token, Exit, Error}
use Rattle.squawk_tree.specs.NodeRanges.{at_nodes}
use Rattle.squawk_tree.specs.Ranges.{node_end, ranges_from}

-- the index of each open node is below n
abbrev pub AreBelow : ℕ → List (ℕ × ℕ) → Type 0
AreBelow n [] = ⊤
AreBelow n (p ∷ ps) = (p.0 < n) × AreBelow n ps

-- the ranges after an `Exit` at the offset `at`, which ends the innermost open node
abbrev pub spans_after_exit : List (ℕ × ℕ) → List (ℕ × ℕ) → ℕ → List (ℕ × ℕ)
spans_after_exit spans [] at = spans ++ (0, at) ∷ []
spans_after_exit spans (p ∷ ps) at = slice_set spans p.0 (p.1, at) ++ (p.1, at) ∷ []

-- the ranges after a step at the offset `at`
abbrev pub spans_after : List (ℕ × ℕ) → List (ℕ × ℕ) → ℕ → StrStep → List (ℕ × ℕ)
spans_after spans open_nodes at (Enter kind) = spans ++ (at, at) ∷ []
spans_after spans open_nodes at (Token kind start end) = spans
spans_after spans open_nodes at Exit = spans_after_exit spans open_nodes at
spans_after spans open_nodes at (Error number offset) = spans ++ (at, at) ∷ []

-- all but the first
abbrev pub without_first : List (ℕ × ℕ) → List (ℕ × ℕ)
without_first [] = []
without_first (p ∷ ps) = ps

-- the open nodes after a step, before which n steps of nodes were read
abbrev pub open_nodes_after : ℕ → List (ℕ × ℕ) → ℕ → StrStep → List (ℕ × ℕ)
open_nodes_after n open_nodes at (Enter kind) = (n, at) ∷ open_nodes
open_nodes_after n open_nodes at (Token kind start end) = open_nodes
open_nodes_after n open_nodes at Exit = without_first open_nodes
open_nodes_after n open_nodes at (Error number offset) = open_nodes

-- the end of the last token after a step
abbrev pub offset_after : ℕ → StrStep → ℕ
offset_after at (Enter kind) = at
offset_after at (Token kind start end) = end
offset_after at Exit = at
offset_after at (Error number offset) = at

-- the ranges, completed with the ends of the open nodes, the innermost first
abbrev pub closing : List (ℕ × ℕ) → List (ℕ × ℕ) → (ℕ → ℕ) → List (ℕ × ℕ)
closing spans [] end_at = spans
closing spans (p ∷ ps) end_at = closing (slice_set spans p.0 (p.1, end_at 0)) ps (λ d.
    end_at (suc d))

-- the offsets at which the open nodes begin
abbrev pub starts : List (ℕ × ℕ) → List ℕ
starts [] = []
starts (p ∷ ps) = p.1 ∷ starts ps

-- the number of open nodes after the steps
abbrev pub open_count : ℕ → List StrStep → ℕ
open_count n [] = n
open_count n (Enter kind ∷ xs) = open_count (suc n) xs
open_count n (Token kind start end ∷ xs) = open_count n xs
open_count zero (Exit ∷ xs) = open_count zero xs
open_count (suc n) (Exit ∷ xs) = open_count n xs
open_count n (Error number offset ∷ xs) = open_count n xs

-- the ranges of all steps, by those that were read, the open nodes, and the remaining steps
abbrev pub whole : List (ℕ × ℕ) → List (ℕ × ℕ) → ℕ → List StrStep → List (ℕ × ℕ)
whole spans ps at xs = closing spans ps (λ d. node_end d at xs)
    ++ at_nodes xs (ranges_from (starts ps) at xs)
