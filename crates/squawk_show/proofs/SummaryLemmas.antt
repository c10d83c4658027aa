-- The numbers of leaves and of nodes, counted over steps and over the spans of children.
use Rattle.std.proofs.Common.{◌≡◌, ℕ, ◌+◌, List, [], ◌∷◌, ◌++◌, length, map, refl, sym, ◌∙◌, append_assoc, arith, cond}
use Rattle.std.specs.Prelude.{Option, Some, None, codes, count_by, decimal, is_some}
use Rattle.std.proofs.lemmas.List.Recursion.{is_count_by}
use Rattle.squawk_events.specs.declared.steps.StrStep.{StrStep}
use Rattle.squawk_events.specs.declared.steps.StrStep.TheVariants.{Enter, Token, Exit, Error}
use Rattle.squawk_show.specs.Summary.{is_node, is_token, node_count}
use Rattle.squawk_tree.specs.ChildSpans.{child_by, span_child}
use Rattle.squawk_tree.specs.Steps.{RootChild, leaves}
use Rattle.squawk_tree.specs.declared.children.ChildSpan.{ChildSpan}

-- the leaves of steps that begin with one more
leaves_more : (x : StrStep) (xs : List StrStep)
    → length (leaves (x ∷ xs)) ≡ cond (is_token x) (1 + length (leaves xs)) (length (leaves xs))
leaves_more (Enter kind) xs = refl
leaves_more (Token kind start end) xs = omega arith
leaves_more Exit xs = refl
leaves_more (Error number at) xs = refl

-- the number of leaves is that of the `Token` steps
pub leaves_counted : (steps : List StrStep) → length (leaves steps) ≡ count_by is_token steps
leaves_counted steps = is_count_by (λ xs. length (leaves xs)) is_token refl leaves_more steps

-- the nodes among children that begin with one more
nodes_more : (node : Option ℕ) (tokens : ℕ) (rest : List RootChild)
    → node_count (child_by node tokens ∷ rest)
    ≡ cond (is_some node) (1 + node_count rest) (node_count rest)
nodes_more None tokens rest = refl
nodes_more (Some kind) tokens rest = omega arith

-- the number of nodes among children is that of the spans with a node
pub nodes_counted : (spans : List ChildSpan)
    → node_count (map span_child spans) ≡ count_by is_node spans
nodes_counted spans = is_count_by (λ xs. node_count (map span_child xs)) is_node refl
    (λ x xs. nodes_more x.node x.tokens (map span_child xs)) spans

-- eleven texts, nested to the right and in turn
texts_in_turn : (a b c d e f g h i j k : List ℕ)
    → a ++ (b ++ (c ++ (d ++ (e ++ (f ++ (g ++ (h ++ (i ++ (j ++ k)))))))))
    ≡ a ++ b ++ c ++ d ++ e ++ f ++ g ++ h ++ i ++ j ++ k
texts_in_turn a b c d e f g h i j k = sym (append_assoc a b _)
    ∙ sym (append_assoc (a ++ b) c _) ∙ sym (append_assoc (a ++ b ++ c) d _)
    ∙ sym (append_assoc (a ++ b ++ c ++ d) e _) ∙ sym (append_assoc (a ++ b ++ c ++ d ++ e) f _)
    ∙ sym (append_assoc (a ++ b ++ c ++ d ++ e ++ f) g _)
    ∙ sym (append_assoc (a ++ b ++ c ++ d ++ e ++ f ++ g) h _)
    ∙ sym (append_assoc (a ++ b ++ c ++ d ++ e ++ f ++ g ++ h) i _)
    ∙ sym (append_assoc (a ++ b ++ c ++ d ++ e ++ f ++ g ++ h ++ i) j k)

-- the texts of a summary, nested to the right and in turn
pub summary_in_turn : (bytes tokens children nodes errors : ℕ)
    → codes "bytes " ++ (decimal bytes ++ (codes " tokens " ++ (decimal tokens
    ++ (codes " children " ++ (decimal children ++ (codes " nodes " ++ (decimal nodes
    ++ (codes " errors " ++ (decimal errors ++ 10 ∷ [])))))))))
    ≡ codes "bytes " ++ decimal bytes ++ codes " tokens " ++ decimal tokens
    ++ codes " children " ++ decimal children ++ codes " nodes " ++ decimal nodes
    ++ codes " errors " ++ decimal errors ++ 10 ∷ []
summary_in_turn bytes tokens children nodes errors =
    texts_in_turn (codes "bytes ") (decimal bytes) (codes " tokens ") (decimal tokens)
    (codes " children ") (decimal children) (codes " nodes ") (decimal nodes)
    (codes " errors ") (decimal errors) (10 ∷ [])
