-- The only child of the root of a tree.
use Rattle.std.proofs.Common.{◌≡◌, ℕ, zero, suc, ◌+◌, ◌-◌, ◌<◌, ◌≤◌, Bool, true, List, [], ◌∷◌, ◌++◌, length, length-append, take, get_or, refl, sym, ap, subst, ◌∙◌, arith}
use Rattle.std.proofs.lemmas.Bool.{and_parts, eqb-true}
use Rattle.std.specs.Prelude.{Option}
use Rattle.squawk_cut.specs.ChildValue.{ChildValue, IsChild, steps_in_root, child_of_tree}
use Rattle.squawk_events.specs.declared.steps.ParseError.{ParseError}
use Rattle.squawk_events.specs.declared.steps.StrStep.{StrStep}
use Rattle.squawk_events.specs.declared.steps.StrStep.TheVariants.{Enter, Token, Exit, Error}
use Rattle.squawk_tree.specs.Children.{is_leaf_or_node, node_of_steps}
use Rattle.squawk_tree.specs.ChildSpans.{child_spans, child_spans_from, node_tokens}
use Rattle.squawk_tree.specs.Steps.{closes, is_balanced, has_no_errors, leaves, root_children, root_children_from, tiles}
use Rattle.squawk_tree.specs.Tree.{Tree, IsTree}
use Rattle.squawk_tree.specs.declared.children.ChildSpan.{ChildSpan}

-- ---- what follows the only child

-- with no node open, no step is left
no_steps : (xs : List StrStep) → closes 0 xs ≡ true → xs ≡ []
no_steps [] h = refl
no_steps (x ∷ xs) h = absurd (cc)

-- a node that is open under the root begins a child
some_child : (d n : ℕ) (xs : List StrStep) → closes (suc (suc d)) xs ≡ true
    → 0 < length (root_children_from (suc d) n xs)
some_child d n [] h = absurd (let e : suc (suc d) ≡ 0 = eqb-true (suc (suc d)) 0 h in omega arith)
some_child d n (Enter kind ∷ xs) h = some_child (suc d) n xs h
some_child d n (Token kind start end ∷ xs) h = some_child d (n + 1) xs h
some_child zero n (Exit ∷ xs) h = omega arith
some_child (suc d) n (Exit ∷ xs) h = some_child d n xs h
some_child d n (Error number at ∷ xs) h = some_child d n xs h

-- steps directly under the root, none of which begins a child, are the `Exit` of the root
only_exit : (xs : List StrStep) → closes 1 xs ≡ true → has_no_errors xs ≡ true
    → length (root_children_from 0 0 xs) ≡ 0 → xs ≡ Exit ∷ []
only_exit [] h free none = absurd (cc)
only_exit (Enter kind ∷ xs) h free none =
    absurd (let some : 0 < length (root_children_from 1 0 xs) = some_child 0 0 xs h in
    omega (arith, some, none))
only_exit (Token kind start end ∷ xs) h free none = absurd (omega (arith, none))
only_exit (Exit ∷ xs) h free none = ap (λ ys. Exit ∷ ys) (no_steps xs h)
only_exit (Error number at ∷ xs) h free none = absurd (cc)

-- ---- the only child

-- the steps are what a child has left, with d nodes open inside it, and then the `Exit` of the root
record IsRest (d : ℕ) (xs : List StrStep) : Type 0 where
  pub rest : List StrStep
  pub is : xs ≡ rest ++ Exit ∷ []
  pub balanced : closes (suc d) rest ≡ true
  pub no_errors : has_no_errors rest ≡ true
  pub same_leaves : leaves rest ≡ leaves xs
  pub count : node_tokens d xs ≡ length (leaves xs)

-- what the last child of the root has left
rest_of : (d n : ℕ) (xs : List StrStep) → closes (suc (suc d)) xs ≡ true
    → has_no_errors xs ≡ true → length (root_children_from (suc d) n xs) ≡ 1 → IsRest d xs
rest_of d n [] h free one =
    absurd (let e : suc (suc d) ≡ 0 = eqb-true (suc (suc d)) 0 h in omega arith)
rest_of d n (Enter kind ∷ xs) h free one =
    let r = rest_of (suc d) n xs h free one in
    record {
      rest = Enter kind ∷ r.rest;
      is = ap (λ ys. Enter kind ∷ ys) r.is;
      balanced = r.balanced;
      no_errors = r.no_errors;
      same_leaves = r.same_leaves;
      count = r.count;
    }
rest_of d n (Token kind start end ∷ xs) h free one =
    let r = rest_of d (n + 1) xs h free one in
    record {
      rest = Token kind start end ∷ r.rest;
      is = ap (λ ys. Token kind start end ∷ ys) r.is;
      balanced = r.balanced;
      no_errors = r.no_errors;
      same_leaves = ap (λ rs. (start, end) ∷ rs) r.same_leaves;
      count = ap suc r.count;
    }
rest_of zero n (Exit ∷ xs) h free one =
    let last : xs ≡ Exit ∷ [] = only_exit xs h free (omega (arith, one)) in
    record {
      rest = Exit ∷ [];
      is = ap (λ ys. Exit ∷ ys) last;
      balanced = refl;
      no_errors = refl;
      same_leaves = ap leaves (sym last);
      count = ap (λ ys. length (leaves ys)) (sym last);
    }
rest_of (suc d) n (Exit ∷ xs) h free one =
    let r = rest_of d n xs h free one in
    record {
      rest = Exit ∷ r.rest;
      is = ap (λ ys. Exit ∷ ys) r.is;
      balanced = r.balanced;
      no_errors = r.no_errors;
      same_leaves = r.same_leaves;
      count = r.count;
    }
rest_of d n (Error number at ∷ xs) h free one = absurd (cc)

-- the steps under the root are one child and the `Exit` of the root, and the first span is that of
-- the child
record IsOneChild (xs : List StrStep) (spans : List ChildSpan) : Type 0 where
  pub steps : List StrStep
  pub is : xs ≡ steps ++ Exit ∷ []
  pub leaf_or_node : is_leaf_or_node steps ≡ true
  pub same_leaves : leaves steps ≡ leaves xs
  pub tokens : (span : ChildSpan) → span ≡ get_or spans 0 span → span.tokens ≡ length (leaves xs)
  pub node : (span : ChildSpan) → span ≡ get_or spans 0 span → span.node ≡ node_of_steps steps

-- one child under the root
one_child : (xs : List StrStep) → closes 1 xs ≡ true → has_no_errors xs ≡ true
    → length (root_children_from 0 0 xs) ≡ 1 → IsOneChild xs (child_spans_from 0 1 0 xs)
one_child [] h free one = absurd (cc)
one_child (Enter kind ∷ xs) h free one =
    let r = rest_of 0 0 xs h free one in
    record {
      steps = Enter kind ∷ r.rest;
      is = ap (λ ys. Enter kind ∷ ys) r.is;
      leaf_or_node = rw (r.balanced, r.no_errors) refl;
      same_leaves = r.same_leaves;
      tokens = λ span is. ap (λ (s : ChildSpan). s.tokens) is ∙ r.count;
      node = λ span is. ap (λ (s : ChildSpan). s.node) is;
    }
one_child (Token kind start end ∷ xs) h free one =
    let last : xs ≡ Exit ∷ [] = only_exit xs h free (omega (arith, one)) in
    record {
      steps = Token kind start end ∷ [];
      is = ap (λ ys. Token kind start end ∷ ys) last;
      leaf_or_node = refl;
      same_leaves = ap (λ ys. (start, end) ∷ leaves ys) (sym last);
      tokens = λ span is. ap (λ (s : ChildSpan). s.tokens) is
          ∙ ap (λ ys. suc (length (leaves ys))) (sym last);
      node = λ span is. ap (λ (s : ChildSpan). s.node) is;
    }
one_child (Exit ∷ xs) h free one = absurd (omega (arith, one))
one_child (Error number at ∷ xs) h free one = absurd (cc)

-- ---- the only child of a tree

-- the elements before the last
take_before_last : {A : Type 0} (xs : List A) (x : A)
    → take (length (xs ++ x ∷ []) - 1) (xs ++ x ∷ []) ≡ xs
take_before_last [] x = refl
take_before_last (y ∷ ys) x =
    let some : length (ys ++ x ∷ []) ≡ length ys + 1 = length-append ys (x ∷ []) in
    ap (λ n. take n (y ∷ (ys ++ x ∷ [])))
    (let e : suc (length (ys ++ x ∷ [])) - 1 ≡ suc (length (ys ++ x ∷ []) - 1) =
    omega (arith, some) in e)
    ∙ ap (λ zs. y ∷ zs) (take_before_last ys x)

-- the steps inside the root
pub inside : (kind : ℕ) (xs : List StrStep)
    → steps_in_root (Enter kind ∷ xs ++ Exit ∷ []) ≡ xs
inside kind xs =
    let less : length (Enter kind ∷ xs ++ Exit ∷ []) - 1 - 1 ≡ length (xs ++ Exit ∷ []) - 1 =
    omega arith in
    ap (λ n. take n (xs ++ Exit ∷ [])) less ∙ take_before_last xs Exit

-- the only child of a tree is a child, and the first span says its number of tokens and its node
pub record IsOnlyOf (t : Tree) (closed : Bool) : Type 0 where
  pub long : 2 ≤ length t.steps
  pub child : IsChild (child_of_tree t closed)
  pub tokens : (span : ChildSpan) → span ≡ get_or (child_spans t.steps) 0 span
      → span.tokens ≡ length (leaves t.steps)
  pub node : (span : ChildSpan) → span ≡ get_or (child_spans t.steps) 0 span
      → span.node ≡ node_of_steps (steps_in_root t.steps)

only_from : (steps : List StrStep) (t : Tree) (closed : Bool) → steps ≡ t.steps → IsTree t
    → length (root_children steps) ≡ 1 → IsOnlyOf t closed
only_from [] t closed is tree one = absurd (omega (arith, one))
only_from (Token kind start end ∷ xs) t closed is tree one = absurd (omega (arith, one))
only_from (Exit ∷ xs) t closed is tree one = absurd (omega (arith, one))
only_from (Error number at ∷ xs) t closed is tree one = absurd (omega (arith, one))
only_from (Enter kind ∷ xs) t closed is tree one =
    let all = Enter kind ∷ xs in
    let r = one_child xs (ap is_balanced is ∙ tree.balanced) (ap has_no_errors is ∙ tree.no_errors)
    one in
    let own : steps_in_root t.steps ≡ r.steps =
    ap steps_in_root (sym is) ∙ ap (λ ys. steps_in_root (Enter kind ∷ ys)) r.is
    ∙ inside kind r.steps in
    let ranges : leaves (steps_in_root t.steps) ≡ leaves t.steps =
    ap leaves own ∙ r.same_leaves ∙ ap leaves is in
    let size = length-append r.steps (Exit ∷ []) in
    let long : 2 ≤ length all =
    subst (λ ys. 2 ≤ length (Enter kind ∷ ys)) (sym r.is) (omega (arith, size)) in
    record {
      long = subst (λ ys. 2 ≤ length ys) is long;
      child = record {
        tree = record {
          leaf_or_node = ap is_leaf_or_node own ∙ r.leaf_or_node;
          tiled = ap (λ rs. tiles 0 rs t.len) ranges ∙ tree.tiled;
          errors_within = tree.errors_within;
        };
        tokens_are = ap length (sym ranges);
        node_is = refl;
      };
      tokens = λ span first. r.tokens span
          (first ∙ ap (λ ys. get_or (child_spans ys) 0 span) (sym is))
          ∙ ap (λ ys. length (leaves ys)) is;
      node = λ span first. r.node span
          (first ∙ ap (λ ys. get_or (child_spans ys) 0 span) (sym is))
          ∙ ap node_of_steps (sym own);
    }

pub only_of : (t : Tree) (closed : Bool) → IsTree t → length (root_children t.steps) ≡ 1
    → IsOnlyOf t closed
only_of t closed tree one = only_from t.steps t closed refl tree one

-- a child by its fields
abbrev pub child_by : ℕ → ℕ → Option ℕ → Bool → List StrStep → List ParseError → ChildValue
child_by tokens bytes node closed steps errors = record {
  tokens = tokens;
  bytes = bytes;
  node = node;
  closed = closed;
  steps = steps;
  errors = errors;
}

-- the child that is made of a tree, from its steps, its first span, its length and its errors
pub only_value : (t : Tree) (closed : Bool) (span : ChildSpan) (spans : List ChildSpan) (len : ℕ)
    (all steps : List StrStep) (every errors : List ParseError) → IsOnlyOf t closed
    → spans ≡ child_spans t.steps → span ≡ get_or spans 0 span → len ≡ t.len
    → all ≡ t.steps → steps ≡ steps_in_root all → every ≡ t.errors → errors ≡ every
    → child_by span.tokens len span.node closed steps errors ≡ child_of_tree t closed
only_value t closed span spans len all steps every errors only spans_are first len_is all_is
    steps_are every_is errors_are =
    let count = length (leaves t.steps) in
    let own : span ≡ get_or (child_spans t.steps) 0 span =
    first ∙ ap (λ ss. get_or ss 0 span) spans_are in
    ap (λ n. child_by n len span.node closed steps errors) (only.tokens span own)
    ∙ ap (λ n. child_by count n span.node closed steps errors) len_is
    ∙ ap (λ node. child_by count t.len node closed steps errors) (only.node span own)
    ∙ ap (λ xs. child_by count t.len (node_of_steps (steps_in_root t.steps)) closed xs errors)
    (steps_are ∙ ap steps_in_root all_is)
    ∙ ap (λ es. child_by count t.len (node_of_steps (steps_in_root t.steps)) closed
    (steps_in_root t.steps) es) (errors_are ∙ every_is)

-- ---- a tree of one child

-- the `Exit` of the root is no leaf
pub leaves_before_exit : (xs : List StrStep) → leaves (xs ++ Exit ∷ []) ≡ leaves xs
leaves_before_exit [] = refl
leaves_before_exit (Enter kind ∷ xs) = leaves_before_exit xs
leaves_before_exit (Token kind start end ∷ xs) =
    ap (λ rs. (start, end) ∷ rs) (leaves_before_exit xs)
leaves_before_exit (Exit ∷ xs) = leaves_before_exit xs
leaves_before_exit (Error number at ∷ xs) = leaves_before_exit xs

-- where the open nodes of a child are closed, and then the root, no other child begins
last_child : (d n : ℕ) (xs : List StrStep) → closes (suc d) xs ≡ true
    → length (root_children_from (suc d) n (xs ++ Exit ∷ [])) ≡ 1
last_child d n [] h = absurd (let e : suc d ≡ 0 = eqb-true (suc d) 0 h in omega arith)
last_child d n (Enter kind ∷ xs) h = last_child (suc d) n xs h
last_child d n (Token kind start end ∷ xs) h = last_child d (n + 1) xs h
last_child zero n (Exit ∷ xs) h =
    ap (λ ys. suc (length (root_children_from 0 0 (ys ++ Exit ∷ [])))) (no_steps xs h)
last_child (suc d) n (Exit ∷ xs) h = last_child d n xs h
last_child d n (Error number at ∷ xs) h = last_child d n xs h

-- a leaf or a node under a root is one child
pub one_root_child : (xs : List StrStep) → is_leaf_or_node xs ≡ true
    → length (root_children_from 0 0 (xs ++ Exit ∷ [])) ≡ 1
one_root_child [] h = absurd (cc)
one_root_child (Token kind start end ∷ []) h = refl
one_root_child (Token kind start end ∷ y ∷ ys) h = absurd (cc)
one_root_child (Enter kind ∷ xs) h =
    last_child 0 0 xs
    (and_parts (is_balanced (Enter kind ∷ xs)) (has_no_errors (Enter kind ∷ xs)) h).0
one_root_child (Exit ∷ xs) h = absurd (cc)
one_root_child (Error number at ∷ xs) h = absurd (cc)
