-- Steps and errors of children as a sink receives them.
use Rattle.std.proofs.Common.{◌≡◌, ℕ, zero, suc, ◌+◌, ◌<◌, ◌≤◌, ◌==◌, Bool, true, false, ◌&&◌, List, [], ◌∷◌, ◌++◌, map, refl, ap, sym, subst, ◌∙◌, arith, nat_le, nat_lt, length, drop, drop-cons, get_or, append_assoc}
use Rattle.std.proofs.lemmas.Bool.{and_parts, eqb-true, ltb-true}
use Rattle.std.proofs.lemmas.Bool.Decides.{nat_tests}
use Rattle.std.proofs.lemmas.List.{drop_all, append-nil}
use Rattle.std.proofs.lemmas.List.Elements.{All-append, All-map, All-weaker}
use Rattle.std.specs.Prelude.{All, IsTrue, IfOk, Result, Ok, Err}
use Rattle.squawk_cut.specs.ChildValue.{ChildValue, IsChild, child_tree}
use Rattle.squawk_cut.specs.Join.{join_of, child_bytes, steps_within}
use Rattle.squawk_events.specs.declared.error.FrontError.{FrontError}
use Rattle.squawk_events.specs.declared.steps.ParseError.{ParseError}
use Rattle.squawk_events.specs.declared.steps.StrStep.{StrStep}
use Rattle.squawk_events.specs.declared.steps.StrStep.TheVariants.{Enter, Token, Exit, Error}
use Rattle.squawk_tree.specs.Children.{is_leaf_or_node}
use Rattle.squawk_tree.specs.Join.{child_steps_from, child_errors_from, shifted_step, shifted_error, children_len}
use Rattle.squawk_tree.specs.Steps.{closes, is_balanced, has_no_errors, leaves, tiles, without_errors}
use Rattle.squawk_tree.specs.Taken.{EndsBy, end_after, tokens_end}
use Rattle.squawk_tree.specs.Tree.{Tree, IsErrorWithin}

-- both of two truths
and_both : (a b : Bool) → a ≡ true → b ≡ true → (a && b) ≡ true
and_both true b e h = h
and_both false b e h = absurd (cc)

-- ---- the steps of a child

-- a leaf or a node has no `Error` step
no_errors_of : (xs : List StrStep) → is_leaf_or_node xs ≡ true → has_no_errors xs ≡ true
no_errors_of [] h = refl
no_errors_of (Token kind start end ∷ []) h = refl
no_errors_of (Token kind start end ∷ y ∷ ys) h = absurd (cc)
no_errors_of (Enter kind ∷ xs) h =
    (and_parts (is_balanced (Enter kind ∷ xs)) (has_no_errors (Enter kind ∷ xs)) h).1
no_errors_of (Exit ∷ xs) h = absurd (cc)
no_errors_of (Error number at ∷ xs) h = absurd (cc)

-- tokens that tile up to an offset lie before it
tiled_within : (xs : List StrStep) (at n : ℕ) → has_no_errors xs ≡ true
    → tiles at (leaves xs) n ≡ true → (steps_within n xs ≡ true) × (at ≤ n)
tiled_within [] at n free h = (refl, let e : at ≡ n = eqb-true at n h in omega arith)
tiled_within (Enter kind ∷ xs) at n free h = tiled_within xs at n free h
tiled_within (Exit ∷ xs) at n free h = tiled_within xs at n free h
tiled_within (Error number offset ∷ xs) at n free h = absurd (cc)
tiled_within (Token kind start end ∷ xs) at n free h =
    let parts = and_parts (start == at) (nat_lt at end && tiles end (leaves xs) n) h in
    let more = and_parts (nat_lt at end) (tiles end (leaves xs) n) parts.1 in
    let rest = tiled_within xs end n free more.1 in
    let begins : start ≡ at = eqb-true start at parts.0 in
    let longer : at < end = ltb-true at end more.0 in
    let inside : end ≤ n = rest.1 in
    let low : nat_le start n ≡ true = grind (arith, nat_tests) in
    let high : nat_le end n ≡ true = grind (arith, nat_tests) in (
      and_both (nat_le start n && nat_le end n) (steps_within n xs)
          (and_both (nat_le start n) (nat_le end n) low high) rest.0,
      omega arith,
    )

-- the offsets of a child's steps lie within its bytes
pub child_steps_within : (c : ChildValue) → IsChild c → steps_within c.bytes c.steps ≡ true
child_steps_within c child =
    (tiled_within c.steps 0 c.bytes (no_errors_of c.steps child.tree.leaf_or_node)
    child.tree.tiled).0

-- ---- steps so far

-- steps that have opened one node more than they closed, without `Error` steps, whose tokens tile
-- up to an offset
pub record IsOpen (at : ℕ) (xs : List StrStep) : Type 0 where
  pub balanced : (ys : List StrStep) → is_balanced (xs ++ ys) ≡ closes 1 ys
  pub no_errors : has_no_errors xs ≡ true
  pub tiled : tiles 0 (leaves xs) at ≡ true

-- a shift changes no balance
closes_shifted : (d n : ℕ) (xs : List StrStep) → closes d (map (shifted_step n) xs) ≡ closes d xs
closes_shifted d n [] = refl
closes_shifted zero n (x ∷ xs) = refl
closes_shifted (suc d) n (Enter kind ∷ xs) = closes_shifted (suc (suc d)) n xs
closes_shifted (suc d) n (Token kind start end ∷ xs) = closes_shifted (suc d) n xs
closes_shifted (suc d) n (Exit ∷ xs) = closes_shifted d n xs
closes_shifted (suc d) n (Error number at ∷ xs) = closes_shifted (suc d) n xs

-- d + 1, by recursion on d
abbrev above_one : ℕ → ℕ
above_one zero = 1
above_one (suc d) = suc (above_one d)

-- steps that close all nodes leave the one around them open
closes_after : (d : ℕ) (xs ys : List StrStep) → closes d xs ≡ true
    → closes (above_one d) (xs ++ ys) ≡ closes 1 ys
closes_after zero [] ys h = refl
closes_after (suc d) [] ys h =
    absurd (let e : suc d ≡ 0 = eqb-true (suc d) 0 h in omega arith)
closes_after zero (x ∷ xs) ys h = absurd (cc)
closes_after (suc d) (Enter kind ∷ xs) ys h = closes_after (suc (suc d)) xs ys h
closes_after (suc d) (Token kind start end ∷ xs) ys h = closes_after (suc d) xs ys h
closes_after (suc d) (Exit ∷ xs) ys h = closes_after d xs ys h
closes_after (suc d) (Error number at ∷ xs) ys h = closes_after (suc d) xs ys h

-- a shifted child leaves the root open
child_closes : (n : ℕ) (steps ys : List StrStep) → is_leaf_or_node steps ≡ true
    → closes 1 (map (shifted_step n) steps ++ ys) ≡ closes 1 ys
child_closes n [] ys h = absurd (cc)
child_closes n (Token kind start end ∷ []) ys h = refl
child_closes n (Token kind start end ∷ x ∷ xs) ys h = absurd (cc)
child_closes n (Enter kind ∷ xs) ys h =
    closes_after 1 (map (shifted_step n) xs) ys (closes_shifted 1 n xs
    ∙ (and_parts (is_balanced (Enter kind ∷ xs)) (has_no_errors (Enter kind ∷ xs)) h).0)
child_closes n (Exit ∷ xs) ys h = absurd (cc)
child_closes n (Error number at ∷ xs) ys h = absurd (cc)

-- no `Error` step among appended and among shifted steps
no_errors_append : (xs ys : List StrStep) → has_no_errors xs ≡ true → has_no_errors ys ≡ true
    → has_no_errors (xs ++ ys) ≡ true
no_errors_append [] ys h k = k
no_errors_append (Enter kind ∷ xs) ys h k = no_errors_append xs ys h k
no_errors_append (Token kind start end ∷ xs) ys h k = no_errors_append xs ys h k
no_errors_append (Exit ∷ xs) ys h k = no_errors_append xs ys h k
no_errors_append (Error number at ∷ xs) ys h k = absurd (cc)

no_errors_shifted : (n : ℕ) (xs : List StrStep) → has_no_errors xs ≡ true
    → has_no_errors (map (shifted_step n) xs) ≡ true
no_errors_shifted n [] h = refl
no_errors_shifted n (Enter kind ∷ xs) h = no_errors_shifted n xs h
no_errors_shifted n (Token kind start end ∷ xs) h = no_errors_shifted n xs h
no_errors_shifted n (Exit ∷ xs) h = no_errors_shifted n xs h
no_errors_shifted n (Error number at ∷ xs) h = absurd (cc)

-- where there is no `Error` step, none is left out
without_same : (xs : List StrStep) → has_no_errors xs ≡ true → without_errors xs ≡ xs
without_same [] h = refl
without_same (Enter kind ∷ xs) h = ap (λ ys. Enter kind ∷ ys) (without_same xs h)
without_same (Token kind start end ∷ xs) h =
    ap (λ ys. Token kind start end ∷ ys) (without_same xs h)
without_same (Exit ∷ xs) h = ap (λ ys. Exit ∷ ys) (without_same xs h)
without_same (Error number at ∷ xs) h = absurd (cc)

-- tokens that tile one after the other, and shifted ones
tiles_append : (xs ys : List StrStep) (a b e : ℕ) → tiles a (leaves xs) b ≡ true
    → tiles b (leaves ys) e ≡ true → tiles a (leaves (xs ++ ys)) e ≡ true
tiles_append [] ys a b e h k =
    ap (λ n. tiles n (leaves ys) e) (eqb-true a b h) ∙ k
tiles_append (Enter kind ∷ xs) ys a b e h k = tiles_append xs ys a b e h k
tiles_append (Token kind start end ∷ xs) ys a b e h k =
    let parts = and_parts (start == a) (nat_lt a end && tiles end (leaves xs) b) h in
    let more = and_parts (nat_lt a end) (tiles end (leaves xs) b) parts.1 in
    and_both (start == a) (nat_lt a end && tiles end (leaves (xs ++ ys)) e) parts.0
    (and_both (nat_lt a end) (tiles end (leaves (xs ++ ys)) e) more.0
    (tiles_append xs ys end b e more.1 k))
tiles_append (Exit ∷ xs) ys a b e h k = tiles_append xs ys a b e h k
tiles_append (Error number at ∷ xs) ys a b e h k = tiles_append xs ys a b e h k

same_shifted : (a b n : ℕ) → (a == b) ≡ true → (a + n == b + n) ≡ true
same_shifted a b n h = let e : a ≡ b = eqb-true a b h in grind (arith, nat_tests)

below_shifted : (a b n : ℕ) → nat_lt a b ≡ true → nat_lt (a + n) (b + n) ≡ true
below_shifted a b n h = let l : a < b = ltb-true a b h in grind (arith, nat_tests)

tiles_shifted : (n : ℕ) (xs : List StrStep) (a e : ℕ) → tiles a (leaves xs) e ≡ true
    → tiles (a + n) (leaves (map (shifted_step n) xs)) (e + n) ≡ true
tiles_shifted n [] a e h = same_shifted a e n h
tiles_shifted n (Enter kind ∷ xs) a e h = tiles_shifted n xs a e h
tiles_shifted n (Token kind start end ∷ xs) a e h =
    let parts = and_parts (start == a) (nat_lt a end && tiles end (leaves xs) e) h in
    let more = and_parts (nat_lt a end) (tiles end (leaves xs) e) parts.1 in
    let rest = tiles_shifted n xs end e more.1 in
    and_both (start + n == a + n) (nat_lt (a + n) (end + n)
    && tiles (end + n) (leaves (map (shifted_step n) xs)) (e + n)) (same_shifted start a n parts.0)
    (and_both (nat_lt (a + n) (end + n))
    (tiles (end + n) (leaves (map (shifted_step n) xs)) (e + n))
    (below_shifted a end n more.0) rest)
tiles_shifted n (Exit ∷ xs) a e h = tiles_shifted n xs a e h
tiles_shifted n (Error number at ∷ xs) a e h = tiles_shifted n xs a e h

-- one more child
pub open_more : (at b : ℕ) (c : ChildValue) (xs more : List StrStep) → b ≡ c.bytes → IsChild c
    → more ≡ xs ++ map (shifted_step at) c.steps → IsOpen at xs → IsOpen (at + b) more
open_more at b c xs more b_is child push is_open =
    let own = map (shifted_step at) c.steps in
    let free = no_errors_shifted at c.steps (no_errors_of c.steps child.tree.leaf_or_node) in
    let tiled : tiles at (leaves own) (at + c.bytes) ≡ true =
    ap (λ n. tiles at (leaves own) n) (let e : at + c.bytes ≡ c.bytes + at = omega arith in e)
    ∙ ap (λ n. tiles n (leaves own) (c.bytes + at)) (let e : at ≡ 0 + at = omega arith in e)
    ∙ tiles_shifted at c.steps 0 c.bytes child.tree.tiled in
    subst (λ n. IsOpen (at + n) more) (sym b_is) (subst (IsOpen (at + c.bytes)) (sym push) (record {
      balanced = λ ys. ap is_balanced (append_assoc xs own ys) ∙ is_open.balanced (own ++ ys)
          ∙ child_closes at c.steps ys child.tree.leaf_or_node;
      no_errors = no_errors_append xs own is_open.no_errors free;
      tiled = tiles_append xs own 0 at (at + c.bytes) is_open.tiled tiled;
    }))

-- its errors end by its end
pub errors_more : (at b : ℕ) (c : ChildValue) (es more : List ParseError) → b ≡ c.bytes
    → IsChild c → more ≡ es ++ map (shifted_error at) c.errors → All (EndsBy at) es
    → All (EndsBy (at + b)) more
errors_more at b c es more b_is child push within =
    subst (λ n. All (EndsBy (at + n)) more) (sym b_is)
    (subst (All (EndsBy (at + c.bytes))) (sym push)
    (All-append (EndsBy (at + c.bytes)) es (map (shifted_error at) c.errors)
    (All-weaker (EndsBy at) (EndsBy (at + c.bytes)) (λ e le. further e le) es within)
    (All-map (EndsBy (at + c.bytes)) (shifted_error at) c.errors
    (All-weaker (IsErrorWithin c.bytes) (λ e. EndsBy (at + c.bytes) (shifted_error at e))
    (λ e h. shifted e h) c.errors child.tree.errors_within))))
  where
    further : (e : ParseError) → e.end ≤ at → e.end ≤ at + c.bytes
    further e le = omega arith

    shifted : (e : ParseError) → IsErrorWithin c.bytes e → e.end + at ≤ at + c.bytes
    shifted e h = let le : e.end ≤ c.bytes = h.within in omega arith

-- ---- the steps and errors so far, and those of the children that are left

-- the next child, and those after it
next : (children : List ChildValue) (i : ℕ) (c : ChildValue) → i < length children
    → c ≡ get_or children i c → drop i children ≡ c ∷ drop (i + 1) children
next children i c within is =
    let one : i + 1 ≡ suc i = omega arith in
    drop-cons children i c within ∙ ap (λ x. x ∷ drop (suc i) children) (sym is)
    ∙ ap (λ n. c ∷ drop n children) (sym one)

pub steps_left : (children : List ChildValue) (i at b : ℕ) (c : ChildValue)
    (steps more whole : List StrStep) → i < length children → c ≡ get_or children i c
    → b ≡ c.bytes → more ≡ steps ++ map (shifted_step at) c.steps
    → steps ++ (child_steps_from at (map child_tree (drop i children)) ++ Exit ∷ []) ≡ whole
    → more ++ (child_steps_from (at + b) (map child_tree (drop (i + 1) children)) ++ Exit ∷ [])
    ≡ whole
steps_left children i at b c steps more whole within is b_is push so_far =
    let left : List ChildValue → List StrStep =
    λ cs. child_steps_from at (map child_tree cs) ++ Exit ∷ [] in
    let after : ℕ → List StrStep =
    λ n. child_steps_from (at + n) (map child_tree (drop (i + 1) children)) in
    let own = map (shifted_step at) c.steps in
    ap (λ n. more ++ (after n ++ Exit ∷ [])) b_is
    ∙ ap (λ xs. xs ++ (after c.bytes ++ Exit ∷ [])) push
    ∙ append_assoc steps own (after c.bytes ++ Exit ∷ [])
    ∙ ap (λ xs. steps ++ xs) (sym (append_assoc own (after c.bytes) (Exit ∷ [])))
    ∙ ap (λ cs. steps ++ left cs) (sym (next children i c within is)) ∙ so_far

pub errors_left : (children : List ChildValue) (i at b : ℕ) (c : ChildValue)
    (errors more whole : List ParseError) → i < length children → c ≡ get_or children i c
    → b ≡ c.bytes → more ≡ errors ++ map (shifted_error at) c.errors
    → errors ++ child_errors_from at (map child_tree (drop i children)) ≡ whole
    → more ++ child_errors_from (at + b) (map child_tree (drop (i + 1) children)) ≡ whole
errors_left children i at b c errors more whole within is b_is push so_far =
    let after : ℕ → List ParseError =
    λ n. child_errors_from (at + n) (map child_tree (drop (i + 1) children)) in
    ap (λ n. more ++ after n) b_is ∙ ap (λ xs. xs ++ after c.bytes) push
    ∙ append_assoc errors (map (shifted_error at) c.errors) (after c.bytes)
    ∙ ap (λ cs. errors ++ child_errors_from at (map child_tree cs))
    (sym (next children i c within is)) ∙ so_far

pub bytes_left : (children : List ChildValue) (i at b : ℕ) (c : ChildValue)
    → i < length children → c ≡ get_or children i c → b ≡ c.bytes
    → at + child_bytes (drop i children) ≡ child_bytes children
    → at + b + child_bytes (drop (i + 1) children) ≡ child_bytes children
bytes_left children i at b c within is b_is so_far =
    omega (arith, b_is, so_far, ap child_bytes (next children i c within is))

-- ---- the whole tree

-- what a sink needs of the steps and errors of a whole tree of so many bytes
pub record IsWhole (at : ℕ) (steps : List StrStep) (errors : List ParseError) : Type 0 where
  pub balanced : IsTrue (is_balanced (without_errors steps))
  pub tiled : IsTrue (tiles 0 (leaves steps) (tokens_end steps))
  pub within : All (EndsBy (tokens_end steps)) errors
  pub kept : without_errors steps ≡ steps
  pub end : tokens_end steps ≡ at

-- the last token ends where the tiles do
end_is : (xs : List StrStep) (a e : ℕ) → tiles a (leaves xs) e ≡ true → end_after a xs ≡ e
end_is [] a e h = eqb-true a e h
end_is (Enter kind ∷ xs) a e h = end_is xs a e h
end_is (Token kind start end ∷ xs) a e h =
    end_is xs end e (and_parts (nat_lt a end) (tiles end (leaves xs) e)
    (and_parts (start == a) (nat_lt a end && tiles end (leaves xs) e) h).1).1
end_is (Exit ∷ xs) a e h = end_is xs a e h
end_is (Error number at ∷ xs) a e h = end_is xs a e h

-- open steps, with the last `Exit`
pub whole : (at : ℕ) (xs last : List StrStep) (own es : List ParseError) → IsOpen at xs
    → last ≡ xs ++ Exit ∷ [] → es ≡ own → All (EndsBy at) own → IsWhole at last es
whole at xs last own es is_open push kept_errors own_within =
    let within : All (EndsBy at) es = subst (All (EndsBy at)) (sym kept_errors) own_within in
    let tiled : tiles 0 (leaves (xs ++ Exit ∷ [])) at ≡ true =
    tiles_append xs (Exit ∷ []) 0 at at is_open.tiled (grind (arith, nat_tests)) in
    let end : tokens_end (xs ++ Exit ∷ []) ≡ at = end_is (xs ++ Exit ∷ []) 0 at tiled in
    let kept : without_errors (xs ++ Exit ∷ []) ≡ xs ++ Exit ∷ [] =
    without_same (xs ++ Exit ∷ []) (no_errors_append xs (Exit ∷ []) is_open.no_errors refl) in
    subst (λ steps. IsWhole at steps es) (sym push) (record {
      balanced = ap is_balanced kept ∙ is_open.balanced (Exit ∷ []);
      tiled = ap (λ n. tiles 0 (leaves (xs ++ Exit ∷ [])) n) end ∙ tiled;
      within = subst (λ n. All (EndsBy n) es) (sym end) within;
      kept = kept;
      end = end;
    })

-- the length of children in bytes is that of the trees that they bring
len_same : (cs : List ChildValue) → child_bytes cs ≡ children_len (map child_tree cs)
len_same [] = refl
len_same (c ∷ cs) = ap (λ n. c.bytes + n) (len_same cs)

-- what is made of the steps and errors of all children is their join
pub tree_is : (result : Result Tree FrontError) (children : List ChildValue) (i at : ℕ)
    (steps last : List StrStep) (errors last_errors : List ParseError) → length children ≤ i
    → last ≡ steps ++ Exit ∷ [] → last_errors ≡ errors → IsWhole at last last_errors
    → steps ++ (child_steps_from at (map child_tree (drop i children)) ++ Exit ∷ [])
    ≡ (join_of children).steps
    → errors ++ child_errors_from at (map child_tree (drop i children)) ≡ (join_of children).errors
    → at + child_bytes (drop i children) ≡ child_bytes children
    → IfOk result (λ parse. parse.steps ≡ without_errors last)
    → IfOk result (λ parse. parse.errors ≡ last_errors)
    → IfOk result (λ parse. parse.len ≡ tokens_end last)
    → IfOk result (λ parse. parse ≡ join_of children)
tree_is (Err e) children i at steps last errors last_errors past last_is errors_are all s es n a
    b l = a
tree_is (Ok parse) children i at steps last errors last_errors past last_is errors_are all s es n
    a b l =
    let done : drop i children ≡ [] = drop_all i children past in
    let steps_is : parse.steps ≡ (join_of children).steps =
    a ∙ all.kept ∙ last_is
    ∙ ap (λ cs. steps ++ (child_steps_from at (map child_tree cs) ++ Exit ∷ [])) (sym done) ∙ s in
    let errors_is : parse.errors ≡ (join_of children).errors =
    b ∙ errors_are ∙ sym (append-nil errors)
    ∙ ap (λ cs. errors ++ child_errors_from at (map child_tree cs)) (sym done) ∙ es in
    let none : child_bytes (drop i children) ≡ 0 = ap child_bytes done in
    let len_is : parse.len ≡ (join_of children).len =
    l ∙ all.end ∙ (let e : at ≡ child_bytes children = omega (arith, n, none) in e)
    ∙ len_same children in
    ap (λ xs. tree xs parse.errors parse.len) steps_is
    ∙ ap (λ xs. tree (join_of children).steps xs parse.len) errors_is
    ∙ ap (tree (join_of children).steps (join_of children).errors) len_is
  where
    tree : List StrStep → List ParseError → ℕ → Tree
    tree xs es n = record { steps = xs; errors = es; len = n }
