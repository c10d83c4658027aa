-- The weave without the nodes of clauses is the weave of the steps without them.
use Rattle.std.proofs.Common.{◌≡◌, ℕ, ◌+◌, ◌&&◌, not, Bool, true, false, List, [], ◌∷◌, ◌++◌, drop, refl, ap, sym, ◌∙◌, append_assoc, if◌then◌else◌}
use Rattle.std.proofs.lemmas.Bool.{and_parts}
use Rattle.squawk_events.specs.Kinds.{is_trivia_kind}
use Rattle.squawk_events.specs.declared.steps.Step.{Step}
use Rattle.squawk_events.specs.declared.steps.Step.TheVariants.{Enter, Token, Exit, Error}
use Rattle.squawk_events.specs.declared.steps.StrStep.{StrStep}
use Rattle.squawk_events.specs.declared.steps.StrStep.TheVariants as out
use Rattle.squawk_lexed.specs.LexedToken.{LexedToken}
use Rattle.squawk_lexed.specs.Weave.{after_leading_trivia, is_empty, leading_trivia, leading_trivia_end, next_len, offset_after_step, tokens_after_step, weave_from, weave_step}
use Rattle.squawk_clauses.specs.Clauses.{is_clause_node}
use Rattle.squawk_clauses.specs.TreeWithout.{tree_without_from}
use Rattle.squawk_clauses.specs.Without.{without_clauses_from}
use Rattle.squawk_clauses.proofs.Stays.{begins_with_token, is_in_child, stays}

-- ---- leading trivia

-- after leading trivia there is none
none_after : (at : ℕ) (ts : List LexedToken) → leading_trivia at (after_leading_trivia ts) ≡ []
none_after at [] = refl
none_after at (t ∷ ts) = by (is_trivia_kind t.kind) refl (none_after at ts)
  where
    by : (b : Bool) → is_trivia_kind t.kind ≡ b → leading_trivia at (after_leading_trivia ts) ≡ []
        → leading_trivia at (if b then after_leading_trivia ts else t ∷ ts) ≡ []
    by true is rest = rest
    by false is rest = rw is refl

end_after : (at : ℕ) (ts : List LexedToken)
    → leading_trivia_end at (after_leading_trivia ts) ≡ at
end_after at [] = refl
end_after at (t ∷ ts) = by (is_trivia_kind t.kind) refl (end_after at ts)
  where
    by : (b : Bool) → is_trivia_kind t.kind ≡ b → leading_trivia_end at (after_leading_trivia ts)
        ≡ at → leading_trivia_end at (if b then after_leading_trivia ts else t ∷ ts) ≡ at
    by true is rest = rest
    by false is rest = rw is refl

same_after : (ts : List LexedToken)
    → after_leading_trivia (after_leading_trivia ts) ≡ after_leading_trivia ts
same_after [] = refl
same_after (t ∷ ts) = by (is_trivia_kind t.kind) refl (same_after ts)
  where
    by : (b : Bool) → is_trivia_kind t.kind ≡ b
        → after_leading_trivia (after_leading_trivia ts) ≡ after_leading_trivia ts
        → after_leading_trivia (if b then after_leading_trivia ts else t ∷ ts)
        ≡ (if b then after_leading_trivia ts else t ∷ ts)
    by true is rest = rest
    by false is rest = rw is refl

-- it stays
trivia_stays : (nodes : List Bool) (at : ℕ) (ts : List LexedToken) (xs : List StrStep)
    → tree_without_from nodes (leading_trivia at ts ++ xs)
    ≡ leading_trivia at ts ++ tree_without_from nodes xs
trivia_stays nodes at [] xs = refl
trivia_stays nodes at (t ∷ ts) xs =
    by (is_trivia_kind t.kind) (trivia_stays nodes (at + t.len) ts xs)
  where
    by : (b : Bool)
        → tree_without_from nodes (leading_trivia (at + t.len) ts ++ xs)
        ≡ leading_trivia (at + t.len) ts ++ tree_without_from nodes xs
        → tree_without_from nodes ((if b then out.Token t.kind at (at + t.len)
        ∷ leading_trivia (at + t.len) ts else []) ++ xs)
        ≡ (if b then out.Token t.kind at (at + t.len) ∷ leading_trivia (at + t.len) ts else [])
        ++ tree_without_from nodes xs
    by true rest = ap (λ ys. out.Token t.kind at (at + t.len) ∷ ys) rest
    by false rest = refl

-- ---- the end of the steps

-- steps that are left have one that stays
pub same_empty : (nodes : List Bool) (xs : List Step) → stays nodes xs ≡ true
    → is_empty (without_clauses_from nodes xs) ≡ is_empty xs
same_empty nodes [] h = refl
same_empty nodes (Token kind ∷ xs) h = refl
same_empty nodes (Error number ∷ xs) h = refl
same_empty [] (Exit ∷ xs) h = refl
same_empty (false ∷ nodes) (Exit ∷ xs) h = refl
same_empty (true ∷ nodes) (Exit ∷ xs) h =
    not_true (is_empty (without_clauses_from nodes xs))
    (and_parts (not (is_empty (without_clauses_from nodes xs))) (stays nodes xs) h).0
  where
    not_true : (b : Bool) → not b ≡ true → b ≡ false
    not_true true h = sym h
    not_true false h = refl
same_empty nodes (Enter kind ∷ xs) h = by (is_clause_node kind) xs h
  where
    by : (b : Bool) (xs : List Step)
        → (if b then is_in_child nodes && (begins_with_token xs && stays (true ∷ nodes) xs)
        else stays (false ∷ nodes) xs) ≡ true
        → is_empty (if b then without_clauses_from (true ∷ nodes) xs
        else Enter kind ∷ without_clauses_from (false ∷ nodes) xs) ≡ false
    by false xs h = refl
    by true (Token k ∷ xs) h = refl
    by true [] h = absurd (cc ((and_parts (is_in_child nodes) false h).1))
    by true (Enter k ∷ xs) h = absurd (cc ((and_parts (is_in_child nodes) false h).1))
    by true (Exit ∷ xs) h = absurd (cc ((and_parts (is_in_child nodes) false h).1))
    by true (Error k ∷ xs) h = absurd (cc ((and_parts (is_in_child nodes) false h).1))

-- ---- the steps that stay

-- a token, with the trivia before it
token_stays : (nodes : List Bool) (at kind : ℕ) (ts : List LexedToken) (last : Bool)
    (ys : List StrStep)
    → tree_without_from nodes (weave_step last at ts (Token kind) ++ ys)
    ≡ weave_step last at ts (Token kind) ++ tree_without_from nodes ys
token_stays nodes at kind ts last ys =
    let end = leading_trivia_end at ts in
    let step = out.Token kind end (end + next_len (after_leading_trivia ts)) in
    ap (tree_without_from nodes) (append_assoc (leading_trivia at ts) (step ∷ []) ys)
    ∙ trivia_stays nodes at ts (step ∷ ys)
    ∙ sym (append_assoc (leading_trivia at ts) (step ∷ []) (tree_without_from nodes ys))

-- the start of a node that is no clause
enter_stays : (nodes : List Bool) (at kind : ℕ) (ts : List LexedToken) (last : Bool)
    (ys : List StrStep) → is_clause_node kind ≡ false
    → tree_without_from nodes (weave_step last at ts (Enter kind) ++ ys)
    ≡ weave_step last at ts (Enter kind) ++ tree_without_from (false ∷ nodes) ys
enter_stays nodes at kind ts last ys no_clause =
    ap (tree_without_from nodes) (append_assoc (leading_trivia at ts) (out.Enter kind ∷ []) ys)
    ∙ trivia_stays nodes at ts (out.Enter kind ∷ ys)
    ∙ rw no_clause refl
    ∙ sym (append_assoc (leading_trivia at ts) (out.Enter kind ∷ [])
    (tree_without_from (false ∷ nodes) ys))

-- the end of the root, and of a node that is no clause
root_exit_stays : (last : Bool) (at : ℕ) (ts : List LexedToken) (ys : List StrStep)
    → tree_without_from [] (weave_step last at ts Exit ++ ys)
    ≡ weave_step last at ts Exit ++ tree_without_from [] ys
root_exit_stays true at ts ys =
    ap (tree_without_from []) (append_assoc (leading_trivia at ts) (out.Exit ∷ []) ys)
    ∙ trivia_stays [] at ts (out.Exit ∷ ys)
    ∙ sym (append_assoc (leading_trivia at ts) (out.Exit ∷ []) (tree_without_from [] ys))
root_exit_stays false at ts ys = refl

exit_stays : (last : Bool) (nodes : List Bool) (at : ℕ) (ts : List LexedToken) (ys : List StrStep)
    → tree_without_from (false ∷ nodes) (weave_step last at ts Exit ++ ys)
    ≡ weave_step last at ts Exit ++ tree_without_from nodes ys
exit_stays true nodes at ts ys =
    ap (tree_without_from (false ∷ nodes)) (append_assoc (leading_trivia at ts) (out.Exit ∷ []) ys)
    ∙ trivia_stays (false ∷ nodes) at ts (out.Exit ∷ ys)
    ∙ sym (append_assoc (leading_trivia at ts) (out.Exit ∷ []) (tree_without_from nodes ys))
exit_stays false nodes at ts ys = refl

-- a clause begins directly before its first token: the trivia before both stays before the token
clause_left_out : (nodes : List Bool) (at node kind : ℕ) (ts : List LexedToken)
    (xs : List Step) → is_clause_node node ≡ true
    → tree_without_from nodes (weave_from at ts (Enter node ∷ Token kind ∷ xs))
    ≡ tree_without_from (true ∷ nodes) (weave_from at ts (Token kind ∷ xs))
clause_left_out nodes at node kind ts xs clause =
    let end = leading_trivia_end at ts in
    let after = after_leading_trivia ts in
    let later = weave_from end after (Token kind ∷ xs) in
    let next = end + next_len after in
    let step = out.Token kind end next in
    let rest = weave_from next (drop 1 after) xs in
    let token : later ≡ step ∷ rest =
    rw (none_after end ts, end_after end ts, same_after ts) refl in
    ap (tree_without_from nodes) (append_assoc (leading_trivia at ts) (out.Enter node ∷ []) later)
    ∙ trivia_stays nodes at ts (out.Enter node ∷ later)
    ∙ rw clause (ap (λ ys. leading_trivia at ts ++ tree_without_from (true ∷ nodes) ys) token)
    ∙ sym (trivia_stays (true ∷ nodes) at ts (step ∷ rest))
    ∙ sym (ap (tree_without_from (true ∷ nodes))
    (append_assoc (leading_trivia at ts) (step ∷ []) rest))

-- ---- the weave

abbrev WeaveStays : List Step → Type 0
WeaveStays xs = (nodes : List Bool) (at : ℕ) (ts : List LexedToken) → stays nodes xs ≡ true
    → tree_without_from nodes (weave_from at ts xs)
    ≡ weave_from at ts (without_clauses_from nodes xs)

pub weave_stays : (xs : List Step) → WeaveStays xs
weave_stays [] nodes at ts h = refl
weave_stays (Token kind ∷ xs) nodes at ts h =
    let after = tokens_after_step true ts (Token kind) in
    let next = offset_after_step true at ts (Token kind) in
    token_stays nodes at kind ts true (weave_from next after xs)
    ∙ ap (λ ys. weave_step true at ts (Token kind) ++ ys) (weave_stays xs nodes next after h)
weave_stays (Error number ∷ xs) nodes at ts h =
    ap (λ ys. out.Error number at ∷ ys) (weave_stays xs nodes at ts h)
weave_stays (Exit ∷ xs) [] at ts h =
    let last = is_empty xs in
    let after = tokens_after_step last ts Exit in
    let next = offset_after_step last at ts Exit in
    root_exit_stays last at ts (weave_from next after xs)
    ∙ ap (λ ys. weave_step last at ts Exit ++ ys) (weave_stays xs [] next after h)
    ∙ ap (λ b. weave_step b at ts Exit ++ weave_from (offset_after_step b at ts Exit)
    (tokens_after_step b ts Exit) (without_clauses_from [] xs)) (sym (same_empty [] xs h))
weave_stays (Exit ∷ xs) (false ∷ nodes) at ts h =
    let last = is_empty xs in
    let after = tokens_after_step last ts Exit in
    let next = offset_after_step last at ts Exit in
    exit_stays last nodes at ts (weave_from next after xs)
    ∙ ap (λ ys. weave_step last at ts Exit ++ ys) (weave_stays xs nodes next after h)
    ∙ ap (λ b. weave_step b at ts Exit ++ weave_from (offset_after_step b at ts Exit)
    (tokens_after_step b ts Exit) (without_clauses_from nodes xs)) (sym (same_empty nodes xs h))
weave_stays (Exit ∷ xs) (true ∷ nodes) at ts h =
    let parts = and_parts (not (is_empty (without_clauses_from nodes xs))) (stays nodes xs) h in
    let more : is_empty xs ≡ false =
    sym (same_empty nodes xs parts.1) ∙ same_empty (true ∷ nodes) (Exit ∷ xs) h in
    rw more (weave_stays xs nodes at ts parts.1)
weave_stays (Enter node ∷ xs) nodes at ts h =
    by (is_clause_node node) refl xs h (weave_stays xs)
  where
    by : (b : Bool) → is_clause_node node ≡ b → (xs : List Step)
        → (if b then is_in_child nodes && (begins_with_token xs && stays (true ∷ nodes) xs)
        else stays (false ∷ nodes) xs) ≡ true
        → WeaveStays xs
        → tree_without_from nodes (weave_from at ts (Enter node ∷ xs))
        ≡ weave_from at ts (if b then without_clauses_from (true ∷ nodes) xs
        else Enter node ∷ without_clauses_from (false ∷ nodes) xs)
    by false is xs h rest =
        let end = leading_trivia_end at ts in
        let after = after_leading_trivia ts in
        enter_stays nodes at node ts true (weave_from end after xs) is
        ∙ ap (λ ys. weave_step true at ts (Enter node) ++ ys) (rest (false ∷ nodes) end after h)
    by true is (Token k ∷ xs) h rest =
        clause_left_out nodes at node k ts xs is
        ∙ rest (true ∷ nodes) at ts (and_parts (is_in_child nodes) (stays (true ∷ nodes) xs) h).1
    by true is [] h rest = absurd (cc ((and_parts (is_in_child nodes) false h).1))
    by true is (Enter k ∷ xs) h rest = absurd (cc ((and_parts (is_in_child nodes) false h).1))
    by true is (Exit ∷ xs) h rest = absurd (cc ((and_parts (is_in_child nodes) false h).1))
    by true is (Error k ∷ xs) h rest = absurd (cc ((and_parts (is_in_child nodes) false h).1))
