-- What is kept beside the steps of a tree while they are appended one by one.
use Rattle.std.proofs.Common.{◌≡◌, ℕ, zero, suc, ◌+◌, ◌-◌, ◌*◌, ◌/◌, ◌<◌, ◌≤◌, true, List, [], ◌∷◌, ◌++◌, length, take, ap, sym, ◌∙◌, refl, append_assoc, arith, get_or, false, ◌==◌}
use Rattle.std.proofs.lemmas.List.{append-nil, length_push, take-append-le, take_all}
use Rattle.std.specs.Prelude.{Some}
use Rattle.squawk_events.specs.declared.steps.StrStep.{StrStep}
use Rattle.squawk_events.specs.declared.steps.StrStep.TheVariants.{Enter, Token, Exit, Error}
use Rattle.squawk_tree.specs.Built.{end_of_last, AreCountsSoFar, AreSpansSoFar}
use Rattle.squawk_tree.specs.NodeRanges.{node_ranges, node_step_count, AreNodeStepCounts}
use Rattle.squawk_tree.specs.Spans.{spans_after, open_nodes_after, offset_after, open_count, whole}
use Rattle.squawk_tree.specs.Steps.{is_balanced}
use Rattle.squawk_tree.specs.Taken.{end_after, tokens_end}
use Rattle.squawk_tree.proofs.NodeRangeLemmas.{by_index_push, node_count_split}
use Rattle.squawk_tree.proofs.SpanLemmas.{whole_step, below_step, open_count_step, spans_len, balanced_open_count}

-- ---- steps that are appended

-- the end of the last token, with more steps
pub end_after-append : (at : ℕ) (xs ys : List StrStep)
    → end_after at (xs ++ ys) ≡ end_after (end_after at xs) ys
end_after-append at [] ys = refl
end_after-append at (Enter kind ∷ xs) ys = end_after-append at xs ys
end_after-append at (Token kind start end ∷ xs) ys = end_after-append end xs ys
end_after-append at (Exit ∷ xs) ys = end_after-append at xs ys
end_after-append at (Error number offset ∷ xs) ys = end_after-append at xs ys

-- with one more step
end_one : (at : ℕ) (x : StrStep) → end_after at (x ∷ []) ≡ offset_after at x
end_one at (Enter kind) = refl
end_one at (Token kind start end) = refl
end_one at Exit = refl
end_one at (Error number offset) = refl

pub end_pushed : (steps : List StrStep) (x : StrStep)
    → tokens_end (steps ++ x ∷ []) ≡ offset_after (tokens_end steps) x
end_pushed steps x = end_after-append 0 steps (x ∷ []) ∙ end_one (tokens_end steps) x

-- the end of the last step
pub end_of_last-push : (at : ℕ) (xs : List StrStep) (x : StrStep)
    → end_of_last at (xs ++ x ∷ []) ≡ offset_after at x
end_of_last-push at [] x = refl
end_of_last-push at (y ∷ []) x = refl
end_of_last-push at (y ∷ z ∷ zs) x = end_of_last-push at (z ∷ zs) x

pub end_of_last_at : (at : ℕ) (xs : List StrStep) (x : StrStep) → 0 < length xs
    → x ≡ get_or xs (length xs - 1) x → end_of_last at xs ≡ offset_after at x
end_of_last_at at [] x some is = absurd (omega arith)
end_of_last_at at (y ∷ []) x some is = ap (offset_after at) (sym is)
end_of_last_at at (y ∷ z ∷ zs) x some is =
    end_of_last_at at (z ∷ zs) x (omega arith)
    (is ∙ ap (λ n. get_or (y ∷ z ∷ zs) n x) (let e : suc (suc (length zs)) - 1
    ≡ suc (suc (length zs) - 1) = omega arith in e))

-- a step other than a `Token` keeps the offset, and each step does so the second time
pub offset_kept : (at : ℕ) (x : StrStep)
    → ((kind start end : ℕ) → x ≡ Token kind start end → ⊥) → at ≡ offset_after at x
offset_kept at (Enter kind) other = refl
offset_kept at (Token kind start end) other = absurd (other kind start end refl)
offset_kept at Exit other = refl
offset_kept at (Error number offset) other = refl

pub offset_twice : (at : ℕ) (x : StrStep)
    → offset_after (offset_after at x) x ≡ offset_after at x
offset_twice at (Enter kind) = refl
offset_twice at (Token kind start end) = refl
offset_twice at Exit = refl
offset_twice at (Error number offset) = refl

-- its end is that of the steps with it
pub end_token : (at : ℕ) (steps : List StrStep) (x : StrStep) (kind start end : ℕ)
    → x ≡ Token kind start end → end_of_last at (steps ++ x ∷ []) ≡ tokens_end (steps ++ x ∷ [])
end_token at steps x kind start end is =
    end_of_last-push at steps x ∙ rw is refl ∙ sym (end_pushed steps x)

-- a number other than 0
pub some_of : (n : ℕ) → (n == 0) ≡ false → 0 < n
some_of zero h = absurd (cc)
some_of (suc n) h = omega arith

-- the number of steps of nodes, with more steps
node_count-append : (xs ys : List StrStep)
    → node_step_count (xs ++ ys) ≡ node_step_count xs + node_step_count ys
node_count-append [] ys = omega arith
node_count-append (Enter kind ∷ xs) ys = omega (arith, node_count-append xs ys)
node_count-append (Token kind start end ∷ xs) ys = node_count-append xs ys
node_count-append (Exit ∷ xs) ys = omega (arith, node_count-append xs ys)
node_count-append (Error number offset ∷ xs) ys = omega (arith, node_count-append xs ys)

-- ---- ranges of nodes

-- before the first step there is none
pub spans_start : AreSpansSoFar [] [] []
spans_start = record {
  below = tt;
  whole_is = λ rest. refl;
  open_are = λ rest. refl;
  count = refl;
}

-- one more step
pub spans_pushed : (steps : List StrStep) (x : StrStep) (spans ps spans' ps' : List (ℕ × ℕ))
    (at : ℕ) → AreSpansSoFar steps spans ps → at ≡ tokens_end steps
    → spans' ≡ spans_after spans ps at x → ps' ≡ open_nodes_after (length spans) ps at x
    → AreSpansSoFar (steps ++ x ∷ []) spans' ps'
spans_pushed steps x spans ps spans' ps' at so_far at_is spans_is ps_is =
    rw (spans_is, ps_is, at_is) (record {
      below = below_step spans ps (tokens_end steps) x so_far.below;
      whole_is = λ rest. rw (end_pushed steps x)
          (whole_step spans ps (tokens_end steps) x rest so_far.below
          ∙ so_far.whole_is (x ∷ rest) ∙ ap node_ranges (sym (append_assoc steps (x ∷ []) rest)));
      open_are = λ rest. open_count_step (length spans) ps (tokens_end steps) x rest
          ∙ so_far.open_are (x ∷ rest)
          ∙ ap (open_count 0) (sym (append_assoc steps (x ∷ []) rest));
      count = spans_len spans ps (tokens_end steps) x
          ∙ ap (λ n. n + node_step_count (x ∷ [])) so_far.count
          ∙ sym (node_count-append steps (x ∷ []));
    })

-- a `Token` changes neither the ranges nor the open nodes
pub spans_token : (steps : List StrStep) (x : StrStep) (spans ps : List (ℕ × ℕ))
    (kind start end : ℕ) → AreSpansSoFar steps spans ps → x ≡ Token kind start end
    → AreSpansSoFar (steps ++ x ∷ []) spans ps
spans_token steps x spans ps kind start end so_far is =
    spans_pushed steps x spans ps spans ps (tokens_end steps) so_far refl (rw is refl) (rw is refl)

-- after the last step of a tree they are those of all nodes
pub spans_done : (steps : List StrStep) (spans ps : List (ℕ × ℕ)) → AreSpansSoFar steps spans ps
    → is_balanced steps ≡ true → spans ≡ node_ranges steps
spans_done steps spans ps so_far balanced =
    let all = append-nil steps in
    let closed : ps ≡ [] = no_nodes ps (so_far.open_are [] ∙ ap (open_count 0) all
    ∙ balanced_open_count steps balanced) in
    sym (append-nil spans) ∙ ap (λ qs. whole spans qs (tokens_end steps) []) (sym closed)
    ∙ so_far.whole_is [] ∙ ap node_ranges all
  where
    no_nodes : (ps : List (ℕ × ℕ)) → length ps ≡ 0 → ps ≡ []
    no_nodes [] e = refl
    no_nodes (p ∷ ps) e = absurd (omega (arith, e))

-- ---- counts

-- before the first step none is kept
pub counts_none : AreCountsSoFar [] []
counts_none = record {
  few = omega arith;
  counts_are = λ j lt. absurd (omega (arith, lt));
  complete = refl;
}

-- the steps of nodes among the first m steps, and of those among all steps
node_count_take : (m n : ℕ) (xs : List StrStep) → m ≤ n
    → node_step_count (take m xs) ≤ node_step_count (take n xs)
node_count_take m n xs le =
    let split = node_count_split m (n - m) xs in
    let sum : m + (n - m) ≡ n = omega (arith, le) in
    let all = ap (λ k. node_step_count (take k xs)) sum in
    omega (arith, split, all)

node_count_prefix : (m : ℕ) (xs : List StrStep)
    → node_step_count (take m xs) ≤ node_step_count xs
node_count_prefix m xs =
    let more = node_count_take m (m + length xs) xs (omega arith) in
    let all = ap node_step_count (take_all (m + length xs) xs (omega arith)) in
    omega (arith, more, all)

-- one more count, where one is kept for a step among these or for the next
pub counts_filled : (steps : List StrStep) (counts counts' : List ℕ) (n : ℕ)
    → AreCountsSoFar steps counts → length counts ≤ length steps / 64
    → n ≡ node_step_count steps → counts' ≡ counts ++ n ∷ [] → AreCountsSoFar steps counts'
counts_filled steps counts counts' n so_far due n_is is =
    let len = ap length is ∙ length_push counts n in
    let count = length counts in
    let next : 64 * length counts' ≡ 64 * count + 64 = omega (arith, len) in
    let low = node_count_take (64 * count) (64 * length counts') steps (omega (arith, next)) in
    let high = node_count_prefix (64 * length counts') steps in
    let complete = so_far.complete in
    record {
      few = omega (arith, next, due);
      counts_are = rw is (by_index_push (λ j. node_step_count (take (64 * j) steps)) counts n
          so_far.counts_are (n_is ∙ sym complete));
      complete = omega (arith, low, high, complete);
    }

-- a `Token` changes no number of steps of nodes
take_token : (m : ℕ) (xs : List StrStep) (kind start end : ℕ)
    → node_step_count (take m (xs ++ Token kind start end ∷ [])) ≡ node_step_count (take m xs)
take_token zero xs kind start end = refl
take_token (suc m) [] kind start end = none m
  where
    none : (m : ℕ) → node_step_count (take m []) ≡ 0
    none zero = refl
    none (suc m) = refl
take_token (suc m) (Enter k ∷ xs) kind start end = ap suc (take_token m xs kind start end)
take_token (suc m) (Token k s e ∷ xs) kind start end = take_token m xs kind start end
take_token (suc m) (Exit ∷ xs) kind start end = ap suc (take_token m xs kind start end)
take_token (suc m) (Error k a ∷ xs) kind start end = ap suc (take_token m xs kind start end)

-- so the counts stay as they are
pub counts_token : (steps : List StrStep) (x : StrStep) (counts : List ℕ) (kind start end : ℕ)
    → AreCountsSoFar steps counts → x ≡ Token kind start end
    → AreCountsSoFar (steps ++ x ∷ []) counts
counts_token steps x counts kind start end so_far is =
    let same = λ (m : ℕ). take_token m steps kind start end in
    let few = so_far.few in
    let len = length_push steps (Token kind start end) in
    rw is (record {
      few = omega (arith, few, len);
      counts_are = λ j lt. so_far.counts_are j lt ∙ ap Some (sym (same (64 * j)));
      complete = same (64 * length counts) ∙ so_far.complete
          ∙ sym (node_count-append steps (Token kind start end ∷ [])
          ∙ plus_none (node_step_count steps));
    })
  where
    plus_none : (n : ℕ) → n + 0 ≡ n
    plus_none n = omega arith

-- and so they do with any step, where one is kept for a step after the next
pub counts_full : (steps : List StrStep) (x : StrStep) (counts : List ℕ)
    → AreCountsSoFar steps counts → length steps < 64 * length counts
    → AreCountsSoFar (steps ++ x ∷ []) counts
counts_full steps x counts so_far enough =
    let few = so_far.few in
    let len = length_push steps x in
    record {
      few = omega (arith, few, len);
      counts_are = λ j lt. so_far.counts_are j lt
          ∙ ap (λ ys. Some (node_step_count ys))
          (sym (take-append-le (64 * j) steps (x ∷ []) (omega (arith, few, lt))));
      complete = ap node_step_count
          (take_all (64 * length counts) (steps ++ x ∷ []) (omega (arith, enough, len)));
    }

-- where none is missing, they are the counts of the tree
pub counts_done : (steps : List StrStep) (counts : List ℕ) → AreCountsSoFar steps counts
    → length steps < 64 * length counts → AreNodeStepCounts steps counts
counts_done steps counts so_far enough = record {
  enough = omega (arith, enough);
  counts_are = so_far.counts_are;
}
