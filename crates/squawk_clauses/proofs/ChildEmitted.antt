-- A child that was emitted is the child of the clause grammar.
use Rattle.std.proofs.Common.{◌≡◌, ℕ, zero, suc, ◌+◌, ◌-◌, ◌==◌, Bool, true, false, cond, List, [], ◌∷◌, ◌++◌, take, drop, append_assoc, refl, ap, sym, subst, ◌∙◌, arith}
use Rattle.std.specs.Prelude.{OnOk, Some, None, Result, unwrap_or}
use Rattle.std.proofs.lemmas.Bool.{eqb-true}
use Rattle.squawk_events.specs.Kinds.{is_trivia_kind, without_trivia}
use Rattle.squawk_events.specs.declared.error.FrontError.{FrontError}
use Rattle.squawk_events.specs.declared.steps.Step.{Step}
use Rattle.squawk_events.specs.declared.steps.Step.TheVariants.{Enter, Exit}
use Rattle.squawk_events.specs.declared.steps.StrStep.{StrStep}
use Rattle.squawk_events.specs.declared.steps.StrStep.TheVariants as out
use Rattle.squawk_kinds.specs.Role.{Role, role, is_trivia, Trivia, Semicolon, Terminator, Command, Open, Close, Other}
use Rattle.squawk_kinds.specs.declared.numbers.TheConstants.Number as kind
use Rattle.squawk_lexed.specs.LexedText.{token_start}
use Rattle.squawk_lexed.specs.LexedToken.{LexedToken}
use Rattle.squawk_lexed.specs.Stored.{kinds_of}
use Rattle.squawk_lexed.specs.Weave.{kinds_without_trivia, weave_from}
use Rattle.squawk_statements.specs.First.{child_node, node_by}
use Rattle.squawk_statements.specs.Kinds.{role_trivia}
use Rattle.squawk_statements.specs.Plain.{child_steps, node_of}
use Rattle.squawk_statements.specs.declared.division.Division.{Division}
use Rattle.squawk_statements.specs.declared.first.ChildShape.{ChildShape}
use Rattle.squawk_tree.specs.ChildGrammar.{IsFirstNode, child_at, woven_by}
use Rattle.squawk_tree.specs.Steps.{without_errors}
use Rattle.squawk_clauses.specs.Clauses.{clause_child_steps, select_child_steps, select_steps}
use Rattle.squawk_clauses.specs.SelectTokens.{select_left}

-- ---- the node of a child

-- kinds without trivia
kinds_kept : (ts : List LexedToken) → kinds_without_trivia ts ≡ without_trivia (kinds_of ts)
kinds_kept [] = refl
kinds_kept (t ∷ ts) = by (is_trivia_kind t.kind) (kinds_kept ts)
  where
    by : (b : Bool) → kinds_without_trivia ts ≡ without_trivia (kinds_of ts)
        → cond b [] (t.kind ∷ []) ++ kinds_without_trivia ts
        ≡ cond b (without_trivia (kinds_of ts)) (t.kind ∷ without_trivia (kinds_of ts))
    by true rest = rest
    by false rest = ap (λ ks. t.kind ∷ ks) rest

kinds_take : (n : ℕ) (ts : List LexedToken) → take n (kinds_of ts) ≡ kinds_of (take n ts)
kinds_take zero ts = refl
kinds_take (suc n) [] = refl
kinds_take (suc n) (t ∷ ts) = ap (λ ks. t.kind ∷ ks) (kinds_take n ts)

-- a child of trivia has no node
trivia_node : (f : Role) (ks : List ℕ) → is_trivia f ≡ true → node_by f ks ≡ None
trivia_node Trivia ks h = refl
trivia_node Semicolon ks h = absurd (cc)
trivia_node Terminator ks h = absurd (cc)
trivia_node Command ks h = absurd (cc)
trivia_node Open ks h = absurd (cc)
trivia_node Close ks h = absurd (cc)
trivia_node Other ks h = absurd (cc)

-- tokens that begin with one that is not trivia, and have this node
record HaveNode (node : ℕ) (part : List LexedToken) : Type 0 where
  first : LexedToken
  others : List LexedToken
  whole : part ≡ first ∷ others
  no_trivia : is_trivia_kind first.kind ≡ false
  node_is : node_of (kinds_without_trivia (first ∷ others)) ≡ node

have_node : (node : ℕ) (part : List LexedToken) → child_node (kinds_of part) ≡ Some node
    → HaveNode node part
have_node node [] is = absurd (cc)
have_node node (t ∷ ts) is = by (is_trivia_kind t.kind) refl
  where
    by : (b : Bool) → is_trivia_kind t.kind ≡ b → HaveNode node (t ∷ ts)
    by true trivia =
        let none = trivia_node (role t.kind) (without_trivia (kinds_of (t ∷ ts)))
        (role_trivia t.kind ∙ trivia) in
        let no : None ≡ Some node = sym none ∙ is in
        absurd (cc)
    by false other =
        let kinds : kinds_without_trivia (t ∷ ts) ≡ t.kind ∷ kinds_without_trivia ts =
        rw other refl in
        record {
          first = t;
          others = ts;
          whole = refl;
          no_trivia = other;
          node_is = ap node_of kinds
              ∙ ap (λ ks. unwrap_or (node_by (role t.kind) ks) kind.ERROR)
              (sym kinds ∙ kinds_kept (t ∷ ts))
              ∙ ap (λ o. unwrap_or o kind.ERROR) is;
        }

node_at : (d : Division) (ts : List LexedToken) (from : ℕ) (shape : ChildShape) (node : ℕ)
    → IsFirstNode d ts from shape node → HaveNode node (take shape.tokens (drop from ts))
node_at d ts from shape node first =
    let all = drop from ts in
    have_node node (take shape.tokens all)
    (ap child_node (sym (kinds_take shape.tokens all))
    ∙ ap (λ (s : ChildShape). child_node (take s.tokens (kinds_of all))) first.first
    ∙ sym (ap (λ (s : ChildShape). s.node) first.first) ∙ first.node_is)

-- ---- its steps

woven_node : (c : List ℕ → List Step) (at : ℕ) (t : LexedToken) (ts : List LexedToken)
    → is_trivia_kind t.kind ≡ false
    → woven_by c at (t ∷ ts) ≡ weave_from at (t ∷ ts) (c (kinds_without_trivia (t ∷ ts)))
woven_node c at t ts is = rw is refl

-- those of a statement other than `SELECT` are plain
plain_steps : (d : Division) (at node : ℕ) (part : List LexedToken) → HaveNode node part
    → (node == kind.SELECT) ≡ false
    → woven_by (child_steps d) at part ≡ woven_by (clause_child_steps d) at part
plain_steps d at node part have other =
    let t = have.first in
    let ts = have.others in
    let kinds = kinds_without_trivia (t ∷ ts) in
    let by_node : clause_child_steps d kinds
    ≡ cond (node == kind.SELECT) (select_child_steps d kinds) (child_steps d kinds) =
    ap (λ n. cond (n == kind.SELECT) (select_child_steps d kinds) (child_steps d kinds))
    have.node_is in
    let steps : clause_child_steps d kinds ≡ child_steps d kinds = by_node
    ∙ ap (λ b. cond b (select_child_steps d kinds) (child_steps d kinds)) other in
    ap (woven_by (child_steps d) at) have.whole
    ∙ woven_node (child_steps d) at t ts have.no_trivia
    ∙ ap (weave_from at (t ∷ ts)) (sym steps)
    ∙ sym (woven_node (clause_child_steps d) at t ts have.no_trivia)
    ∙ ap (woven_by (clause_child_steps d) at) (sym have.whole)

pub other_emitted : (d : Division) (ts : List LexedToken) (from : ℕ) (shape : ChildShape)
    (node : ℕ) (r : Result (Unit {0}) FrontError) (s0 s1 : List StrStep)
    → IsFirstNode d ts from shape node → (node == kind.SELECT) ≡ false
    → OnOk r (s1 ≡ s0 ++ child_at (child_steps d) ts from shape.tokens)
    → OnOk r (s1 ≡ s0 ++ child_at (clause_child_steps d) ts from shape.tokens)
other_emitted d ts from shape node r s0 s1 first other emitted =
    subst (λ own. OnOk r (s1 ≡ s0 ++ without_errors own))
    (plain_steps d (token_start ts from) node (take shape.tokens (drop from ts))
    (node_at d ts from shape node first) other) emitted

-- those of a `SELECT` statement
entered : (at : ℕ) (t : LexedToken) (ts : List LexedToken) (xs : List Step)
    → is_trivia_kind t.kind ≡ false
    → without_errors (weave_from at (t ∷ ts) (Enter kind.SELECT ∷ xs))
    ≡ out.Enter kind.SELECT ∷ without_errors (weave_from at (t ∷ ts) xs)
entered at t ts xs other = rw other refl

select_steps_of : (d : Division) (at : ℕ) (part : List LexedToken) → HaveNode kind.SELECT part
    → without_errors (woven_by (clause_child_steps d) at part)
    ≡ out.Enter kind.SELECT ∷ without_errors (weave_from at part
    (select_steps d false 0 (kinds_without_trivia part) ++ Exit ∷ []))
select_steps_of d at part have =
    let t = have.first in
    let ts = have.others in
    let kinds = kinds_without_trivia (t ∷ ts) in
    let steps : clause_child_steps d kinds ≡ select_child_steps d kinds =
    ap (λ n. cond (n == kind.SELECT) (select_child_steps d kinds) (child_steps d kinds))
    have.node_is in
    ap (λ us. without_errors (woven_by (clause_child_steps d) at us)) have.whole
    ∙ ap without_errors (woven_node (clause_child_steps d) at t ts have.no_trivia
    ∙ ap (weave_from at (t ∷ ts)) steps)
    ∙ entered at t ts (select_steps d false 0 kinds ++ Exit ∷ []) have.no_trivia
    ∙ ap (λ us. out.Enter kind.SELECT ∷ without_errors (weave_from at us
    (select_steps d false 0 (kinds_without_trivia us) ++ Exit ∷ []))) (sym have.whole)

pub select_emitted : (d : Division) (ts : List LexedToken) (from : ℕ) (shape : ChildShape)
    (node : ℕ) (r : Result (Unit {0}) FrontError) (s0 s1 s2 : List StrStep)
    → IsFirstNode d ts from shape node → (node == kind.SELECT) ≡ true
    → s1 ≡ s0 ++ out.Enter node ∷ []
    → OnOk r (s2 ≡ s1 ++ select_left d false 0 ts from (from + shape.tokens))
    → OnOk r (s2 ≡ s0 ++ child_at (clause_child_steps d) ts from shape.tokens)
select_emitted d ts from shape node r s0 s1 s2 first is entered emitted =
    let node_is = eqb-true node kind.SELECT is in
    let at = token_start ts from in
    let part = take shape.tokens (drop from ts) in
    let have : HaveNode kind.SELECT part =
    subst (λ n. HaveNode n part) node_is (node_at d ts from shape node first) in
    let left = without_errors (weave_from at part
    (select_steps d false 0 (kinds_without_trivia part) ++ Exit ∷ [])) in
    let count : from + shape.tokens - from ≡ shape.tokens = omega arith in
    let same : select_left d false 0 ts from (from + shape.tokens) ≡ left =
    ap (λ n. without_errors (weave_from at (take n (drop from ts)) (select_steps d false 0
    (kinds_without_trivia (take n (drop from ts))) ++ Exit ∷ []))) count in
    let whole : s1 ++ select_left d false 0 ts from (from + shape.tokens)
    ≡ s0 ++ child_at (clause_child_steps d) ts from shape.tokens =
    ap (λ ys. ys ++ select_left d false 0 ts from (from + shape.tokens)) entered
    ∙ ap (λ ys. (s0 ++ out.Enter node ∷ []) ++ ys) same
    ∙ append_assoc s0 (out.Enter node ∷ []) left
    ∙ ap (λ n. s0 ++ out.Enter n ∷ left) node_is
    ∙ ap (λ ys. s0 ++ ys) (sym (select_steps_of d at part have)) in
    subst (λ ys. OnOk r (s2 ≡ ys)) whole emitted
