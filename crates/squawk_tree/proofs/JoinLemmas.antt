-- The woven steps of a text are those of its children, each built from its own tokens, shifted.
use Rattle.std.proofs.Common.{◌≡◌, ℕ, zero, suc, ◌+◌, ◌≤◌, Bool, true, false, cond, List, [], ◌∷◌, ◌++◌, length, take, drop, map, append_assoc, refl, ap, sym, ◌∙◌, arith}
use Rattle.std.proofs.lemmas.List.{take-append-drop, length-drop, map-append}
use Rattle.squawk_events.specs.Kinds.{is_trivia_kind}
use Rattle.squawk_kinds.specs.Role.{role}
use Rattle.squawk_statements.specs.Kinds.{role_trivia}
use Rattle.squawk_events.specs.declared.steps.ParseError.{ParseError}
use Rattle.squawk_events.specs.declared.steps.Step.{Step}
use Rattle.squawk_events.specs.declared.steps.Step.TheVariants.{Enter, Token, Exit, Error}
use Rattle.squawk_events.specs.declared.steps.StrStep.{StrStep}
use Rattle.squawk_events.specs.declared.steps.StrStep.TheVariants as out
use Rattle.squawk_kinds.specs.declared.numbers.TheConstants.Number.{SOURCE_FILE}
use Rattle.squawk_lexed.specs.Weave.{kinds_without_trivia, leading_trivia, leading_trivia_end, after_leading_trivia, next_len, weave_step, offset_after_step, tokens_after_step, is_empty, weave_from, weave}
use Rattle.squawk_lexed.specs.LexedText.{total_len}
use Rattle.squawk_lexed.specs.LexedToken.{LexedToken, lexed_role}
use Rattle.squawk_statements.specs.Children.{parts}
use Rattle.squawk_tree.proofs.FirstPart.{more, more_of, first_part}
use Rattle.squawk_statements.specs.Plain.{child_steps, children_by, plain}
use Rattle.squawk_statements.specs.declared.division.Division.{Division}
use Rattle.squawk_tree.specs.Errors.{errors}
use Rattle.squawk_tree.specs.Join.{woven_child, shifted_step, shifted_error, child_of, children_len}
use Rattle.squawk_tree.specs.ChildSteps.{woven_children}
use Rattle.squawk_tree.specs.ChildGrammar.{AreChildSteps, woven_by, woven_children_by}
use Rattle.squawk_tree.specs.PlainChildren.{plain_child}
use Rattle.squawk_tree.proofs.CutLemmas.{trivia_role, first_cut}
use Rattle.squawk_tree.proofs.FitsLemmas.{append_woven, fits, fits_steps}

-- ---- children one after another, each of its own tokens

-- the steps of children, the first of which begins at an offset
abbrev pub joined_from : Division → ℕ → List (List LexedToken) → List StrStep
joined_from d at [] = []
joined_from d at (part ∷ rest) =
    map (shifted_step at) (woven_child d 0 part) ++ joined_from d (at + total_len part) rest

-- the steps of children under a root
abbrev pub joined : Division → List (List LexedToken) → List StrStep
joined d children = out.Enter SOURCE_FILE ∷ joined_from d 0 children ++ out.Exit ∷ []

-- the errors of children, the first of which begins at an offset
abbrev pub joined_errors : Division → ℕ → List (List LexedToken) → List ParseError
joined_errors d at [] = []
joined_errors d at (part ∷ rest) =
    map (shifted_error at) (errors part (woven_child d 0 part))
    ++ joined_errors d (at + total_len part) rest

-- the length of an appended list of tokens
pub total_append : (xs ys : List LexedToken) → total_len (xs ++ ys) ≡ total_len xs + total_len ys
total_append [] ys = omega arith
total_append (x ∷ xs) ys = let rest = total_append xs ys in omega arith

-- the children are together as long as the text
pub parts_len : (n : ℕ) (d : Division) (ts : List LexedToken) → length ts ≤ n
    → total_len ts ≡ children_len (map (child_of d) (parts lexed_role d ts))
parts_len n d [] h = refl
parts_len zero d (t ∷ ts) h = absurd (omega arith)
parts_len (suc n) d (t ∷ ts) h =
    let m = more_of lexed_role d t ts in
    let left = length-drop m ts in
    let rest = parts_len n d (drop m ts) (omega arith) in
    let split = total_append (take m ts) (drop m ts) in
    let whole : total_len (take m ts ++ drop m ts) ≡ total_len ts =
    ap total_len (take-append-drop m ts) in
    let sum : t.len + total_len ts
    ≡ t.len + total_len (take m ts)
    + children_len (map (child_of d) (parts lexed_role d (drop m ts))) = omega arith in
    sum ∙ ap (λ ps. children_len (map (child_of d) ps)) (sym (first_part lexed_role d t ts))

-- ---- the text

-- weaving of a trivia token before a child or the end
leaf_first : (c : List ℕ → List Step) → AreChildSteps c
    → (at : ℕ) (t : LexedToken) (ts : List LexedToken) (ps : List (List ℕ))
    → is_trivia_kind t.kind ≡ true
    → weave_from at (t ∷ ts) (children_by c ps ++ Exit ∷ [])
    ≡ out.Token t.kind at (at + t.len) ∷ weave_from (at + t.len) ts (children_by c ps ++ Exit
    ∷ [])
leaf_first c law at t ts [] is = rw is refl
leaf_first c law at t ts (p ∷ ps) is = rw ((law p).whole, is) refl

-- weaving of a child before other children or the end
child_first : (c : List ℕ → List Step) → AreChildSteps c
    → (at : ℕ) (p r : List LexedToken) (ks : List ℕ) (ps : List (List ℕ)) → fits (c ks) p ≡ true
    → weave_from at (p ++ r) (children_by c (ks ∷ ps) ++ Exit ∷ [])
    ≡ weave_from at p (c ks) ++ weave_from (at + total_len p) r (children_by c ps ++ Exit ∷ [])
child_first c law at p r ks ps h =
    ap (λ zs. weave_from at (p ++ r) zs) (append_assoc (c ks) (children_by c ps) (Exit ∷ []))
    ∙ before (children_by c ps ++ Exit ∷ []) (some ps)
  where
    some : (ps : List (List ℕ)) → is_empty (children_by c ps ++ Exit ∷ []) ≡ false
    some [] = refl
    some (q ∷ ps) = rw (law q).whole refl

    before : (zs : List Step) → is_empty zs ≡ false
        → weave_from at (p ++ r) (c ks ++ zs)
        ≡ weave_from at p (c ks) ++ weave_from (at + total_len p) r zs
    before [] none = absurd (cc)
    before (z ∷ zs) none = append_woven (c ks) at p r z zs h

-- the woven steps of all children are those of each at its own offset
pub placed_by : (c : List ℕ → List Step) → AreChildSteps c
    → (n : ℕ) (d : Division) (at : ℕ) (ts : List LexedToken) → length ts ≤ n
    → weave_from at ts (children_by c (parts role d (kinds_without_trivia ts)) ++ Exit ∷ [])
    ≡ woven_children_by c at (parts lexed_role d ts) ++ out.Exit ∷ []
placed_by c law n d at [] h = refl
placed_by c law zero d at (t ∷ ts) h = absurd (omega arith)
placed_by c law (suc n) d at (t ∷ ts) h =
    by (is_trivia_kind t.kind) refl (placed_by c law n d (at + t.len) ts (omega arith))
    (placed_by c law n d (at + total_len (t ∷ take (more_of lexed_role d t ts) ts))
    (drop (more_of lexed_role d t ts) ts) (let e = length-drop (more_of lexed_role d t ts) ts in
    omega arith))
  where
    by : (b : Bool) → is_trivia_kind t.kind ≡ b
        → weave_from (at + t.len) ts (children_by c (parts role d (kinds_without_trivia ts))
        ++ Exit ∷ []) ≡ woven_children_by c (at + t.len) (parts lexed_role d ts) ++ out.Exit ∷ []
        → weave_from (at + total_len (t ∷ take (more_of lexed_role d t ts) ts))
        (drop (more_of lexed_role d t ts) ts)
        (children_by c (parts role d (kinds_without_trivia
        (drop (more_of lexed_role d t ts) ts))) ++ Exit ∷ [])
        ≡ woven_children_by c (at + total_len (t ∷ take (more_of lexed_role d t ts) ts))
        (parts lexed_role d (drop (more_of lexed_role d t ts) ts)) ++ out.Exit ∷ []
        → weave_from at (t ∷ ts) (children_by c (parts role d (kinds_without_trivia (t ∷ ts)))
        ++ Exit ∷ []) ≡ woven_children_by c at (parts lexed_role d (t ∷ ts)) ++ out.Exit ∷ []
    by true is leaf child =
        let here : kinds_without_trivia (t ∷ ts) ≡ kinds_without_trivia ts = rw is refl in
        let f = trivia_role (role t.kind) (role_trivia t.kind ∙ is) in
        let none : more_of lexed_role d t ts ≡ 0 =
        ap (λ f. more d f (map lexed_role ts)) f in
        let ps : parts lexed_role d (t ∷ ts) ≡ (t ∷ []) ∷ parts lexed_role d ts =
        first_part lexed_role d t ts
        ∙ ap (λ m. (t ∷ take m ts) ∷ parts lexed_role d (drop m ts)) none in
        let sum : at + (t.len + 0) ≡ at + t.len = omega arith in
        let this : woven_by c at (t ∷ []) ≡ out.Token t.kind at (at + t.len) ∷ [] = rw is refl in
        let right : woven_children_by c at (parts lexed_role d (t ∷ ts))
        ≡ out.Token t.kind at (at + t.len)
        ∷ woven_children_by c (at + t.len) (parts lexed_role d ts) =
        ap (woven_children_by c at) ps ∙ ap (λ zs. zs
        ++ woven_children_by c (at + (t.len + 0)) (parts lexed_role d ts)) this
        ∙ ap (λ m. out.Token t.kind at (at + t.len)
        ∷ woven_children_by c m (parts lexed_role d ts)) sum in
        ap (λ ks. weave_from at (t ∷ ts) (children_by c (parts role d ks) ++ Exit ∷ [])) here
        ∙ leaf_first c law at t ts (parts role d (kinds_without_trivia ts)) is
        ∙ ap (λ zs. out.Token t.kind at (at + t.len) ∷ zs) leaf
        ∙ ap (λ zs. zs ++ out.Exit ∷ []) (sym right)
    by false is leaf child =
        let m = more_of lexed_role d t ts in
        let here : kinds_without_trivia (t ∷ ts) ≡ t.kind ∷ kinds_without_trivia ts = rw is refl in
        let part : kinds_without_trivia (t ∷ take m ts)
        ≡ t.kind ∷ kinds_without_trivia (take m ts) = rw is refl in
        let cut = first_cut d (role t.kind) ts in
        let kinds : parts role d (kinds_without_trivia (t ∷ ts))
        ≡ kinds_without_trivia (t ∷ take m ts)
        ∷ parts role d (kinds_without_trivia (drop m ts)) =
        rw (here, part) (first_part role d t.kind (kinds_without_trivia ts)
        ∙ rw (cut.prefix, cut.left) refl) in
        let tokens : parts lexed_role d (t ∷ ts)
        ≡ (t ∷ take m ts) ∷ parts lexed_role d (drop m ts) =
        first_part lexed_role d t ts in
        let whole : t ∷ ts ≡ (t ∷ take m ts) ++ drop m ts =
        ap (λ us. t ∷ us) (sym (take-append-drop m ts)) in
        let this : woven_by c at (t ∷ take m ts)
        ≡ weave_from at (t ∷ take m ts) (c (kinds_without_trivia (t ∷ take m ts))) =
        rw is refl in
        let step = child_first c law at (t ∷ take m ts) (drop m ts) (kinds_without_trivia (t
        ∷ take m ts)) (parts role d (kinds_without_trivia (drop m ts)))
        (fits_steps t (take m ts) (c (kinds_without_trivia (t ∷ take m ts)))
        (law (kinds_without_trivia (t ∷ take m ts))) is cut.trimmed) in
        ap (λ ps. weave_from at (t ∷ ts) (children_by c ps ++ Exit ∷ [])) kinds
        ∙ ap (λ us. weave_from at us (children_by c (kinds_without_trivia (t ∷ take m ts)
        ∷ parts role d (kinds_without_trivia (drop m ts))) ++ Exit ∷ [])) whole
        ∙ step
        ∙ ap (λ zs. weave_from at (t ∷ take m ts)
        (c (kinds_without_trivia (t ∷ take m ts))) ++ zs) child
        ∙ ap (λ zs. zs
        ++ (woven_children_by c (at + total_len (t ∷ take m ts)) (parts lexed_role d (drop m ts))
        ++ out.Exit ∷ [])) (sym this)
        ∙ sym (append_assoc (woven_by c at (t ∷ take m ts))
        (woven_children_by c (at + total_len (t ∷ take m ts)) (parts lexed_role d (drop m ts)))
        (out.Exit ∷ []))
        ∙ ap (λ ps. woven_children_by c at ps ++ out.Exit ∷ []) (sym tokens)

-- in the parse into statements
pub placed : (n : ℕ) (d : Division) (at : ℕ) (ts : List LexedToken) → length ts ≤ n
    → weave_from at ts (children_by (child_steps d) (parts role d (kinds_without_trivia ts))
    ++ Exit ∷ [])
    ≡ woven_children d at (parts lexed_role d ts) ++ out.Exit ∷ []
placed n d at ts h = placed_by (child_steps d) (plain_child d) n d at ts h

-- ---- shifts

-- addition of three numbers in another order
pub further : (a n l : ℕ) → a + n + l ≡ a + l + n
further a n l = omega arith

-- Leading trivia, a step, and woven steps are shifted with the offset at which the tokens begin.
record Shifted (n at : ℕ) (ts : List LexedToken) : Type 0 where
  steps : leading_trivia (at + n) ts ≡ map (shifted_step n) (leading_trivia at ts)
  end : leading_trivia_end (at + n) ts ≡ leading_trivia_end at ts + n

shift_leading_trivia : (n at : ℕ) (ts : List LexedToken) → Shifted n at ts
shift_leading_trivia n at [] = record { steps = refl; end = refl }
shift_leading_trivia n at (t ∷ ts) =
    by (is_trivia_kind t.kind) refl (shift_leading_trivia n (at + t.len) ts)
  where
    by : (b : Bool) → is_trivia_kind t.kind ≡ b → Shifted n (at + t.len) ts → Shifted n at (t ∷ ts)
    by true is rest = record {
      steps =
          rw (is, further at n t.len) (ap (λ ys.
          out.Token t.kind (at + n) (at + t.len + n) ∷ ys) rest.steps);
      end =
          rw (is, further at n t.len) rest.end;
    }
    by false is rest = record { steps = rw is refl; end = rw is refl }

shift_step : (last : Bool) (n at : ℕ) (ts : List LexedToken) (x : Step)
    → (weave_step last (at + n) ts x ≡ map (shifted_step n) (weave_step last at ts x))
    × (offset_after_step last (at + n) ts x ≡ offset_after_step last at ts x + n)
shift_step last n at ts (Enter kind) = let f = shift_leading_trivia n at ts in (
  rw f.steps
      (sym (map-append (shifted_step n) (leading_trivia at ts) (out.Enter kind ∷ []))),
  f.end,
)
shift_step last n at ts (Token kind) =
    let f = shift_leading_trivia n at ts in (
      rw (f.steps, f.end, further (leading_trivia_end at ts) n (next_len (after_leading_trivia ts)))
          (sym (map-append (shifted_step n) (leading_trivia at ts)
          (out.Token kind (leading_trivia_end at ts) (leading_trivia_end at ts
          + next_len (after_leading_trivia ts)) ∷ []))),
      rw (f.end, further (leading_trivia_end at ts) n (next_len (after_leading_trivia ts))) refl,
    )
shift_step true n at ts Exit = let f = shift_leading_trivia n at ts in
    (rw f.steps (sym (map-append (shifted_step n) (leading_trivia at ts) (out.Exit ∷ []))), f.end)
shift_step false n at ts Exit = (refl, refl)
shift_step last n at ts (Error number) = (refl, refl)

shift_woven : (n at : ℕ) (ts : List LexedToken) (xs : List Step)
    → weave_from (at + n) ts xs ≡ map (shifted_step n) (weave_from at ts xs)
shift_woven n at ts [] = refl
shift_woven n at ts (x ∷ xs) =
    let s = shift_step (is_empty xs) n at ts x in
    let rest = shift_woven n (offset_after_step (is_empty xs) at ts x)
    (tokens_after_step (is_empty xs) ts x) xs in
    rw (s.0, s.1, rest) (sym (map-append (shifted_step n) (weave_step (is_empty xs) at ts x)
    (weave_from (offset_after_step (is_empty xs) at ts x) (tokens_after_step (is_empty xs) ts x)
    xs)))

-- the steps of a child: a node, and a leaf
pub node_woven : (d : Division) (at : ℕ) (t : LexedToken) (ts : List LexedToken)
    → is_trivia_kind t.kind ≡ false → woven_child d at (t ∷ ts)
    ≡ weave_from at (t ∷ ts) (child_steps d (kinds_without_trivia (t ∷ ts)))
node_woven d at t ts is =
    ap (λ b. cond b (out.Token t.kind at (at + t.len)
    ∷ []) (weave_from at (t ∷ ts) (child_steps d (kinds_without_trivia (t ∷ ts))))) is

pub leaf_woven : (d : Division) (at : ℕ) (t : LexedToken) (ts : List LexedToken)
    → is_trivia_kind t.kind ≡ true → woven_child d at (t ∷ ts)
    ≡ out.Token t.kind at (at + t.len) ∷ []
leaf_woven d at t ts is =
    ap (λ b. cond b (out.Token t.kind at (at + t.len)
    ∷ []) (weave_from at (t ∷ ts) (child_steps d (kinds_without_trivia (t ∷ ts))))) is

-- the steps of one child, and of all children, are shifted from those at offset 0
pub shift_child : (d : Division) (n : ℕ) (part : List LexedToken)
    → woven_child d n part ≡ map (shifted_step n) (woven_child d 0 part)
shift_child d n [] = refl
shift_child d n (t ∷ ts) = by (is_trivia_kind t.kind) refl
  where
    by : (b : Bool) → is_trivia_kind t.kind ≡ b
        → woven_child d n (t ∷ ts) ≡ map (shifted_step n) (woven_child d 0 (t ∷ ts))
    by true is =
        let a : n ≡ 0 + n = omega arith in
        let b : n + t.len ≡ 0 + t.len + n = omega arith in
        leaf_woven d n t ts is ∙ ap (λ m. out.Token t.kind m (n + t.len) ∷ []) a
        ∙ ap (λ m. out.Token t.kind (0 + n) m ∷ []) b
        ∙ ap (map (shifted_step n)) (sym (leaf_woven d 0 t ts is))
    by false is =
        let e : n ≡ 0 + n = omega arith in
        let here : woven_child d n (t ∷ ts)
        ≡ weave_from n (t ∷ ts) (child_steps d (kinds_without_trivia (t ∷ ts))) =
        node_woven d n t ts is in
        let there : woven_child d 0 (t ∷ ts)
        ≡ weave_from 0 (t ∷ ts) (child_steps d (kinds_without_trivia (t ∷ ts))) =
        node_woven d 0 t ts is in
        here ∙ ap (λ m. weave_from m (t ∷ ts) (child_steps d (kinds_without_trivia (t ∷ ts)))) e
        ∙ shift_woven n 0 (t ∷ ts) (child_steps d (kinds_without_trivia (t ∷ ts)))
        ∙ ap (map (shifted_step n)) (sym there)

pub shift_all : (d : Division) (at : ℕ) (ps : List (List LexedToken))
    → woven_children d at ps ≡ joined_from d at ps
shift_all d at [] = refl
shift_all d at (p ∷ ps) = rw (shift_child d at p, shift_all d (at + total_len p) ps) refl

-- the woven steps of a text are those of its children, joined
pub join_law : (d : Division) (ts : List LexedToken)
    → weave ts (plain d (kinds_without_trivia ts)) ≡ joined d (parts lexed_role d ts)
join_law d ts = ap (λ ys. out.Enter SOURCE_FILE ∷ ys) (placed (length ts) d 0 ts (omega arith)
    ∙ ap (λ ys. ys ++ out.Exit ∷ []) (shift_all d 0 (parts lexed_role d ts)))
