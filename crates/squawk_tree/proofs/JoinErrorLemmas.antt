-- The errors of a text are those of its children, shifted.
use Rattle.std.proofs.Common.{◌≡◌, ℕ, zero, suc, ◌+◌, ◌==◌, ◌≤◌, Bool, true, false, ◌&&◌, cond, List, [], ◌∷◌, ◌++◌, length, take, drop, map, append_assoc, refl, ap, sym, ◌∙◌, arith, nat_lt}
use Rattle.std.proofs.lemmas.List.{take-append-drop, length-drop, map-append}
use Rattle.squawk_events.specs.Kinds.{is_trivia_kind, has_no_trivia}
use Rattle.squawk_kinds.specs.Role.{role}
use Rattle.squawk_statements.specs.Kinds.{role_trivia}
use Rattle.squawk_events.specs.declared.steps.ParseError.{ParseError}
use Rattle.squawk_events.specs.declared.steps.Step.{Step}
use Rattle.squawk_events.specs.declared.steps.Step.TheVariants.{Enter, Token, Exit, Error}
use Rattle.squawk_events.specs.declared.steps.StrStep.{StrStep}
use Rattle.squawk_events.specs.declared.steps.StrStep.TheVariants as out
use Rattle.squawk_lexed.specs.Weave.{kinds_without_trivia, leading_trivia, leading_trivia_end, after_leading_trivia, next_len, is_empty, weave_from, weave}
use Rattle.squawk_lexed.specs.LexedText.{total_len, are_sound}
use Rattle.squawk_lexed.specs.Faults.{faults_within}
use Rattle.squawk_lexed.specs.LexedToken.{LexedToken, lexed_role}
use Rattle.squawk_lexed.specs.declared.fault.Fault.{Fault}
use Rattle.squawk_statements.specs.Children.{parts}
use Rattle.squawk_tree.proofs.FirstPart.{more, more_of, first_part}
use Rattle.squawk_statements.specs.Plain.{child_steps}
use Rattle.squawk_statements.specs.declared.division.Division.{Division}
use Rattle.squawk_tree.specs.Errors.{error}
use Rattle.squawk_tree.specs.Walk.{covers, errors_by_step}
use Rattle.squawk_lexed.specs.Stored.{errors_at}
use Rattle.squawk_tree.specs.Join.{woven_child, shifted_step, shifted_error}
use Rattle.squawk_tree.proofs.CutLemmas.{trivia_role, first_cut}
use Rattle.squawk_tree.specs.Errors.{errors}
use Rattle.squawk_tree.specs.ChildSteps.{woven_children}
use Rattle.squawk_tree.proofs.JoinLemmas.{joined_errors}
use Rattle.squawk_statements.specs.Plain.{plain}
use Rattle.squawk_tree.proofs.ErrorLemmas.{read_trivia_step, split, same_offset, by_token_is_by_step}
use Rattle.squawk_tree.specs.ChildSteps.{woven_children}
use Rattle.squawk_tree.proofs.FitsLemmas.{fits, both, fits_child}
use Rattle.squawk_tree.proofs.JoinLemmas.{placed as placed_law, leaf_woven, node_woven, shift_child, further}

-- whether steps contain all of the tokens, each `Error` at the start of one of them
abbrev inner : ℕ → List LexedToken → List StrStep → Bool
inner at ts [] = is_empty ts
inner at ts (out.Enter kind ∷ xs) = inner at ts xs
inner at ts (out.Exit ∷ xs) = inner at ts xs
inner at [] (out.Error number offset ∷ xs) = false
inner at (t ∷ ts) (out.Error number offset ∷ xs) = offset == at && inner at (t ∷ ts) xs
inner at [] (out.Token kind start end ∷ xs) = false
inner at (t ∷ ts) (out.Token kind start end ∷ xs) = inner (at + t.len) ts xs

-- reading leading trivia, before one more step that is woven with it
inner_trivia_step : (at : ℕ) (ts : List LexedToken) (y : StrStep) (ys : List StrStep)
    → inner at ts ((leading_trivia at ts ++ y ∷ []) ++ ys)
    ≡ inner (leading_trivia_end at ts) (after_leading_trivia ts) (y ∷ ys)
inner_trivia_step at ts y ys = read_trivia_step inner (λ at t ts ys. refl) at ts y ys

-- reading a `Token` and an `Error` where a token remains
first_token : (at : ℕ) (us : List LexedToken) (kind start end : ℕ) (ys : List StrStep)
    → is_empty us ≡ false → inner at us (out.Token kind start end ∷ ys)
    ≡ inner (at + next_len us) (drop 1 us) ys
first_token at [] kind start end ys e = absurd (cc)
first_token at (u ∷ us) kind start end ys e = refl

some_error : (at : ℕ) (us : List LexedToken) (number : ℕ) (ys : List StrStep) → is_empty us ≡ false
    → inner at us (out.Error number at ∷ ys) ≡ inner at us ys
some_error at [] number ys e = absurd (cc)
some_error at (u ∷ us) number ys e = same_offset at (inner at (u ∷ us) ys)

-- woven steps that fit their tokens contain all of them
inner_woven : (at : ℕ) (ts : List LexedToken) (xs : List Step) → fits xs ts ≡ true
    → inner at ts (weave_from at ts xs) ≡ true
inner_woven at ts [] h = h
inner_woven at ts (Enter kind ∷ xs) h =
    let hs = both (is_empty (after_leading_trivia ts)) (fits xs (after_leading_trivia ts)) h in
    inner_trivia_step at ts (out.Enter kind) (weave_from (leading_trivia_end at ts)
    (after_leading_trivia ts) xs)
    ∙ inner_woven (leading_trivia_end at ts) (after_leading_trivia ts) xs hs.1
inner_woven at ts (Token kind ∷ xs) h =
    let hs = both (is_empty (after_leading_trivia ts)) (fits xs (drop 1 (after_leading_trivia ts)))
    h in
    let end : ℕ = leading_trivia_end at ts + next_len (after_leading_trivia ts) in
    let rest : List StrStep =
    weave_from (leading_trivia_end at ts + next_len (after_leading_trivia ts))
    (drop 1 (after_leading_trivia ts)) xs in
    inner_trivia_step at ts (out.Token kind (leading_trivia_end at ts) end) rest
    ∙ first_token (leading_trivia_end at ts) (after_leading_trivia ts) kind
    (leading_trivia_end at ts) end rest hs.0
    ∙ inner_woven end (drop 1 (after_leading_trivia ts)) xs hs.1
inner_woven at [] (Exit ∷ []) h = refl
inner_woven at (t ∷ ts) (Exit ∷ []) h = absurd (cc)
inner_woven at ts (Exit ∷ x ∷ xs) h = inner_woven at ts (x ∷ xs) h
inner_woven at ts (Error number ∷ xs) h =
    let hs = both (is_empty ts) (fits xs ts) h in
    some_error at ts number (weave_from at ts xs) hs.0 ∙ inner_woven at ts xs hs.1

-- errors of steps that contain all of their tokens, before other steps and tokens
by_step_append : (at : ℕ) (p r : List LexedToken) (xs ys : List StrStep) → inner at p xs ≡ true
    → errors_by_step at (p ++ r) (xs ++ ys)
    ≡ errors_by_step at p xs ++ errors_by_step (at + total_len p) r ys
by_step_append at [] r [] ys h = ap (λ n. errors_by_step n r ys) (omega arith)
by_step_append at (t ∷ p) r [] ys h = absurd (cc)
by_step_append at p r (out.Enter kind ∷ xs) ys h = by_step_append at p r xs ys h
by_step_append at p r (out.Exit ∷ xs) ys h = by_step_append at p r xs ys h
by_step_append at [] r (out.Error number offset ∷ xs) ys h = absurd (cc)
by_step_append at (t ∷ p) r (out.Error number offset ∷ xs) ys h =
    ap (λ es. error at (at + t.len) number ∷ es)
    (by_step_append at (t ∷ p) r xs ys (split (offset == at) (inner at (t ∷ p) xs) h).1)
by_step_append at [] r (out.Token kind start end ∷ xs) ys h = absurd (cc)
by_step_append at (t ∷ p) r (out.Token kind start end ∷ xs) ys h =
    let e : at + t.len + total_len p ≡ at + (t.len + total_len p) = omega arith in
    ap (λ es. errors_at at t.faults ++ es) (by_step_append (at + t.len) p r xs ys h
    ∙ ap (λ n. errors_by_step (at + t.len) p xs ++ errors_by_step n r ys) e)
    ∙ sym (append_assoc (errors_at at t.faults) (errors_by_step (at + t.len) p xs)
    (errors_by_step (at + (t.len + total_len p)) r ys))

-- the errors of children, the first of which begins at an offset
abbrev pub errors_of_parts : Division → ℕ → List (List LexedToken) → List ParseError
errors_of_parts d at [] = []
errors_of_parts d at (part ∷ rest) = errors_by_step at part (woven_child d at part)
    ++ errors_of_parts d (at + total_len part) rest

-- a leaf, and a node, contain all of their tokens
inner_leaf : (d : Division) (at : ℕ) (t : LexedToken) → is_trivia_kind t.kind ≡ true
    → inner at (t ∷ []) (woven_child d at (t ∷ [])) ≡ true
inner_leaf d at t is = ap (inner at (t ∷ [])) (leaf_woven d at t [] is)

inner_node : (d : Division) (at : ℕ) (t : LexedToken) (ts : List LexedToken)
    → is_trivia_kind t.kind ≡ false → fits (child_steps d (kinds_without_trivia (t ∷ ts))) (t ∷ ts)
    ≡ true → inner at (t ∷ ts) (woven_child d at (t ∷ ts)) ≡ true
inner_node d at t ts is h = ap (inner at (t ∷ ts)) (node_woven d at t ts is)
    ∙ inner_woven at (t ∷ ts) (child_steps d (kinds_without_trivia (t ∷ ts))) h

-- the errors of the first child, and those of the others
one_part : (d : Division) (at : ℕ) (p r : List LexedToken) (ps : List (List LexedToken))
    → inner at p (woven_child d at p) ≡ true
    → errors_by_step (at + total_len p) r (woven_children d (at + total_len p) ps ++ out.Exit ∷ [])
    ≡ errors_of_parts d (at + total_len p) ps
    → errors_by_step at (p ++ r) (woven_children d at (p ∷ ps) ++ out.Exit ∷ [])
    ≡ errors_of_parts d at (p ∷ ps)
one_part d at p r ps h rest =
    ap (errors_by_step at (p ++ r))
    (append_assoc (woven_child d at p) (woven_children d (at + total_len p) ps)
    (out.Exit ∷ []))
    ∙ by_step_append at p r (woven_child d at p) (woven_children d (at + total_len p) ps ++ out.Exit
    ∷ []) h
    ∙ ap (λ es. errors_by_step at p (woven_child d at p) ++ es) rest

-- the errors of the steps of all children are those of each
pub errors_placed : (n : ℕ) (d : Division) (at : ℕ) (ts : List LexedToken) → length ts ≤ n
    → errors_by_step at ts (woven_children d at (parts lexed_role d ts) ++ out.Exit ∷ [])
    ≡ errors_of_parts d at (parts lexed_role d ts)
errors_placed n d at [] h = refl
errors_placed zero d at (t ∷ ts) h = absurd (omega arith)
errors_placed (suc n) d at (t ∷ ts) h =
    by (errors_placed n d (at + total_len (t ∷ take (more_of lexed_role d t ts) ts))
    (drop (more_of lexed_role d t ts) ts) (let e = length-drop (more_of lexed_role d t ts) ts in
    omega arith))
  where
    whole : (b : Bool) → is_trivia_kind t.kind ≡ b
        → inner at (t ∷ take (more_of lexed_role d t ts) ts)
        (woven_child d at (t ∷ take (more_of lexed_role d t ts) ts)) ≡ true
    whole true is =
        let none : more_of lexed_role d t ts ≡ 0 =
        ap (λ f. more d f (map lexed_role ts))
        (trivia_role (role t.kind) (role_trivia t.kind ∙ is)) in
        ap (λ m. inner at (t ∷ take m ts) (woven_child d at (t ∷ take m ts))) none
        ∙ inner_leaf d at t is
    whole false is =
        inner_node d at t (take (more_of lexed_role d t ts) ts) is
        (fits_child d t (take (more_of lexed_role d t ts) ts) is
        (first_cut d (role t.kind) ts).trimmed)

    by : errors_by_step (at + total_len (t ∷ take (more_of lexed_role d t ts) ts))
        (drop (more_of lexed_role d t ts) ts)
        (woven_children d (at + total_len (t ∷ take (more_of lexed_role d t ts) ts))
        (parts lexed_role d (drop (more_of lexed_role d t ts) ts)) ++ out.Exit ∷ [])
        ≡ errors_of_parts d (at + total_len (t ∷ take (more_of lexed_role d t ts) ts))
        (parts lexed_role d (drop (more_of lexed_role d t ts) ts))
        → errors_by_step at (t ∷ ts)
        (woven_children d at (parts lexed_role d (t ∷ ts)) ++ out.Exit ∷ [])
        ≡ errors_of_parts d at (parts lexed_role d (t ∷ ts))
    by rest =
        let m = more_of lexed_role d t ts in
        let tokens : parts lexed_role d (t ∷ ts)
        ≡ (t ∷ take m ts) ∷ parts lexed_role d (drop m ts) =
        first_part lexed_role d t ts in
        let all : t ∷ ts ≡ (t ∷ take m ts) ++ drop m ts =
        ap (λ us. t ∷ us) (sym (take-append-drop m ts)) in
        ap (λ ps. errors_by_step at (t ∷ ts) (woven_children d at ps ++ out.Exit ∷ [])) tokens
        ∙ ap (λ us. errors_by_step at us (woven_children d at ((t ∷ take m ts)
        ∷ parts lexed_role d (drop m ts)) ++ out.Exit ∷ [])) all
        ∙ one_part d at (t ∷ take m ts) (drop m ts) (parts lexed_role d (drop m ts))
        (whole (is_trivia_kind t.kind) refl) rest
        ∙ ap (errors_of_parts d at) (sym tokens)

-- ---- shifts

-- Errors are shifted with the offset at which the tokens begin: those of faults, of steps, and of a
-- child.
shifted_faults : (n at : ℕ) (fs : List Fault)
    → errors_at (at + n) fs ≡ map (shifted_error n) (errors_at at fs)
shifted_faults n at [] = refl
shifted_faults n at (f ∷ fs) =
    ap (λ a. error a (at + n + f.end) f.number ∷ errors_at (at + n) fs) (further at n f.start)
    ∙ ap (λ b. error (at + f.start + n) b f.number ∷ errors_at (at + n) fs) (further at n f.end)
    ∙ ap (λ es. error (at + f.start + n) (at + f.end + n) f.number ∷ es) (shifted_faults n at fs)

shifted_by_step : (n at : ℕ) (ts : List LexedToken) (xs : List StrStep)
    → errors_by_step (at + n) ts (map (shifted_step n) xs)
    ≡ map (shifted_error n) (errors_by_step at ts xs)
shifted_by_step n at ts [] = refl
shifted_by_step n at ts (out.Enter kind ∷ xs) = shifted_by_step n at ts xs
shifted_by_step n at ts (out.Exit ∷ xs) = shifted_by_step n at ts xs
shifted_by_step n at ts (out.Error number offset ∷ xs) =
    ap (λ e. error (at + n) e number ∷ errors_by_step (at + n) ts (map (shifted_step n) xs))
    (further at n (next_len ts)) ∙ ap (λ es.
    error (at + n) (at + next_len ts + n) number ∷ es) (shifted_by_step n at ts xs)
shifted_by_step n at [] (out.Token kind start end ∷ xs) =
    ap (λ m. errors_by_step m [] (map (shifted_step n) xs)) (further at n 0)
    ∙ shifted_by_step n (at + 0) [] xs
shifted_by_step n at (t ∷ ts) (out.Token kind start end ∷ xs) =
    ap (λ m. errors_at (at + n) t.faults ++ errors_by_step m ts (map (shifted_step n) xs))
    (further at n t.len)
    ∙ ap (λ es. errors_at (at + n) t.faults ++ es) (shifted_by_step n (at + t.len) ts xs)
    ∙ ap (λ es. es ++ map (shifted_error n) (errors_by_step (at + t.len) ts xs))
    (shifted_faults n at t.faults)
    ∙ sym (map-append (shifted_error n) (errors_at at t.faults) (errors_by_step (at + t.len) ts xs))

pub shifted_part : (d : Division) (n : ℕ) (p : List LexedToken)
    → errors_by_step n p (woven_child d n p)
    ≡ map (shifted_error n) (errors_by_step 0 p (woven_child d 0 p))
shifted_part d n p = let e : n ≡ 0 + n = omega arith in ap (errors_by_step n p) (shift_child d n p)
    ∙ ap (λ m. errors_by_step m p (map (shifted_step n) (woven_child d 0 p))) e
    ∙ shifted_by_step n 0 p (woven_child d 0 p)

-- steps whose errors are each at the start of a token have each at the start of the next token
inner_covers : (at : ℕ) (ts : List LexedToken) (xs : List StrStep) → inner at ts xs ≡ true
    → covers at ts xs ≡ true
inner_covers at ts [] h = h
inner_covers at ts (out.Enter kind ∷ xs) h = inner_covers at ts xs h
inner_covers at ts (out.Exit ∷ xs) h = inner_covers at ts xs h
inner_covers at [] (out.Error number offset ∷ xs) h = absurd (cc)
inner_covers at (t ∷ ts) (out.Error number offset ∷ xs) h =
    let hs = split (offset == at) (inner at (t ∷ ts) xs) h in
    rw hs.0 (inner_covers at (t ∷ ts) xs hs.1)
inner_covers at [] (out.Token kind start end ∷ xs) h = absurd (cc)
inner_covers at (t ∷ ts) (out.Token kind start end ∷ xs) h = inner_covers (at + t.len) ts xs h

-- parts of sound tokens are sound
tail_sound : (t : LexedToken) (ts : List LexedToken) → are_sound (t ∷ ts) ≡ true
    → are_sound ts ≡ true
tail_sound t ts s =
    (split (faults_within t.len t.faults) (are_sound ts)
    (split (nat_lt 0 t.len) (faults_within t.len t.faults && are_sound ts) s).1).1

sound_take : (m : ℕ) (ts : List LexedToken) → are_sound ts ≡ true → are_sound (take m ts) ≡ true
sound_take zero ts s = refl
sound_take (suc m) [] s = refl
sound_take (suc m) (t ∷ ts) s =
    let a = split (nat_lt 0 t.len) (faults_within t.len t.faults && are_sound ts) s in
    let b = split (faults_within t.len t.faults) (are_sound ts) a.1 in
    rw (a.0, b.0) (sound_take m ts b.1)

sound_drop : (m : ℕ) (ts : List LexedToken) → are_sound ts ≡ true → are_sound (drop m ts) ≡ true
sound_drop zero ts s = s
sound_drop (suc m) [] s = refl
sound_drop (suc m) (t ∷ ts) s = sound_drop m ts (tail_sound t ts s)

-- a child contains all of its tokens
child_inner : (d : Division) (at : ℕ) (t : LexedToken) (ts : List LexedToken)
    → inner at (t ∷ take (more_of lexed_role d t ts) ts)
    (woven_child d at (t ∷ take (more_of lexed_role d t ts) ts)) ≡ true
child_inner d at t ts = by (is_trivia_kind t.kind) refl
  where
    by : (b : Bool) → is_trivia_kind t.kind ≡ b
        → inner at (t ∷ take (more_of lexed_role d t ts) ts)
        (woven_child d at (t ∷ take (more_of lexed_role d t ts) ts)) ≡ true
    by true is =
        let none : more_of lexed_role d t ts ≡ 0 =
        ap (λ f. more d f (map lexed_role ts))
        (trivia_role (role t.kind) (role_trivia t.kind ∙ is)) in
        ap (λ m. inner at (t ∷ take m ts) (woven_child d at (t ∷ take m ts))) none
        ∙ inner_leaf d at t is
    by false is =
        inner_node d at t (take (more_of lexed_role d t ts) ts) is
        (fits_child d t (take (more_of lexed_role d t ts) ts) is
        (first_cut d (role t.kind) ts).trimmed)

-- the errors of one child, and of all children, are shifted from those at offset 0
own_errors : (d : Division) (at : ℕ) (p : List LexedToken) → inner 0 p (woven_child d 0 p) ≡ true
    → are_sound p ≡ true → errors_by_step at p (woven_child d at p)
    ≡ map (shifted_error at) (errors p (woven_child d 0 p))
own_errors d at p h s = shifted_part d at p
    ∙ ap (map (shifted_error at)) (sym (by_token_is_by_step 0 p (woven_child d 0 p)
    (inner_covers 0 p (woven_child d 0 p) h) s))

parts_errors : (n : ℕ) (d : Division) (at : ℕ) (ts : List LexedToken) → length ts ≤ n
    → are_sound ts ≡ true → errors_of_parts d at (parts lexed_role d ts)
    ≡ joined_errors d at (parts lexed_role d ts)
parts_errors n d at [] h s = refl
parts_errors zero d at (t ∷ ts) h s = absurd (omega arith)
parts_errors (suc n) d at (t ∷ ts) h s =
    let m = more_of lexed_role d t ts in
    let p = t ∷ take m ts in
    let tokens : parts lexed_role d (t ∷ ts) ≡ (t ∷ take m ts) ∷ parts lexed_role d (drop m ts) =
    first_part lexed_role d t ts in
    let rest = parts_errors n d (at + total_len (t ∷ take m ts)) (drop m ts) (let e =
    length-drop m ts in omega arith) (sound_drop m ts (tail_sound t ts s)) in
    let own = own_errors d at (t ∷ take m ts) (child_inner d 0 t ts) (sound_take (suc m) (t ∷ ts) s)
    in
    ap (errors_of_parts d at) tokens
    ∙ ap (λ es. es ++ errors_of_parts d (at + total_len (t ∷ take m ts))
    (parts lexed_role d (drop m ts))) own
    ∙ ap (λ es. map (shifted_error at) (errors (t ∷ take m ts) (woven_child d 0 (t ∷ take m ts)))
    ++ es) rest
    ∙ ap (joined_errors d at) (sym tokens)

-- the errors of a text are those of its children, joined
pub join_errors_law : (d : Division) (ts : List LexedToken) → are_sound ts ≡ true
    → errors ts (weave ts (plain d (kinds_without_trivia ts)))
    ≡ errors_by_step 0 ts (weave ts (plain d (kinds_without_trivia ts)))
    → errors ts (weave ts (plain d (kinds_without_trivia ts)))
    ≡ joined_errors d 0 (parts lexed_role d ts)
join_errors_law d ts sound walks =
    walks ∙ ap (errors_by_step 0 ts) (placed_law (length ts) d 0 ts (omega arith))
    ∙ errors_placed (length ts) d 0 ts (omega arith)
    ∙ parts_errors (length ts) d 0 ts (omega arith) sound

-- kinds without trivia contain no trivia
one_kept : (kind : ℕ) (b : Bool) → is_trivia_kind kind ≡ b → (kinds : List ℕ)
    → has_no_trivia (cond b [] (kind ∷ []) ++ kinds) ≡ has_no_trivia kinds
one_kept kind true is kinds = refl
one_kept kind false is kinds = rw is refl

pub has_no_trivia_kept : (ts : List LexedToken) → has_no_trivia (kinds_without_trivia ts) ≡ true
has_no_trivia_kept [] = refl
has_no_trivia_kept (t ∷ ts) = one_kept t.kind (is_trivia_kind t.kind) refl (kinds_without_trivia ts)
    ∙ has_no_trivia_kept ts
