-- The tokens of a `SELECT` statement, woven one after another.
use Rattle.std.proofs.Common.{◌≡◌, ℕ, zero, suc, ◌+◌, ◌-◌, ◌<◌, ◌≤◌, Bool, true, false, cond, List, [], ◌∷◌, ◌++◌, length, take, drop, get_or, slice_range, append_assoc, refl, ap, sym, ◌∙◌, arith}
use Rattle.std.proofs.Math.Seq.{take-add}
use Rattle.std.proofs.lemmas.List.{append-nil, drop-drop, get_or_default}
use Rattle.std.specs.Prelude.{Option, Some, None}
use Rattle.squawk_events.specs.Kinds.{is_trivia_kind}
use Rattle.squawk_events.specs.declared.steps.Step.{Step}
use Rattle.squawk_events.specs.declared.steps.Step.TheVariants.{Enter, Token, Exit, Error}
use Rattle.squawk_events.specs.declared.steps.StrStep.{StrStep}
use Rattle.squawk_events.specs.declared.steps.StrStep.TheVariants as out
use Rattle.squawk_kinds.specs.Role.{Role, role, Trivia, Semicolon, Terminator, Command, Open, Close, Other}
use Rattle.squawk_kinds.specs.declared.numbers.TheConstants.Number as kind
use Rattle.squawk_lexed.specs.LexedText.{token_start, total_len}
use Rattle.squawk_lexed.specs.LexedToken.{LexedToken}
use Rattle.squawk_lexed.specs.Stored.{kinds_of}
use Rattle.squawk_lexed.specs.Weave.{kinds_without_trivia, weave_from}
use Rattle.squawk_statements.specs.Children.{ends_statement}
use Rattle.squawk_statements.specs.Plain.{exits, enters_before, exits_after, groups_open_after}
use Rattle.squawk_statements.specs.declared.division.Division.{Division}
use Rattle.squawk_tree.specs.ChildSteps.{exit_steps, steps_in_groups}
use Rattle.squawk_tree.specs.ParseOf.{token_steps}
use Rattle.squawk_tree.specs.Steps.{without_errors}
use Rattle.squawk_clauses.specs.Clauses.{clause_of, clause_end, clause_start, in_clause_after, select_kind_steps, select_steps}
use Rattle.squawk_clauses.specs.Depth.{open_nodes}
use Rattle.squawk_clauses.specs.SelectTokens.{clause_enter, select_left, select_token}

-- the woven steps that stay in the tree
abbrev woven : ℕ → List LexedToken → List Step → List StrStep
woven at ts xs = without_errors (weave_from at ts xs)

-- ---- trivia

-- whether the first of these steps places trivia before it
abbrev places_trivia : List Step → Bool
places_trivia [] = false
places_trivia (Enter kind ∷ xs) = true
places_trivia (Token kind ∷ xs) = true
places_trivia (Exit ∷ []) = true
places_trivia (Exit ∷ x ∷ xs) = false
places_trivia (Error number ∷ xs) = false

trivia_first : (at : ℕ) (t : LexedToken) (ts : List LexedToken) (xs : List Step)
    → is_trivia_kind t.kind ≡ true → places_trivia xs ≡ true
    → woven at (t ∷ ts) xs ≡ out.Token t.kind at (at + t.len) ∷ woven (at + t.len) ts xs
trivia_first at t ts [] is h = absurd (cc)
trivia_first at t ts (Enter kind ∷ xs) is h = rw is refl
trivia_first at t ts (Token kind ∷ xs) is h = rw is refl
trivia_first at t ts (Exit ∷ []) is h = rw is refl
trivia_first at t ts (Exit ∷ x ∷ xs) is h = absurd (cc)
trivia_first at t ts (Error number ∷ xs) is h = absurd (cc)

-- where no kind is left, all tokens are trivia
trivia_parts : (t : LexedToken) (ts : List LexedToken) → kinds_without_trivia (t ∷ ts) ≡ []
    → (is_trivia_kind t.kind ≡ true) × (kinds_without_trivia ts ≡ [])
trivia_parts t ts none = by (is_trivia_kind t.kind) refl none
  where
    by : (b : Bool) → is_trivia_kind t.kind ≡ b
        → cond b [] (t.kind ∷ []) ++ kinds_without_trivia ts ≡ []
        → (is_trivia_kind t.kind ≡ true) × (kinds_without_trivia ts ≡ [])
    by true is none = (is, none)
    by false is none = absurd (cc)

-- trivia before other tokens
trivia_woven : (at : ℕ) (ws ts : List LexedToken) (xs : List Step)
    → kinds_without_trivia ws ≡ [] → places_trivia xs ≡ true
    → woven at (ws ++ ts) xs ≡ token_steps at ws ++ woven (at + total_len ws) ts xs
trivia_woven at [] ts xs none h =
    ap (λ n. woven n ts xs) (let e : at ≡ at + 0 = omega arith in e)
trivia_woven at (w ∷ ws) ts xs none h =
    let parts = trivia_parts w ws none in
    trivia_first at w (ws ++ ts) xs parts.0 h
    ∙ ap (λ ys. out.Token w.kind at (at + w.len) ∷ ys)
    (trivia_woven (at + w.len) ws ts xs parts.1 h
    ∙ ap (λ n. token_steps (at + w.len) ws ++ woven n ts xs)
    (let e : at + w.len + total_len ws ≡ at + (w.len + total_len ws) = omega arith in e))

-- ---- a token that is not trivia

enter_first : (at kind : ℕ) (t : LexedToken) (ts : List LexedToken) (xs : List Step)
    → is_trivia_kind t.kind ≡ false
    → woven at (t ∷ ts) (Enter kind ∷ xs) ≡ out.Enter kind ∷ woven at (t ∷ ts) xs
enter_first at kind t ts xs is = rw is refl

token_first : (at : ℕ) (t : LexedToken) (ts : List LexedToken) (xs : List Step)
    → is_trivia_kind t.kind ≡ false
    → woven at (t ∷ ts) (Token t.kind ∷ xs)
    ≡ out.Token t.kind at (at + t.len) ∷ woven (at + t.len) ts xs
token_first at t ts xs is = rw is refl

-- the token with the start or the end of a group
group_first : (n at : ℕ) (f : Role) (t : LexedToken) (ts : List LexedToken) (z : Step)
    (zs : List Step) → is_trivia_kind t.kind ≡ false
    → woven at (t ∷ ts) ((enters_before f ++ Token t.kind ∷ exits_after n f) ++ z ∷ zs)
    ≡ steps_in_groups n f (out.Token t.kind at (at + t.len)) ++ woven (at + t.len) ts (z ∷ zs)
group_first n at Trivia t ts z zs is = token_first at t ts (z ∷ zs) is
group_first n at Semicolon t ts z zs is = token_first at t ts (z ∷ zs) is
group_first n at Terminator t ts z zs is = token_first at t ts (z ∷ zs) is
group_first n at Command t ts z zs is = token_first at t ts (z ∷ zs) is
group_first n at Open t ts z zs is =
    enter_first at kind.PAREN_EXPR t ts (Token t.kind ∷ z ∷ zs) is
    ∙ ap (λ ys. out.Enter kind.PAREN_EXPR ∷ ys) (token_first at t ts (z ∷ zs) is)
group_first zero at Close t ts z zs is = token_first at t ts (z ∷ zs) is
group_first (suc n) at Close t ts z zs is = token_first at t ts (Exit ∷ z ∷ zs) is
group_first n at Other t ts z zs is = token_first at t ts (z ∷ zs) is

group_places : (n kind : ℕ) (f : Role) (xs : List Step)
    → places_trivia ((enters_before f ++ Token kind ∷ exits_after n f) ++ xs) ≡ true
group_places n kind Trivia xs = refl
group_places n kind Semicolon xs = refl
group_places n kind Terminator xs = refl
group_places n kind Command xs = refl
group_places n kind Open xs = refl
group_places n kind Close xs = refl
group_places n kind Other xs = refl

-- ---- the ends of groups and of a clause

exits_first : (n at : ℕ) (ts : List LexedToken) (x : Step) (xs : List Step)
    → woven at ts (exits n ++ x ∷ xs) ≡ exit_steps n ++ woven at ts (x ∷ xs)
exits_first zero at ts x xs = refl
exits_first (suc zero) at ts x xs = refl
exits_first (suc (suc n)) at ts x xs = ap (λ ys. out.Exit ∷ ys) (exits_first (suc n) at ts x xs)

clause_first : (b : Bool) (at : ℕ) (ts : List LexedToken) (x : Step) (xs : List Step)
    → woven at ts (clause_end b ++ x ∷ xs) ≡ exit_steps (open_nodes b 0) ++ woven at ts (x ∷ xs)
clause_first true at ts x xs = refl
clause_first false at ts x xs = refl

ends_first : (n : ℕ) (b : Bool) (at : ℕ) (ts : List LexedToken) (x : Step) (xs : List Step)
    → woven at ts ((exits n ++ clause_end b) ++ x ∷ xs)
    ≡ (exit_steps n ++ exit_steps (open_nodes b 0)) ++ woven at ts (x ∷ xs)
ends_first n true at ts x xs =
    ap (woven at ts) (append_assoc (exits n) (Exit ∷ []) (x ∷ xs))
    ∙ exits_first n at ts Exit (x ∷ xs)
    ∙ sym (append_assoc (exit_steps n) (out.Exit ∷ []) (woven at ts (x ∷ xs)))
ends_first n false at ts x xs =
    ap (woven at ts) (append_assoc (exits n) [] (x ∷ xs)) ∙ exits_first n at ts x xs
    ∙ sym (append_assoc (exit_steps n) [] (woven at ts (x ∷ xs)))

-- ---- one more token, after trivia

-- a token that ends the statement
ending_woven : (n : ℕ) (b : Bool) (at : ℕ) (ws : List LexedToken) (t : LexedToken)
    (ts : List LexedToken) (xs : List Step) → kinds_without_trivia ws ≡ []
    → is_trivia_kind t.kind ≡ false
    → woven at (ws ++ t ∷ ts) ((exits n ++ clause_end b ++ Token t.kind ∷ []) ++ xs)
    ≡ (((exit_steps n ++ exit_steps (open_nodes b 0)) ++ token_steps at ws)
    ++ out.Token t.kind (at + total_len ws) (at + total_len ws + t.len) ∷ [])
    ++ woven (at + total_len ws + t.len) ts xs
ending_woven n b at ws t ts xs none is =
    let ends = exit_steps n ++ exit_steps (open_nodes b 0) in
    let trivia = token_steps at ws in
    let m = at + total_len ws in
    let token = out.Token t.kind m (m + t.len) in
    let rest = woven (m + t.len) ts xs in
    ap (woven at (ws ++ t ∷ ts)) (append_assoc (exits n ++ clause_end b) (Token t.kind ∷ []) xs)
    ∙ ends_first n b at (ws ++ t ∷ ts) (Token t.kind) xs
    ∙ ap (λ ys. ends ++ ys) (trivia_woven at ws (t ∷ ts) (Token t.kind ∷ xs) none refl
    ∙ ap (λ ys. trivia ++ ys) (token_first m t ts xs is))
    ∙ sym (append_assoc ends trivia (token ∷ rest))
    ∙ sym (append_assoc (ends ++ trivia) (token ∷ []) rest)

-- any other token, which may begin a clause
other_woven : (n : ℕ) (f : Role) (b : Bool) (next_clause : Option ℕ) (at : ℕ) (ws : List LexedToken)
    (t : LexedToken) (ts : List LexedToken) (z : Step) (zs : List Step)
    → kinds_without_trivia ws ≡ [] → is_trivia_kind t.kind ≡ false
    → woven at (ws ++ t ∷ ts) ((clause_start b next_clause
    ++ (enters_before f ++ Token t.kind ∷ exits_after n f)) ++ z ∷ zs)
    ≡ (clause_enter b next_clause (token_steps at ws)
    ++ steps_in_groups n f (out.Token t.kind (at + total_len ws) (at + total_len ws + t.len)))
    ++ woven (at + total_len ws + t.len) ts (z ∷ zs)
other_woven n f b None at ws t ts z zs none is =
    let own = (enters_before f ++ Token t.kind ∷ exits_after n f) ++ z ∷ zs in
    let trivia = token_steps at ws in
    let m = at + total_len ws in
    let group = steps_in_groups n f (out.Token t.kind m (m + t.len)) in
    trivia_woven at ws (t ∷ ts) own none (group_places n t.kind f (z ∷ zs))
    ∙ ap (λ ys. trivia ++ ys) (group_first n m f t ts z zs is)
    ∙ sym (append_assoc trivia group (woven (m + t.len) ts (z ∷ zs)))
other_woven n f b (Some node) at ws t ts z zs none is =
    let kinds = enters_before f ++ Token t.kind ∷ exits_after n f in
    let own = kinds ++ z ∷ zs in
    let trivia = token_steps at ws in
    let m = at + total_len ws in
    let group = steps_in_groups n f (out.Token t.kind m (m + t.len)) in
    let rest = woven (m + t.len) ts (z ∷ zs) in
    let before = exit_steps (open_nodes b 0) ++ trivia in
    ap (woven at (ws ++ t ∷ ts)) (append_assoc (clause_end b ++ Enter node ∷ []) kinds (z ∷ zs)
    ∙ append_assoc (clause_end b) (Enter node ∷ []) own)
    ∙ clause_first b at (ws ++ t ∷ ts) (Enter node) own
    ∙ ap (λ ys. exit_steps (open_nodes b 0) ++ ys)
    (trivia_woven at ws (t ∷ ts) (Enter node ∷ own) none refl
    ∙ ap (λ ys. trivia ++ ys) (enter_first m node t ts own is
    ∙ ap (λ ys. out.Enter node ∷ ys) (group_first n m f t ts z zs is)))
    ∙ sym (append_assoc (exit_steps (open_nodes b 0)) trivia (out.Enter node ∷ group ++ rest))
    ∙ sym (append_assoc before (out.Enter node ∷ []) (group ++ rest))
    ∙ sym (append_assoc (before ++ out.Enter node ∷ []) group rest)

-- a token of this kind
kind_woven : (d : Division) (n : ℕ) (b : Bool) (at : ℕ) (ws : List LexedToken) (t : LexedToken)
    (ts : List LexedToken) (z : Step) (zs : List Step) → kinds_without_trivia ws ≡ []
    → is_trivia_kind t.kind ≡ false
    → woven at (ws ++ t ∷ ts) (select_kind_steps d b n t.kind ++ z ∷ zs)
    ≡ select_token d b n t.kind (token_steps at ws)
    (out.Token t.kind (at + total_len ws) (at + total_len ws + t.len))
    ++ woven (at + total_len ws + t.len) ts (z ∷ zs)
kind_woven d n b at ws t ts z zs none is = by (ends_statement d n (role t.kind)) refl
  where
    by : (e : Bool) → ends_statement d n (role t.kind) ≡ e
        → woven at (ws ++ t ∷ ts) (select_kind_steps d b n t.kind ++ z ∷ zs)
        ≡ select_token d b n t.kind (token_steps at ws)
        (out.Token t.kind (at + total_len ws) (at + total_len ws + t.len))
        ++ woven (at + total_len ws + t.len) ts (z ∷ zs)
    by true ends = rw ends (ending_woven n b at ws t ts (z ∷ zs) none is)
    by false ends = rw ends
        (other_woven n (role t.kind) b (clause_of n t.kind) at ws t ts z zs none is)

-- the kinds of trivia and other tokens
kinds_past : (ws ts : List LexedToken) → kinds_without_trivia ws ≡ []
    → kinds_without_trivia (ws ++ ts) ≡ kinds_without_trivia ts
kinds_past [] ts none = refl
kinds_past (w ∷ ws) ts none =
    let parts = trivia_parts w ws none in
    rw parts.0 (kinds_past ws ts parts.1)

-- one more token of the statement
token_more : (d : Division) (n : ℕ) (b : Bool) (at : ℕ) (ws : List LexedToken) (t : LexedToken)
    (ts : List LexedToken) → kinds_without_trivia ws ≡ [] → is_trivia_kind t.kind ≡ false
    → woven at (ws ++ t ∷ ts)
    (select_steps d b n (kinds_without_trivia (ws ++ t ∷ ts)) ++ Exit ∷ [])
    ≡ select_token d b n t.kind (token_steps at ws)
    (out.Token t.kind (at + total_len ws) (at + total_len ws + t.len))
    ++ woven (at + total_len ws + t.len) ts (select_steps d (in_clause_after d b n t.kind)
    (groups_open_after d n (role t.kind)) (kinds_without_trivia ts) ++ Exit ∷ [])
token_more d n b at ws t ts none is =
    let after = select_steps d (in_clause_after d b n t.kind)
    (groups_open_after d n (role t.kind)) (kinds_without_trivia ts) in
    let kinds : kinds_without_trivia (ws ++ t ∷ ts) ≡ t.kind ∷ kinds_without_trivia ts =
    kinds_past ws (t ∷ ts) none ∙ rw is refl in
    ap (λ ks. woven at (ws ++ t ∷ ts) (select_steps d b n ks ++ Exit ∷ [])) kinds
    ∙ ap (woven at (ws ++ t ∷ ts)) (append_assoc (select_kind_steps d b n t.kind) after (Exit ∷ []))
    ∙ by after
  where
    by : (xs : List Step)
        → woven at (ws ++ t ∷ ts) (select_kind_steps d b n t.kind ++ (xs ++ Exit ∷ []))
        ≡ select_token d b n t.kind (token_steps at ws)
        (out.Token t.kind (at + total_len ws) (at + total_len ws + t.len))
        ++ woven (at + total_len ws + t.len) ts (xs ++ Exit ∷ [])
    by [] = kind_woven d n b at ws t ts Exit [] none is
    by (x ∷ xs) = kind_woven d n b at ws t ts x (xs ++ Exit ∷ []) none is

-- the end of the statement
end_woven : (d : Division) (n : ℕ) (b : Bool) (at : ℕ) (ws : List LexedToken)
    → kinds_without_trivia ws ≡ []
    → woven at ws (select_steps d b n (kinds_without_trivia ws) ++ Exit ∷ [])
    ≡ ((exit_steps n ++ exit_steps (open_nodes b 0)) ++ token_steps at ws) ++ out.Exit ∷ []
end_woven d n b at ws none =
    let ends = exit_steps n ++ exit_steps (open_nodes b 0) in
    let trivia = token_steps at ws in
    ap (λ ks. woven at ws (select_steps d b n ks ++ Exit ∷ [])) none
    ∙ ends_first n b at ws Exit []
    ∙ ap (λ ys. ends ++ ys) (ap (λ ts. woven at ts (Exit ∷ [])) (sym (append-nil ws))
    ∙ trivia_woven at ws [] (Exit ∷ []) none refl)
    ∙ sym (append_assoc ends trivia (out.Exit ∷ []))

-- ---- tokens by their index

-- the tokens from an index up to another, by a token between them
record SplitAt (ts : List LexedToken) (from i to : ℕ) : Type 0 where
  token : LexedToken
  whole : slice_range ts from to ≡ slice_range ts from i ++ token ∷ slice_range ts (i + 1) to
  longer : slice_range ts from (i + 1) ≡ slice_range ts from i ++ token ∷ []
  kind : get_or (kinds_of ts) i 0 ≡ token.kind
  start : token_start ts i ≡ token_start ts from + total_len (slice_range ts from i)
  end : token_start ts (i + 1) ≡ token_start ts i + token.len

record NextToken (i : ℕ) (ts : List LexedToken) : Type 0 where
  token : LexedToken
  left : drop i ts ≡ token ∷ drop (suc i) ts
  kind : get_or (kinds_of ts) i 0 ≡ token.kind
  end : token_start ts (suc i) ≡ token_start ts i + token.len

next_token : (i : ℕ) (ts : List LexedToken) → i < length ts → NextToken i ts
next_token i [] h = absurd (omega arith)
next_token zero (t ∷ ts) h = record { token = t; left = refl; kind = refl; end = omega arith }
next_token (suc i) (t ∷ ts) h =
    let next = next_token i ts (omega arith) in
    record {
      token = next.token;
      left = next.left;
      kind = next.kind;
      end = omega (arith, next.end);
    }

total_append : (xs ys : List LexedToken) → total_len (xs ++ ys) ≡ total_len xs + total_len ys
total_append [] ys = omega arith
total_append (x ∷ xs) ys = let rest = total_append xs ys in omega arith

-- the tokens from an index, by those up to another
parted : (ts : List LexedToken) (from i n : ℕ) → from ≤ i
    → take (i - from + n) (drop from ts) ≡ slice_range ts from i ++ take n (drop i ts)
parted ts from i n le =
    let place : from + (i - from) ≡ i = omega arith in
    take-add (i - from) n (drop from ts)
    ∙ ap (λ us. slice_range ts from i ++ take n us)
    (drop-drop (i - from) from ts ∙ ap (λ m. drop m ts) place)

split_at : (ts : List LexedToken) (from i to : ℕ) → from ≤ i → i < to → to ≤ length ts
    → SplitAt ts from i to
split_at ts from i to le lt within =
    let next = next_token i ts (omega arith) in
    let one : suc i ≡ i + 1 = omega arith in
    let others : drop i ts ≡ next.token ∷ drop (i + 1) ts =
    next.left ∙ ap (λ m. next.token ∷ drop m ts) one in
    let count : to - from ≡ i - from + suc (to - (i + 1)) = omega arith in
    let up : i + 1 - from ≡ i - from + suc 0 = omega arith in
    let place : i ≡ from + (i - from) = omega arith in
    record {
      token = next.token;
      whole = ap (λ m. take m (drop from ts)) count ∙ parted ts from i (suc (to - (i + 1))) le
          ∙ ap (λ us. slice_range ts from i ++ take (suc (to - (i + 1))) us) others;
      longer = ap (λ m. take m (drop from ts)) up ∙ parted ts from i (suc 0) le
          ∙ ap (λ us. slice_range ts from i ++ take (suc 0) us) others;
      kind = next.kind;
      start = ap (token_start ts) place ∙ ap total_len (take-add from (i - from) ts)
          ∙ total_append (take from ts) (take (i - from) (drop from ts));
      end = ap (token_start ts) (sym one) ∙ next.end;
    }

pub kinds_len : (ts : List LexedToken) → length (kinds_of ts) ≡ length ts
kinds_len [] = refl
kinds_len (t ∷ ts) = ap suc (kinds_len ts)

-- the kind that the code reads
kind_read : (ts : List LexedToken) (from i to : ℕ) (kinds : List ℕ) (k : ℕ)
    (at : SplitAt ts from i to) → i < to → to ≤ length ts → kinds ≡ kinds_of ts
    → k ≡ get_or kinds i k → k ≡ at.token.kind
kind_read ts from i to kinds k at lt within ks is =
    let size = kinds_len ts in
    (rw ks at is) ∙ get_or_default (kinds_of ts) i k 0 (omega arith) ∙ at.kind

kinds_appended : (xs ys : List LexedToken)
    → kinds_without_trivia (xs ++ ys) ≡ kinds_without_trivia xs ++ kinds_without_trivia ys
kinds_appended [] ys = refl
kinds_appended (x ∷ xs) ys = by (is_trivia_kind x.kind) (kinds_appended xs ys)
  where
    by : (b : Bool)
        → kinds_without_trivia (xs ++ ys) ≡ kinds_without_trivia xs ++ kinds_without_trivia ys
        → cond b [] (x.kind ∷ []) ++ kinds_without_trivia (xs ++ ys)
        ≡ (cond b [] (x.kind ∷ []) ++ kinds_without_trivia xs) ++ kinds_without_trivia ys
    by true h = h
    by false h = ap (λ ks. x.kind ∷ ks) h

-- before any token there is no trivia
pub none_pending : (ts : List LexedToken) (i : ℕ)
    → kinds_without_trivia (slice_range ts i i) ≡ []
none_pending ts i =
    ap (λ n. kinds_without_trivia (take n (drop i ts)))
    (let e : i - i ≡ 0 = omega arith in e)

-- one more trivia token
pub pending_more : (ts : List LexedToken) (from i to : ℕ) (kinds : List ℕ) (k : ℕ) → from ≤ i
    → i < to → to ≤ length ts → kinds ≡ kinds_of ts → k ≡ get_or kinds i k
    → is_trivia_kind k ≡ true → kinds_without_trivia (slice_range ts from i) ≡ []
    → kinds_without_trivia (slice_range ts from (i + 1)) ≡ []
pending_more ts from i to kinds k le lt within ks k_is is none =
    let at = split_at ts from i to le lt within in
    let trivia : is_trivia_kind at.token.kind ≡ true =
    ap is_trivia_kind (sym (kind_read ts from i to kinds k at lt within ks k_is)) ∙ is in
    ap kinds_without_trivia at.longer
    ∙ kinds_appended (slice_range ts from i) (at.token ∷ [])
    ∙ rw none (rw trivia refl)

-- one more token that is not trivia
pub select_more : (d : Division) (b b' : Bool) (n n' : ℕ) (ts : List LexedToken)
    (from i to : ℕ) (kinds : List ℕ) (k : ℕ) (before after start : List StrStep) → from ≤ i
    → i < to → to ≤ length ts → kinds ≡ kinds_of ts → k ≡ get_or kinds i k
    → is_trivia_kind k ≡ false → kinds_without_trivia (slice_range ts from i) ≡ []
    → after ≡ before ++ select_token d b n k
    (token_steps (token_start ts from) (slice_range ts from i))
    (out.Token (get_or (kinds_of ts) i 0) (token_start ts i) (token_start ts (i + 1)))
    → b' ≡ in_clause_after d b n k → n' ≡ groups_open_after d n (role k)
    → before ++ select_left d b n ts from to ≡ start
    → after ++ select_left d b' n' ts (i + 1) to ≡ start
select_more d b b' n n' ts from i to kinds k before after start le lt within ks k_is is none more
    b_is n_is so_far =
    let at = split_at ts from i to le lt within in
    let t = at.token in
    let ws = slice_range ts from i in
    let us = slice_range ts (i + 1) to in
    let kind_is = kind_read ts from i to kinds k at lt within ks k_is in
    let other : is_trivia_kind t.kind ≡ false = ap is_trivia_kind (sym kind_is) ∙ is in
    let begin = token_start ts from in
    let m = begin + total_len ws in
    let token = out.Token t.kind m (m + t.len) in
    let own = select_token d b n t.kind (token_steps begin ws) token in
    let left = woven (m + t.len) us (select_steps d (in_clause_after d b n t.kind)
    (groups_open_after d n (role t.kind)) (kinds_without_trivia us) ++ Exit ∷ []) in
    let here : after ≡ before ++ own = more
    ∙ ap (λ k. before ++ select_token d b n k (token_steps begin ws)
    (out.Token (get_or (kinds_of ts) i 0) (token_start ts i) (token_start ts (i + 1)))) kind_is
    ∙ ap (λ k. before ++ select_token d b n t.kind (token_steps begin ws)
    (out.Token k (token_start ts i) (token_start ts (i + 1)))) at.kind
    ∙ ap (λ e. before ++ select_token d b n t.kind (token_steps begin ws)
    (out.Token t.kind (token_start ts i) e)) at.end
    ∙ ap (λ e. before ++ select_token d b n t.kind (token_steps begin ws)
    (out.Token t.kind e (e + t.len))) at.start in
    let next : select_left d b' n' ts (i + 1) to ≡ left =
    ap (λ b. select_left d b n' ts (i + 1) to) (b_is ∙ ap (in_clause_after d b n) kind_is)
    ∙ ap (λ m. select_left d (in_clause_after d b n t.kind) m ts (i + 1) to) n_is
    ∙ ap (λ k. select_left d (in_clause_after d b n t.kind) (groups_open_after d n (role k)) ts
    (i + 1) to) kind_is
    ∙ ap (λ e. woven e us (select_steps d (in_clause_after d b n t.kind)
    (groups_open_after d n (role t.kind)) (kinds_without_trivia us) ++ Exit ∷ [])) (at.end
    ∙ ap (λ e. e + t.len) at.start) in
    let whole : select_left d b n ts from to ≡ own ++ left =
    ap (λ vs. woven begin vs (select_steps d b n (kinds_without_trivia vs) ++ Exit ∷ [])) at.whole
    ∙ token_more d n b begin ws t us none other in
    ap (λ ys. ys ++ select_left d b' n' ts (i + 1) to) here
    ∙ ap (λ ys. (before ++ own) ++ ys) next
    ∙ append_assoc before own left
    ∙ ap (λ ys. before ++ ys) (sym whole) ∙ so_far

-- the end of the node
pub select_end : (d : Division) (b : Bool) (n : ℕ) (ts : List LexedToken) (from i to : ℕ)
    (s0 s1 s2 s3 s4 start : List StrStep) → i ≡ to
    → kinds_without_trivia (slice_range ts from i) ≡ []
    → s1 ≡ s0 ++ exit_steps n → s2 ≡ s1 ++ exit_steps (open_nodes b 0)
    → s3 ≡ s2 ++ token_steps (token_start ts from) (slice_range ts from to)
    → s4 ≡ s3 ++ out.Exit ∷ [] → s0 ++ select_left d b n ts from to ≡ start → s4 ≡ start
select_end d b n ts from i to s0 s1 s2 s3 s4 start last none_left e1 e2 e3 e4 so_far =
    let trivia = token_steps (token_start ts from) (slice_range ts from to) in
    let ends = exit_steps n ++ exit_steps (open_nodes b 0) in
    let none : kinds_without_trivia (slice_range ts from to) ≡ [] =
    ap (λ m. kinds_without_trivia (slice_range ts from m)) (sym last) ∙ none_left in
    rw (e4, e3, e2, e1)
    (ap (λ ys. (ys ++ trivia) ++ out.Exit ∷ [])
    (append_assoc s0 (exit_steps n) (exit_steps (open_nodes b 0)))
    ∙ ap (λ ys. ys ++ out.Exit ∷ []) (append_assoc s0 ends trivia)
    ∙ append_assoc s0 (ends ++ trivia) (out.Exit ∷ [])
    ∙ ap (λ ys. s0 ++ ys)
    (sym (end_woven d n b (token_start ts from) (slice_range ts from to) none)))
    ∙ so_far
