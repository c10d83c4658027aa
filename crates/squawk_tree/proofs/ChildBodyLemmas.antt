-- The weave of the tokens of a child, token by token.
use Rattle.std.proofs.Common.{◌≡◌, ℕ, zero, suc, ◌+◌, Bool, true, false, not, cond, List, [], ◌∷◌, ◌++◌, take, drop, map, append_assoc, refl, ap, sym, ◌∙◌, arith}
use Rattle.std.proofs.lemmas.Bool.{and_parts}
use Rattle.std.proofs.lemmas.List.{take-append-drop, append-nil}
use Rattle.squawk_events.specs.Kinds.{is_trivia_kind}
use Rattle.squawk_events.specs.declared.steps.Step.{Step}
use Rattle.squawk_events.specs.declared.steps.Step.TheVariants.{Enter, Token, Exit, Error}
use Rattle.squawk_events.specs.declared.steps.StrStep.{StrStep}
use Rattle.squawk_events.specs.declared.steps.StrStep.TheVariants as out
use Rattle.squawk_kinds.specs.Role.{Role, role, Trivia, Semicolon, Terminator, Command, Open, Close, Other}
use Rattle.squawk_kinds.specs.declared.numbers.TheConstants.Number.{PAREN_EXPR}
use Rattle.squawk_lexed.specs.LexedText.{total_len}
use Rattle.squawk_lexed.specs.LexedToken.{LexedToken, lexed_role}
use Rattle.squawk_lexed.specs.Stored.{kinds_of}
use Rattle.squawk_lexed.specs.Weave.{kinds_without_trivia, is_empty, weave_from}
use Rattle.squawk_statements.specs.Children.{ends_statement, open_groups_after, is_single_token, trimmed_len}
use Rattle.squawk_statements.specs.Groups.{stays_open}
use Rattle.squawk_statements.specs.Kinds.{role_trivia}
use Rattle.squawk_statements.specs.Laws.{groups_left_open}
use Rattle.squawk_statements.specs.Plain.{body_steps, exits, kind_steps, groups_open_after, enters_before, exits_after}
use Rattle.squawk_statements.specs.declared.division.Division.{Division}
use Rattle.squawk_statements.specs.declared.division.Division.TheVariants.{Flat, Grouped}
use Rattle.squawk_tree.specs.ChildSteps.{exit_steps, nested_steps, steps_in_groups}
use Rattle.squawk_tree.specs.ParseOf.{token_steps}
use Rattle.squawk_tree.proofs.CutLemmas.{trivia_role, is_trimmed, is_trimmed_any, trimmed_cut}

-- ---- trivia

-- whether the first of these steps places trivia before it
abbrev places_trivia : List Step → Bool
places_trivia [] = false
places_trivia (Enter kind ∷ xs) = true
places_trivia (Token kind ∷ xs) = true
places_trivia (Exit ∷ xs) = false
places_trivia (Error number ∷ xs) = false

-- before such a step a trivia token comes next
trivia_first : (at : ℕ) (t : LexedToken) (ts : List LexedToken) (xs : List Step)
    → is_trivia_kind t.kind ≡ true → places_trivia xs ≡ true
    → weave_from at (t ∷ ts) xs
    ≡ out.Token t.kind at (at + t.len) ∷ weave_from (at + t.len) ts xs
trivia_first at t ts [] is h = absurd (cc)
trivia_first at t ts (Enter kind ∷ xs) is h = rw is refl
trivia_first at t ts (Token kind ∷ xs) is h = rw is refl
trivia_first at t ts (Exit ∷ xs) is h = absurd (cc)
trivia_first at t ts (Error number ∷ xs) is h = absurd (cc)

-- the kinds of a token and those after it, by whether it is trivia
kept_trivia : (t : LexedToken) (ts : List LexedToken) → is_trivia_kind t.kind ≡ true
    → kinds_without_trivia (t ∷ ts) ≡ kinds_without_trivia ts
kept_trivia t ts is = rw is refl

pub kept_other : (t : LexedToken) (ts : List LexedToken) → is_trivia_kind t.kind ≡ false
    → kinds_without_trivia (t ∷ ts) ≡ t.kind ∷ kinds_without_trivia ts
kept_other t ts is = rw is refl

-- where no kind is left, all tokens are trivia
kept_none : (t : LexedToken) (ts : List LexedToken) → kinds_without_trivia (t ∷ ts) ≡ []
    → (is_trivia_kind t.kind ≡ true) × (kinds_without_trivia ts ≡ [])
kept_none t ts none = by (is_trivia_kind t.kind) refl
  where
    by : (b : Bool) → is_trivia_kind t.kind ≡ b
        → (is_trivia_kind t.kind ≡ true) × (kinds_without_trivia ts ≡ [])
    by true is = (is, sym (kept_trivia t ts is) ∙ none)
    by false is =
        let some : t.kind ∷ kinds_without_trivia ts ≡ [] = sym (kept_other t ts is) ∙ none in
        absurd (cc)

-- ---- kinds that do not end the statement

-- what holds where a statement stays open after its first token: that token does not end it
open_parts : (d : Division) (n : ℕ) (t : LexedToken) (ts : List LexedToken)
    → stays_open d n (kinds_of (t ∷ ts)) ≡ true
    → (ends_statement d n (role t.kind) ≡ false)
    × (stays_open d (open_groups_after n (role t.kind)) (kinds_of ts) ≡ true)
open_parts d n t ts h = by (ends_statement d n (role t.kind)) refl
    (and_parts (not (ends_statement d n (role t.kind)))
    (stays_open d (open_groups_after n (role t.kind)) (kinds_of ts)) h)
  where
    by : (b : Bool) → ends_statement d n (role t.kind) ≡ b
        → (not (ends_statement d n (role t.kind)) ≡ true)
        × (stays_open d (open_groups_after n (role t.kind)) (kinds_of ts) ≡ true)
        → (ends_statement d n (role t.kind) ≡ false)
        × (stays_open d (open_groups_after n (role t.kind)) (kinds_of ts) ≡ true)
    by true is parts = absurd (let no : false ≡ true = rw is at parts.0 in cc)
    by false is parts = (is, parts.1)

-- the steps of such a kind place trivia before them
kind_places : (d : Division) (n kind : ℕ) (f : Role) (xs : List Step)
    → ends_statement d n f ≡ false
    → places_trivia (cond (ends_statement d n f) (exits n ++ Token kind ∷ [])
    (enters_before f ++ Token kind ∷ exits_after n f) ++ xs) ≡ true
kind_places d n kind f xs stays = rw stays (by f)
  where
    by : (f : Role) → places_trivia ((enters_before f ++ Token kind ∷ exits_after n f) ++ xs)
        ≡ true
    by Trivia = refl
    by Semicolon = refl
    by Terminator = refl
    by Command = refl
    by Open = refl
    by Close = refl
    by Other = refl

-- and so do the steps of tokens the last of which is not trivia, where none ends the statement
body_places : (d : Division) (n : ℕ) (body tail : List LexedToken) (xs : List Step)
    → is_trimmed false body ≡ true → stays_open d n (kinds_of body) ≡ true
    → places_trivia (body_steps d n (kinds_without_trivia (body ++ tail)) ++ xs) ≡ true
body_places d n [] tail xs trimmed stays = absurd (cc)
body_places d n (t ∷ ts) tail xs trimmed stays =
    by (is_trivia_kind t.kind) refl (open_parts d n t ts stays) (body_places d n ts tail xs)
  where
    by : (b : Bool) → is_trivia_kind t.kind ≡ b
        → (ends_statement d n (role t.kind) ≡ false)
        × (stays_open d (open_groups_after n (role t.kind)) (kinds_of ts) ≡ true)
        → (is_trimmed false ts ≡ true → stays_open d n (kinds_of ts) ≡ true
        → places_trivia (body_steps d n (kinds_without_trivia (ts ++ tail)) ++ xs) ≡ true)
        → places_trivia (body_steps d n (kinds_without_trivia (t ∷ ts ++ tail)) ++ xs) ≡ true
    by true is parts rest =
        let f = trivia_role (role t.kind) (role_trivia t.kind ∙ is) in
        let left : is_trimmed false ts ≡ true = ap (λ b. is_trimmed (not b) ts) (sym is)
        ∙ trimmed in
        let more : stays_open d n (kinds_of ts) ≡ true =
        ap (λ f. stays_open d (open_groups_after n f) (kinds_of ts)) (sym f) ∙ parts.1 in
        ap (λ ks. places_trivia (body_steps d n ks ++ xs)) (kept_trivia t (ts ++ tail) is)
        ∙ rest left more
    by false is parts rest =
        let after = body_steps d (groups_open_after d n (role t.kind))
        (kinds_without_trivia (ts ++ tail)) in
        ap (λ ks. places_trivia (body_steps d n ks ++ xs)) (kept_other t (ts ++ tail) is)
        ∙ ap places_trivia (append_assoc (kind_steps d n t.kind) after xs)
        ∙ kind_places d n t.kind (role t.kind) (after ++ xs) parts.0

-- ---- the tokens of a body

-- appended to, a list is not empty
some_append : (xs : List Step) (y : Step) (ys : List Step) → is_empty (xs ++ y ∷ ys) ≡ false
some_append [] y ys = refl
some_append (x ∷ xs) y ys = refl

-- the weave of an `Enter` and of a `Token` before a token that is not trivia
pub enter_first : (at kind : ℕ) (t : LexedToken) (ts : List LexedToken) (xs : List Step)
    → is_trivia_kind t.kind ≡ false
    → weave_from at (t ∷ ts) (Enter kind ∷ xs) ≡ out.Enter kind ∷ weave_from at (t ∷ ts) xs
enter_first at kind t ts xs is = rw is refl

token_first : (at kind : ℕ) (t : LexedToken) (ts : List LexedToken) (xs : List Step)
    → is_trivia_kind t.kind ≡ false
    → weave_from at (t ∷ ts) (Token kind ∷ xs)
    ≡ out.Token kind at (at + t.len) ∷ weave_from (at + t.len) ts xs
token_first at kind t ts xs is = rw is refl

-- the weave of a token that is not trivia, and does not end the statement
kind_first : (d : Division) (n at : ℕ) (t : LexedToken) (ts : List LexedToken) (xs : List Step)
    → is_trivia_kind t.kind ≡ false → ends_statement d n (role t.kind) ≡ false
    → is_empty xs ≡ false
    → weave_from at (t ∷ ts) (kind_steps d n t.kind ++ xs)
    ≡ steps_in_groups n (role t.kind) (out.Token t.kind at (at + t.len))
    ++ weave_from (at + t.len) ts xs
kind_first d n at t ts [] is stays some = absurd (cc)
kind_first d n at t ts (x ∷ xs) is stays some = rw stays (by n (role t.kind))
  where
    by : (n : ℕ) (f : Role)
        → weave_from at (t ∷ ts) ((enters_before f ++ Token t.kind ∷ exits_after n f) ++ x ∷ xs)
        ≡ steps_in_groups n f (out.Token t.kind at (at + t.len))
        ++ weave_from (at + t.len) ts (x ∷ xs)
    by n Trivia = token_first at t.kind t ts (x ∷ xs) is
    by n Semicolon = token_first at t.kind t ts (x ∷ xs) is
    by n Terminator = token_first at t.kind t ts (x ∷ xs) is
    by n Command = token_first at t.kind t ts (x ∷ xs) is
    by n Open = enter_first at PAREN_EXPR t ts (Token t.kind ∷ x ∷ xs) is
        ∙ ap (λ ys. out.Enter PAREN_EXPR ∷ ys) (token_first at t.kind t ts (x ∷ xs) is)
    by zero Close = token_first at t.kind t ts (x ∷ xs) is
    by (suc n) Close = token_first at t.kind t ts (Exit ∷ x ∷ xs) is
    by n Other = token_first at t.kind t ts (x ∷ xs) is

-- the weave of a body: of tokens none of which ends the statement, and the last of which is not
-- trivia, before the tokens at which its groups end
pub body_woven : (d : Division) (n at : ℕ) (body tail : List LexedToken) (zs : List StrStep)
    → is_trimmed true body ≡ true → stays_open d n (kinds_of body) ≡ true
    → weave_from (at + total_len body) tail
    (body_steps d (groups_left_open n (map lexed_role body)) (kinds_without_trivia tail)
    ++ Exit ∷ []) ≡ exit_steps (groups_left_open n (map lexed_role body)) ++ zs
    → weave_from at (body ++ tail)
    (body_steps d n (kinds_without_trivia (body ++ tail)) ++ Exit ∷ [])
    ≡ nested_steps n at body ++ zs
body_woven d n at [] tail zs trimmed stays h =
    let none : at ≡ at + 0 = omega arith in
    ap (λ m. weave_from m tail (body_steps d n (kinds_without_trivia tail) ++ Exit ∷ [])) none ∙ h
body_woven d n at (t ∷ ts) tail zs trimmed stays h =
    by (is_trivia_kind t.kind) refl (open_parts d n t ts stays)
    (λ left more. body_woven d (open_groups_after n (role t.kind)) (at + t.len) ts tail zs left more
    (ap (λ m. weave_from m tail (body_steps d
    (groups_left_open (open_groups_after n (role t.kind)) (map lexed_role ts))
    (kinds_without_trivia tail) ++ Exit ∷ [])) sum ∙ h))
  where
    sum : at + t.len + total_len ts ≡ at + (t.len + total_len ts)
    sum = omega arith

    by : (b : Bool) → is_trivia_kind t.kind ≡ b
        → (ends_statement d n (role t.kind) ≡ false)
        × (stays_open d (open_groups_after n (role t.kind)) (kinds_of ts) ≡ true)
        → (is_trimmed true ts ≡ true
        → stays_open d (open_groups_after n (role t.kind)) (kinds_of ts) ≡ true
        → weave_from (at + t.len) (ts ++ tail) (body_steps d (open_groups_after n (role t.kind))
        (kinds_without_trivia (ts ++ tail)) ++ Exit ∷ [])
        ≡ nested_steps (open_groups_after n (role t.kind)) (at + t.len) ts ++ zs)
        → weave_from at (t ∷ ts ++ tail)
        (body_steps d n (kinds_without_trivia (t ∷ ts ++ tail)) ++ Exit ∷ [])
        ≡ nested_steps n at (t ∷ ts) ++ zs
    by true is parts rest =
        let f = trivia_role (role t.kind) (role_trivia t.kind ∙ is) in
        let left : is_trimmed false ts ≡ true = ap (λ b. is_trimmed (not b) ts) (sym is)
        ∙ trimmed in
        let more : stays_open d n (kinds_of ts) ≡ true =
        ap (λ f. stays_open d (open_groups_after n f) (kinds_of ts)) (sym f) ∙ parts.1 in
        let steps = body_steps d n (kinds_without_trivia (ts ++ tail)) ++ Exit ∷ [] in
        let then : weave_from (at + t.len) (ts ++ tail) steps ≡ nested_steps n (at + t.len) ts
        ++ zs = rw f at (rest (is_trimmed_any true ts left) parts.1) in
        ap (λ ks. weave_from at (t ∷ ts ++ tail) (body_steps d n ks ++ Exit ∷ []))
        (kept_trivia t (ts ++ tail) is)
        ∙ trivia_first at t (ts ++ tail) steps is (body_places d n ts tail (Exit ∷ []) left more)
        ∙ ap (λ ys. out.Token t.kind at (at + t.len) ∷ ys) then
        ∙ ap (λ f. (steps_in_groups n f (out.Token t.kind at (at + t.len))
        ++ nested_steps (open_groups_after n f) (at + t.len) ts) ++ zs) (sym f)
    by false is parts rest =
        let left : is_trimmed true ts ≡ true = ap (λ b. is_trimmed (not b) ts) (sym is)
        ∙ trimmed in
        let after = body_steps d (groups_open_after d n (role t.kind))
        (kinds_without_trivia (ts ++ tail)) in
        let same : groups_open_after d n (role t.kind) ≡ open_groups_after n (role t.kind) =
        ap (λ b. cond b 0 (open_groups_after n (role t.kind))) parts.0 in
        let then : weave_from (at + t.len) (ts ++ tail) (after ++ Exit ∷ [])
        ≡ nested_steps (open_groups_after n (role t.kind)) (at + t.len) ts ++ zs =
        ap (λ m. weave_from (at + t.len) (ts ++ tail)
        (body_steps d m (kinds_without_trivia (ts ++ tail)) ++ Exit ∷ [])) same
        ∙ rest left parts.1 in
        let here = steps_in_groups n (role t.kind) (out.Token t.kind at (at + t.len)) in
        ap (λ ks. weave_from at (t ∷ ts ++ tail) (body_steps d n ks ++ Exit ∷ []))
        (kept_other t (ts ++ tail) is)
        ∙ ap (weave_from at (t ∷ ts ++ tail))
        (append_assoc (kind_steps d n t.kind) after (Exit ∷ []))
        ∙ kind_first d n at t (ts ++ tail) (after ++ Exit ∷ []) is parts.0
        (some_append after Exit [])
        ∙ ap (λ ys. here ++ ys) then
        ∙ sym (append_assoc here (nested_steps (open_groups_after n (role t.kind)) (at + t.len) ts)
        zs)

-- ---- the end of a body

-- the weave of the ends of groups
exits_first : (n at : ℕ) (ts : List LexedToken) (x : Step) (xs : List Step)
    → weave_from at ts (exits n ++ x ∷ xs) ≡ exit_steps n ++ weave_from at ts (x ∷ xs)
exits_first zero at ts x xs = refl
exits_first (suc zero) at ts x xs = refl
exits_first (suc (suc n)) at ts x xs =
    ap (λ ys. out.Exit ∷ ys) (exits_first (suc n) at ts x xs)

-- at the end of an open statement its groups end
pub open_end : (d : Division) (n at : ℕ)
    → weave_from at [] (body_steps d n (kinds_without_trivia []) ++ Exit ∷ [])
    ≡ exit_steps n ++ out.Exit ∷ []
open_end d n at = exits_first n at [] Exit []

-- the weave of trivia and the last token of a child
last_woven : (at : ℕ) (ws : List LexedToken) (e : LexedToken) → kinds_without_trivia ws ≡ []
    → is_trivia_kind e.kind ≡ false
    → weave_from at (ws ++ e ∷ []) (Token e.kind ∷ Exit ∷ [])
    ≡ token_steps at (ws ++ e ∷ []) ++ out.Exit ∷ []
last_woven at [] e none is = rw is refl
last_woven at (w ∷ ws) e none is =
    let parts = kept_none w ws none in
    trivia_first at w (ws ++ e ∷ []) (Token e.kind ∷ Exit ∷ []) parts.0 refl
    ∙ ap (λ ys. out.Token w.kind at (at + w.len) ∷ ys) (last_woven (at + w.len) ws e parts.1 is)

-- the kinds of trivia and one more token
kept_last : (ws : List LexedToken) (e : LexedToken) → kinds_without_trivia ws ≡ []
    → is_trivia_kind e.kind ≡ false → kinds_without_trivia (ws ++ e ∷ []) ≡ e.kind ∷ []
kept_last [] e none is = rw is refl
kept_last (w ∷ ws) e none is =
    let parts = kept_none w ws none in
    kept_trivia w (ws ++ e ∷ []) parts.0 ∙ kept_last ws e parts.1 is

-- appended lists
drop_nil : (n : ℕ) (x : Step) (ys : List Step)
    → ((exits n ++ x ∷ []) ++ []) ++ ys ≡ exits n ++ x ∷ ys
drop_nil zero x ys = refl
drop_nil (suc n) x ys = ap (λ zs. Exit ∷ zs) (drop_nil n x ys)

-- a token that ends a statement is not trivia
pub ends_not_trivia : (d : Division) (n : ℕ) (e : LexedToken)
    → ends_statement d n (role e.kind) ≡ true → is_trivia_kind e.kind ≡ false
ends_not_trivia d n e ends = by (is_trivia_kind e.kind) refl
  where
    by : (b : Bool) → is_trivia_kind e.kind ≡ b → is_trivia_kind e.kind ≡ false
    by true is =
        let f = trivia_role (role e.kind) (role_trivia e.kind ∙ is) in
        absurd (let no : false ≡ true = rw f at ends in cc)
    by false is = is

-- at the end of a closed statement its groups end, then come trivia and the token that ends it
pub closed_end : (d : Division) (n at : ℕ) (ws : List LexedToken) (e : LexedToken)
    → kinds_without_trivia ws ≡ [] → ends_statement d n (role e.kind) ≡ true
    → weave_from at (ws ++ e ∷ [])
    (body_steps d n (kinds_without_trivia (ws ++ e ∷ [])) ++ Exit ∷ [])
    ≡ exit_steps n ++ (token_steps at (ws ++ e ∷ []) ++ out.Exit ∷ [])
closed_end d n at ws e none ends =
    let is = ends_not_trivia d n e ends in
    let steps : body_steps d n (e.kind ∷ []) ++ Exit ∷ []
    ≡ exits n ++ Token e.kind ∷ Exit ∷ [] = rw ends (drop_nil n (Token e.kind) (Exit ∷ [])) in
    ap (λ ks. weave_from at (ws ++ e ∷ []) (body_steps d n ks ++ Exit ∷ []))
    (kept_last ws e none is)
    ∙ ap (weave_from at (ws ++ e ∷ [])) steps
    ∙ exits_first n at (ws ++ e ∷ []) (Token e.kind) (Exit ∷ [])
    ∙ ap (λ ys. exit_steps n ++ ys) (last_woven at ws e none is)

-- ---- a child that is one token

-- the steps of such a token
alone : (d : Division) (kind : ℕ) (f : Role) → is_single_token f ≡ true
    → cond (ends_statement d 0 f) (exits 0 ++ Token kind ∷ [])
    (enters_before f ++ Token kind ∷ exits_after 0 f)
    ++ exits (groups_open_after d 0 f) ≡ Token kind ∷ []
alone d kind Trivia h = absurd (cc)
alone Flat kind Semicolon h = refl
alone Grouped kind Semicolon h = refl
alone d kind Terminator h = refl
alone d kind Command h = refl
alone d kind Open h = absurd (cc)
alone d kind Close h = absurd (cc)
alone d kind Other h = absurd (cc)

pub alone_woven : (d : Division) (at : ℕ) (t : LexedToken) → is_trivia_kind t.kind ≡ false
    → is_single_token (role t.kind) ≡ true
    → weave_from at (t ∷ []) (body_steps d 0 (kinds_without_trivia (t ∷ [])) ++ Exit ∷ [])
    ≡ token_steps at (t ∷ []) ++ out.Exit ∷ []
alone_woven d at t is single =
    ap (λ ks. weave_from at (t ∷ []) (body_steps d 0 ks ++ Exit ∷ [])) (kept_other t [] is)
    ∙ ap (λ xs. weave_from at (t ∷ []) (xs ++ Exit ∷ [])) (alone d t.kind (role t.kind) single)
    ∙ last_woven at [] t refl is

-- ---- parts of a list in which no token ends the statement

-- the statement stays open in a prefix
pub open_prefix : (d : Division) (n : ℕ) (xs ys : List LexedToken)
    → stays_open d n (kinds_of (xs ++ ys)) ≡ true → stays_open d n (kinds_of xs) ≡ true
open_prefix d n [] ys h = refl
open_prefix d n (x ∷ xs) ys h =
    let parts = open_parts d n x (xs ++ ys) h in
    let rest = open_prefix d (open_groups_after n (role x.kind)) xs ys parts.1 in
    rw (parts.0, rest) refl

-- trivia leave the groups as they are
groups_past_trivia : (n : ℕ) (xs ws : List LexedToken) → kinds_without_trivia ws ≡ []
    → groups_left_open n (map lexed_role (xs ++ ws)) ≡ groups_left_open n (map lexed_role xs)
groups_past_trivia n (x ∷ xs) ws none =
    groups_past_trivia (open_groups_after n (role x.kind)) xs ws none
groups_past_trivia n [] [] none = refl
groups_past_trivia n [] (w ∷ ws) none =
    let parts = kept_none w ws none in
    let f = trivia_role (role w.kind) (role_trivia w.kind ∙ parts.0) in
    ap (λ f. groups_left_open (open_groups_after n f) (map lexed_role ws)) f
    ∙ groups_past_trivia n [] ws parts.1

-- the weave of an open statement
pub open_woven : (d : Division) (at : ℕ) (body : List LexedToken) → is_trimmed true body ≡ true
    → stays_open d 0 (kinds_of body) ≡ true
    → weave_from at body (body_steps d 0 (kinds_without_trivia body) ++ Exit ∷ [])
    ≡ nested_steps 0 at body ++ out.Exit ∷ []
open_woven d at body trimmed stays =
    ap (λ ts. weave_from at ts (body_steps d 0 (kinds_without_trivia ts) ++ Exit ∷ []))
    (sym (append-nil body))
    ∙ body_woven d 0 at body [] (out.Exit ∷ []) trimmed stays
    (open_end d (groups_left_open 0 (map lexed_role body)) (at + total_len body))

-- the weave of a closed statement: of the tokens before the one that ends it, and of that one
pub closed_woven : (d : Division) (at : ℕ) (inner : List LexedToken) (e : LexedToken)
    → stays_open d 0 (kinds_of inner) ≡ true
    → ends_statement d (groups_left_open 0 (map lexed_role inner)) (role e.kind) ≡ true
    → let n = trimmed_len (map lexed_role inner) in
    weave_from at (inner ++ e ∷ [])
    (body_steps d 0 (kinds_without_trivia (inner ++ e ∷ [])) ++ Exit ∷ [])
    ≡ nested_steps 0 at (take n inner)
    ++ (token_steps (at + total_len (take n inner)) (drop n inner ++ e ∷ []) ++ out.Exit ∷ [])
closed_woven d at inner e stays ends =
    let n = trimmed_len (map lexed_role inner) in
    let cut = trimmed_cut inner in
    let body = take n inner in
    let ws = drop n inner in
    let split : body ++ ws ≡ inner = take-append-drop n inner in
    let prefix = open_prefix d 0 body ws (ap (λ ts. stays_open d 0 (kinds_of ts)) split ∙ stays)
    in
    let groups : groups_left_open 0 (map lexed_role inner)
    ≡ groups_left_open 0 (map lexed_role body) =
    ap (λ ts. groups_left_open 0 (map lexed_role ts)) (sym split)
    ∙ groups_past_trivia 0 body ws cut.left in
    let ends_it = rw groups at ends in
    let whole : inner ++ e ∷ [] ≡ body ++ (ws ++ e ∷ []) =
    ap (λ ts. ts ++ e ∷ []) (sym split) ∙ append_assoc body ws (e ∷ []) in
    ap (λ ts. weave_from at ts (body_steps d 0 (kinds_without_trivia ts) ++ Exit ∷ [])) whole
    ∙ body_woven d 0 at body (ws ++ e ∷ [])
    (token_steps (at + total_len body) (ws ++ e ∷ []) ++ out.Exit ∷ []) cut.trimmed prefix
    (closed_end d (groups_left_open 0 (map lexed_role body)) (at + total_len body) ws e cut.left
    ends_it)
