-- The division of tokens cuts them where the division of their kinds without trivia does.
use Rattle.std.proofs.Common.{◌≡◌, ℕ, zero, suc, ◌==◌, Bool, true, false, not, cond, List, [], ◌∷◌, ◌++◌, length, take, drop, map, refl, ap, sym, ◌∙◌, arith}
use Rattle.std.proofs.lemmas.Bool.Decides.{nat_tests}
use Rattle.std.proofs.lemmas.List.{take_all, drop_all}
use Rattle.std.specs.Prelude.{Option, Some, None, option_map}
use Rattle.squawk_events.specs.Kinds.{is_trivia_kind}
use Rattle.squawk_kinds.specs.Role.{role}
use Rattle.squawk_statements.specs.Kinds.{role_trivia}
use Rattle.squawk_kinds.specs.Role.{Role, is_trivia, Trivia, Semicolon, Terminator, Command, Open, Close, Other}
use Rattle.squawk_lexed.specs.Weave.{kinds_without_trivia}
use Rattle.squawk_lexed.specs.LexedToken.{LexedToken, lexed_role}
use Rattle.squawk_statements.specs.Children.{ends_statement, open_groups_after, statement_end, trimmed_len}
use Rattle.squawk_tree.proofs.FirstPart.{rest_len, more}
use Rattle.squawk_statements.specs.declared.division.Division.{Division}

-- the role of trivia
pub trivia_role : (f : Role) → is_trivia f ≡ true → f ≡ Trivia
trivia_role Trivia h = refl
trivia_role Semicolon h = absurd (cc)
trivia_role Terminator h = absurd (cc)
trivia_role Command h = absurd (cc)
trivia_role Open h = absurd (cc)
trivia_role Close h = absurd (cc)
trivia_role Other h = absurd (cc)

-- whether the last of these tokens is not trivia; b for no tokens
abbrev pub is_trimmed : Bool → List LexedToken → Bool
is_trimmed b [] = b
is_trimmed b (t ∷ ts) = is_trimmed (not (is_trivia_kind t.kind)) ts

-- a list whose last token is not trivia is trimmed for any b
pub is_trimmed_any : (b : Bool) (ts : List LexedToken) → is_trimmed false ts ≡ true
    → is_trimmed b ts ≡ true
is_trimmed_any b [] h = absurd (cc)
is_trimmed_any b (t ∷ ts) h = h

-- the first m kinds are those of the first n tokens without trivia, and so are the others; the last
-- of these n tokens, if there is one, is not trivia
pub record Cut (m n : ℕ) (kinds : List ℕ) (ts : List LexedToken) : Type 0 where
  pub prefix : take m kinds ≡ kinds_without_trivia (take n ts)
  pub left : drop m kinds ≡ kinds_without_trivia (drop n ts)
  pub trimmed : is_trimmed true (take n ts) ≡ true

-- the same where there is at least one such token
pub record ClosedCut (m n : ℕ) (kinds : List ℕ) (ts : List LexedToken) : Type 0 where
  pub prefix : take m kinds ≡ kinds_without_trivia (take n ts)
  pub left : drop m kinds ≡ kinds_without_trivia (drop n ts)
  pub trimmed : is_trimmed false (take n ts) ≡ true

-- two statement ends, in kinds and in tokens, are at the same token
abbrev pub SameCut : Option ℕ → Option ℕ → List ℕ → List LexedToken → Type 0
SameCut None None kinds ts = Unit {0}
SameCut None (Some n) kinds ts = ⊥
SameCut (Some m) None kinds ts = ⊥
SameCut (Some m) (Some n) kinds ts = ClosedCut m n kinds ts

-- one token more before both lists keeps the ends the same: a trivia token, any other token
past_trivia : (a b : Option ℕ) (kinds : List ℕ) (t : LexedToken) (ts : List LexedToken)
    → is_trivia_kind t.kind ≡ true → SameCut a b kinds ts
    → SameCut a (option_map suc b) kinds (t ∷ ts)
past_trivia None None kinds t ts is h = tt
past_trivia None (Some n) kinds t ts is h = h
past_trivia (Some m) None kinds t ts is h = h
past_trivia (Some m) (Some n) kinds t ts is h =
    record {
      prefix = rw is h.prefix;
      left = h.left;
      trimmed =
          ap (λ b. is_trimmed (not b) (take n ts)) is ∙ h.trimmed;
    }

past_kind : (a b : Option ℕ) (kinds : List ℕ) (t : LexedToken) (ts : List LexedToken)
    → is_trivia_kind t.kind ≡ false → SameCut a b kinds ts
    → SameCut (option_map suc a) (option_map suc b) (t.kind ∷ kinds) (t ∷ ts)
past_kind None None kinds t ts is h = tt
past_kind None (Some n) kinds t ts is h = h
past_kind (Some m) None kinds t ts is h = h
past_kind (Some m) (Some n) kinds t ts is h =
    record {
      prefix = rw is (ap (λ ks. t.kind ∷ ks) h.prefix);
      left = h.left;
      trimmed =
          ap (λ b. is_trimmed (not b) (take n ts)) is ∙ is_trimmed_any true (take n ts) h.trimmed;
    }

-- a statement of tokens ends at the same token as that of their kinds without trivia
pub statement_end_cut : (d : Division) (g : ℕ) (ts : List LexedToken)
    → SameCut (statement_end d g (map role (kinds_without_trivia ts)))
    (statement_end d g (map lexed_role ts)) (kinds_without_trivia ts) ts
statement_end_cut d g [] = tt
statement_end_cut d g (t ∷ ts) =
    by (is_trivia_kind t.kind) (ends_statement d g (role t.kind)) refl refl
    (statement_end_cut d g ts)
    (statement_end_cut d (open_groups_after g (role t.kind)) ts)
  where
    by : (b e : Bool) → is_trivia_kind t.kind ≡ b → ends_statement d g (role t.kind) ≡ e
        → SameCut (statement_end d g (map role (kinds_without_trivia ts)))
        (statement_end d g (map lexed_role ts)) (kinds_without_trivia ts) ts
        → SameCut (statement_end d (open_groups_after g (role t.kind))
        (map role (kinds_without_trivia ts)))
        (statement_end d (open_groups_after g (role t.kind)) (map lexed_role ts))
        (kinds_without_trivia ts) ts
        → SameCut (statement_end d g (map role (kinds_without_trivia (t ∷ ts))))
        (statement_end d g (map lexed_role (t ∷ ts))) (kinds_without_trivia (t ∷ ts)) (t ∷ ts)
    by true e is end same after = rw (
      is,
      trivia_role (role t.kind) (role_trivia t.kind
          ∙ is),
    ) (past_trivia (statement_end d g (map role (kinds_without_trivia ts)))
        (statement_end d g (map lexed_role ts)) (kinds_without_trivia ts) t ts is same)
    by false true is end same after = rw (is, end) record {
      prefix = rw is refl;
      left = refl;
      trimmed =
          rw is refl;
    }
    by false false is end same after =
        rw (is, end) (past_kind (statement_end d (open_groups_after g (role t.kind))
        (map role (kinds_without_trivia ts)))
        (statement_end d (open_groups_after g (role t.kind)) (map lexed_role ts))
        (kinds_without_trivia ts) t ts is after)

-- a successor is not 0
pub not_zero : (n : ℕ) → (suc n == 0) ≡ false
not_zero n = grind (arith, nat_tests)

-- kinds without trivia have no trivia at their end
trimmed_kinds : (ts : List LexedToken) → trimmed_len (map role (kinds_without_trivia ts))
    ≡ length (kinds_without_trivia ts)
trimmed_kinds [] = refl
trimmed_kinds (t ∷ ts) = by (is_trivia_kind t.kind) refl (trimmed_kinds ts)
  where
    by : (b : Bool) → is_trivia_kind t.kind ≡ b
        → trimmed_len (map role (kinds_without_trivia ts)) ≡ length (kinds_without_trivia ts)
        → trimmed_len (map role (cond b [] (t.kind ∷ []) ++ kinds_without_trivia ts))
        ≡ length (cond b [] (t.kind ∷ []) ++ kinds_without_trivia ts)
    by true is rest = rest
    by false is rest = rw (role_trivia t.kind ∙ is) (ap suc rest)

-- the first n tokens end with one that is not trivia, and only trivia follow them
pub record TrimmedCut (n : ℕ) (ts : List LexedToken) : Type 0 where
  pub prefix : kinds_without_trivia (take n ts) ≡ kinds_without_trivia ts
  pub left : kinds_without_trivia (drop n ts) ≡ []
  pub trimmed : is_trimmed true (take n ts) ≡ true

-- where a trimmed length is not 0, the last of these tokens is not trivia
trimmed_nonempty : (n : ℕ) (ts : List LexedToken) → is_trimmed true (take (suc n) ts) ≡ true
    → kinds_without_trivia (drop (suc n) ts) ≡ [] → trimmed_len (map lexed_role ts) ≡ suc n
    → is_trimmed false (take (suc n) ts) ≡ true
trimmed_nonempty n [] h left e = absurd (omega arith)
trimmed_nonempty n (t ∷ ts) h left e = h

-- the trimmed length cuts off the trivia at the end, and nothing else
pub trimmed_cut : (ts : List LexedToken) → TrimmedCut (trimmed_len (map lexed_role ts)) ts
trimmed_cut [] = record { prefix = refl; left = refl; trimmed = refl }
trimmed_cut (t ∷ ts) =
    by (is_trivia_kind t.kind) (trimmed_len (map lexed_role ts)) refl refl (trimmed_cut ts)
  where
    by : (b : Bool) (n : ℕ) → is_trivia_kind t.kind ≡ b → trimmed_len (map lexed_role ts) ≡ n
        → TrimmedCut (trimmed_len (map lexed_role ts)) ts
        → TrimmedCut (trimmed_len (map lexed_role (t ∷ ts))) (t ∷ ts)
    by true zero is size rest =
        let same = rw size at rest in
        rw (role_trivia t.kind ∙ is, size) record {
          prefix = rw is same.prefix;
          left =
              rw is same.left;
          trimmed = refl;
        }
    by true (suc n) is size rest =
        let same = rw size at rest in
        rw (role_trivia t.kind ∙ is, size, not_zero n) record {
          prefix = rw is same.prefix;
          left =
              same.left;
          trimmed = ap (λ b. is_trimmed (not b) (take (suc n) ts)) is
              ∙ trimmed_nonempty n ts same.trimmed same.left size;
        }
    by false n is size rest =
        rw (role_trivia t.kind ∙ is) record {
          prefix =
              rw is (ap (λ ks. t.kind ∷ ks) rest.prefix);
          left = rest.left;
          trimmed =
              ap (λ b. is_trimmed (not b) (take (trimmed_len (map lexed_role ts)) ts)) is
              ∙ rest.trimmed;
        }

-- the tokens of a statement, and their kinds without trivia
statement_cut : (a b : Option ℕ) (ts : List LexedToken) → SameCut a b (kinds_without_trivia ts) ts
    → Cut (rest_len a (map role (kinds_without_trivia ts)))
    (rest_len b (map lexed_role ts)) (kinds_without_trivia ts) ts
statement_cut None None ts h =
    let s = trimmed_cut ts in
    let all = trimmed_kinds ts in
    record {
      prefix = ap (λ m. take m (kinds_without_trivia ts)) all
          ∙ take_all (length (kinds_without_trivia ts)) (kinds_without_trivia ts) (omega arith)
          ∙ sym s.prefix;
      left = ap (λ m. drop m (kinds_without_trivia ts)) all
          ∙ drop_all (length (kinds_without_trivia ts)) (kinds_without_trivia ts) (omega arith)
          ∙ sym s.left;
      trimmed = s.trimmed;
    }
statement_cut None (Some n) ts h = absurd h
statement_cut (Some m) None ts h = absurd h
statement_cut (Some m) (Some n) ts h = record {
  prefix = h.prefix;
  left = h.left;
  trimmed =
      is_trimmed_any true (take n ts) h.trimmed;
}

-- the tokens of the first child, and their kinds without trivia
pub first_cut : (d : Division) (f : Role) (ts : List LexedToken)
    → Cut (more d f (map role (kinds_without_trivia ts)))
    (more d f (map lexed_role ts)) (kinds_without_trivia ts) ts
first_cut d Trivia ts = record { prefix = refl; left = refl; trimmed = refl }
first_cut d Semicolon ts = record { prefix = refl; left = refl; trimmed = refl }
first_cut d Terminator ts = record { prefix = refl; left = refl; trimmed = refl }
first_cut d Command ts = record { prefix = refl; left = refl; trimmed = refl }
first_cut d Open ts =
    statement_cut (statement_end d 1 (map role (kinds_without_trivia ts)))
    (statement_end d 1 (map lexed_role ts)) ts (statement_end_cut d 1 ts)
first_cut d Close ts =
    statement_cut (statement_end d 0 (map role (kinds_without_trivia ts)))
    (statement_end d 0 (map lexed_role ts)) ts (statement_end_cut d 0 ts)
first_cut d Other ts =
    statement_cut (statement_end d 0 (map role (kinds_without_trivia ts)))
    (statement_end d 0 (map lexed_role ts)) ts (statement_end_cut d 0 ts)
