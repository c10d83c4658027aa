-- Reading a statement token by token finds its end, and FROM STDIN in it.
use Rattle.std.proofs.Common.{◌≡◌, ℕ, zero, suc, ◌+◌, ◌-◌, ◌<◌, Bool, true, false, List, [], ◌∷◌, ◌++◌, length, map, take, get_or, Option, Some, None, option_map, length-append, refl, sym, ap, subst, ◌∙◌, ◌&&◌, ◌||◌, eqb, cond, arith}
use Rattle.std.proofs.lemmas.Bool.Decides.{nat_tests}
use Rattle.std.proofs.Math.Seq.{take-append_seam, get_or-append_seam}
use Rattle.squawk_kinds.specs.Role.{Role, role, Trivia, Semicolon, Terminator, Command, Open, Close, Other, is_trivia}
use Rattle.squawk_kinds.specs.declared.numbers.TheConstants.Number as kind
use Rattle.squawk_lexed.specs.LexedText.{total_len}
use Rattle.squawk_lexed.specs.LexedToken.{LexedToken, lexed_role}
use Rattle.squawk_lexed.specs.Weave.{kinds_without_trivia}
use Rattle.squawk_split.specs.CopyFromStdin.{has_from_stdin, is_copy_from_stdin}
use Rattle.squawk_split.specs.Pieces.{first_part, is_copy}
use Rattle.squawk_split.specs.StatementEnds.{start_state, state_after, end_from}
use Rattle.squawk_split.specs.declared.statements.StatementEnd.{StatementEnd}
use Rattle.squawk_split.specs.declared.statements.StatementState.{StatementState}
use Rattle.squawk_split.proofs.KindLemmas.{trivia_has_no_kind, other_has_its_kind, ending_is_not_trivia, trivia_keeps_groups, parens_are_groups}
use Rattle.squawk_statements.specs.Children.{Child, ends_statement, open_groups_after, statement_end, trimmed_len, statement, statement_to, first_child, is_single_token}
use Rattle.squawk_statements.specs.declared.division.Division.{Division}

-- ---- truth values

or_false : (a : Bool) → (a || false) ≡ a
or_false true = refl
or_false false = refl

or_or : (a b c : Bool) → ((a || b) || c) ≡ (a || (b || c))
or_or true b c = refl
or_or false b c = refl

and_false : (a : Bool) → (a && false) ≡ false
and_false true = refl
and_false false = refl

-- begins with COPY, ends with `;`, and FROM STDIN is found, in two orders
copy_and : (a l h : Bool) → ((a && l) && h) ≡ (a && (h && l))
copy_and true true true = refl
copy_and true true false = refl
copy_and true false true = refl
copy_and true false false = refl
copy_and false l h = refl

-- ---- what reading finds

-- a token ends the statement, the m-th
pub record Closed (s : StatementState) (at : ℕ) (ts : List LexedToken) (r : StatementEnd) (m : ℕ)
    : Type 0 where
  pub some : 0 < m
  pub end_is : r.end ≡ at + total_len (take m ts)
  pub body : List ℕ
  pub last : ℕ
  pub kinds : kinds_without_trivia (take m ts) ≡ body ++ last ∷ []
  pub found : r.from_stdin
      ≡ ((s.from_stdin || has_from_stdin s.groups s.after_from body) && eqb last kind.SEMICOLON)

-- the end of the first n of these tokens, which begin at an offset, or `trimmed` without tokens
abbrev trimmed_end : (n : ℕ) → (at trimmed : ℕ) → List LexedToken → ℕ
trimmed_end zero at trimmed ts = trimmed
trimmed_end (suc n) at trimmed ts = at + total_len (take (suc n) ts)

trimmed_end_is : (n at : ℕ) (ts : List LexedToken) → trimmed_end n at at ts
    ≡ at + total_len (take n ts)
trimmed_end_is zero at ts = omega arith
trimmed_end_is (suc n) at ts = refl

-- no token ends it
pub record Unclosed (at trimmed : ℕ) (ts : List LexedToken) (r : StatementEnd) : Type 0 where
  pub end_is : r.end ≡ trimmed_end (trimmed_len (map lexed_role ts)) at trimmed ts
  pub found : r.from_stdin ≡ false

abbrev Reading : StatementState → (at trimmed : ℕ) → List LexedToken → StatementEnd → Option ℕ
    → Type 0
Reading s at trimmed ts r None = Unclosed at trimmed ts r
Reading s at trimmed ts r (Some m) = Closed s at ts r m

-- ---- one token more

more_len : (at : ℕ) (t : LexedToken) (n : ℕ) → at + t.len + n ≡ at + (t.len + n)
more_len at t n = omega arith

-- the token that ends the statement
ends_here : (d : Division) (s : StatementState) (at : ℕ) (t : LexedToken) (ts : List LexedToken)
    → ends_statement d s.groups (role t.kind) ≡ true
    → Closed s at (t ∷ ts)
    (record { end = at + t.len; from_stdin = s.from_stdin && eqb t.kind kind.SEMICOLON }) 1
ends_here d s at t ts e = record {
  some = omega arith;
  end_is = let sum : at + t.len ≡ at + (t.len + 0) = omega arith in sum;
  body = [];
  last = t.kind;
  kinds = ap (λ ks. ks ++ [])
      (other_has_its_kind t.kind (ending_is_not_trivia d s.groups (role t.kind) e));
  found = ap (λ b. b && eqb t.kind kind.SEMICOLON) (sym (or_false s.from_stdin));
}

-- before trivia
trivia_more : (s : StatementState) (at trimmed : ℕ) (t : LexedToken) (ts : List LexedToken)
    (r : StatementEnd) (o : Option ℕ) → is_trivia (role t.kind) ≡ true
    → Reading s (at + t.len) trimmed ts r o → Reading s at trimmed (t ∷ ts) r (option_map suc o)
trivia_more s at trimmed t ts r (Some m) is h = record {
  some = omega arith;
  end_is = h.end_is ∙ more_len at t (total_len (take m ts));
  body = h.body;
  last = h.last;
  kinds = ap (λ ks. ks ++ kinds_without_trivia (take m ts)) (trivia_has_no_kind t.kind is)
      ∙ h.kinds;
  found = h.found;
}
trivia_more s at trimmed t ts r None is h = record {
  end_is = by (trimmed_len (map lexed_role ts)) h.end_is;
  found = h.found;
}
  where
    by : (n : ℕ) → r.end ≡ trimmed_end n (at + t.len) trimmed ts
        → r.end ≡ trimmed_end (cond (is_trivia (role t.kind) && eqb n 0) 0 (suc n)) at trimmed
        (t ∷ ts)
    by zero e = rw is e
    by (suc n) e = rw (is, (let some : eqb (suc n) 0 ≡ false = grind (arith, nat_tests) in some))
        (e ∙ more_len at t (total_len (take (suc n) ts)))

-- before another token
other_more : (s : StatementState) (at trimmed : ℕ) (t : LexedToken) (ts : List LexedToken)
    (r : StatementEnd) (o : Option ℕ) → is_trivia (role t.kind) ≡ false
    → Reading (state_after s t.kind) (at + t.len) (at + t.len) ts r o
    → Reading s at trimmed (t ∷ ts) r (option_map suc o)
other_more s at trimmed t ts r (Some m) is h = record {
  some = omega arith;
  end_is = h.end_is ∙ more_len at t (total_len (take m ts));
  body = t.kind ∷ h.body;
  last = h.last;
  kinds = ap (λ ks. ks ++ kinds_without_trivia (take m ts)) (other_has_its_kind t.kind is)
      ∙ ap (λ ks. t.kind ∷ ks) h.kinds;
  found = h.found ∙ ap (λ b. b && eqb h.last kind.SEMICOLON)
      (or_or s.from_stdin (s.after_from && eqb t.kind kind.STDIN_KW) _
      ∙ ap (λ n. s.from_stdin || ((s.after_from && eqb t.kind kind.STDIN_KW)
      || has_from_stdin n (eqb s.groups 0 && eqb t.kind kind.FROM_KW) h.body))
      (sym (parens_are_groups s.groups t.kind)));
}
other_more s at trimmed t ts r None is h = record {
  end_is = by (trimmed_len (map lexed_role ts)) h.end_is;
  found = h.found;
}
  where
    by : (n : ℕ) → r.end ≡ trimmed_end n (at + t.len) (at + t.len) ts
        → r.end ≡ trimmed_end (cond (is_trivia (role t.kind) && eqb n 0) 0 (suc n)) at trimmed
        (t ∷ ts)
    by zero e = rw is (e ∙ (let sum : at + t.len ≡ at + (t.len + 0) = omega arith in sum))
    by (suc n) e = rw is (e ∙ more_len at t (total_len (take (suc n) ts)))

pub reads : (d : Division) (s : StatementState) (at trimmed : ℕ) (ts : List LexedToken)
    → Reading s at trimmed ts (end_from d s at trimmed ts)
    (statement_end d s.groups (map lexed_role ts))
reads d s at trimmed [] = record { end_is = refl; found = refl }
reads d s at trimmed (t ∷ ts) =
    by (ends_statement d s.groups (role t.kind)) (is_trivia (role t.kind)) refl refl
    (reads d s (at + t.len) trimmed ts)
    (reads d (state_after s t.kind) (at + t.len) (at + t.len) ts)
  where
    ended : StatementEnd
    ended = record { end = at + t.len; from_stdin = s.from_stdin && eqb t.kind kind.SEMICOLON }

    skipped : StatementEnd
    skipped = end_from d s (at + t.len) trimmed ts

    read : StatementEnd
    read = end_from d (state_after s t.kind) (at + t.len) (at + t.len) ts

    by : (b c : Bool) → ends_statement d s.groups (role t.kind) ≡ b → is_trivia (role t.kind) ≡ c
        → Reading s (at + t.len) trimmed ts skipped (statement_end d s.groups (map lexed_role ts))
        → Reading (state_after s t.kind) (at + t.len) (at + t.len) ts read
        (statement_end d (open_groups_after s.groups (role t.kind)) (map lexed_role ts))
        → Reading s at trimmed (t ∷ ts) (cond b ended (cond c skipped read))
        (cond b (Some 1) (option_map suc
        (statement_end d (open_groups_after s.groups (role t.kind)) (map lexed_role ts))))
    by true c e i skip next = ends_here d s at t ts e
    by false true e i skip next =
        rw (trivia_keeps_groups s.groups (role t.kind) i) (trivia_more s at trimmed t ts skipped
        (statement_end d s.groups (map lexed_role ts)) i skip)
    by false false e i skip next = other_more s at trimmed t ts read
        (statement_end d (open_groups_after s.groups (role t.kind)) (map lexed_role ts)) i next

-- ---- a statement

-- where a statement ends, and whether COPY data follows it
pub record IsRead (d : Division) (at : ℕ) (t : LexedToken) (ts : List LexedToken)
    (r : StatementEnd) : Type 0 where
  pub end_is : r.end ≡ at + total_len (first_part d (t ∷ ts))
  pub copy_is : is_copy d (t ∷ ts) ≡ (eqb t.kind kind.COPY_KW && r.from_stdin)

-- the first kind of tokens that begin with one that is not trivia
first_kind : (t : LexedToken) (ts : List LexedToken) (m : ℕ) → 0 < m
    → is_trivia (role t.kind) ≡ false
    → get_or (kinds_without_trivia (take m (t ∷ ts))) 0 0 ≡ t.kind
first_kind t ts zero h is = absurd (omega arith)
first_kind t ts (suc m) h is =
    ap (λ ks. get_or (ks ++ kinds_without_trivia (take m ts)) 0 0) (other_has_its_kind t.kind is)

copy_by : (k last : ℕ) (ks body : List ℕ) → ks ≡ body ++ last ∷ [] → get_or ks 0 0 ≡ k
    → is_copy_from_stdin ks true
    ≡ (eqb k kind.COPY_KW && (has_from_stdin 0 false body && eqb last kind.SEMICOLON))
copy_by k last ks body is first =
    let len : length ks - 1 ≡ length body =
    omega (arith, ap (λ (w : List ℕ). length w) is, length-append body (last ∷ [])) in
    let last_is : get_or ks (length ks - 1) 0 ≡ last =
    ap (λ n. get_or ks n 0) len ∙ ap (λ w. get_or w (length body) 0) is
    ∙ get_or-append_seam body last [] 0 in
    let body_is : take (length ks - 1) ks ≡ body =
    ap (λ n. take n ks) len ∙ ap (take (length body)) is ∙ take-append_seam body (last ∷ []) in
    ap (λ x. (eqb x kind.COPY_KW && eqb (get_or ks (length ks - 1) 0) kind.SEMICOLON)
    && has_from_stdin 0 false (take (length ks - 1) ks)) first
    ∙ ap (λ x. (eqb k kind.COPY_KW && eqb x kind.SEMICOLON)
    && has_from_stdin 0 false (take (length ks - 1) ks)) last_is
    ∙ ap (λ w. (eqb k kind.COPY_KW && eqb last kind.SEMICOLON) && has_from_stdin 0 false w) body_is
    ∙ copy_and (eqb k kind.COPY_KW) (eqb last kind.SEMICOLON) (has_from_stdin 0 false body)

-- the first child of tokens that begin a statement
statement_first : (d : Division) (t : LexedToken) (ts : List LexedToken)
    → is_trivia (role t.kind) ≡ false → is_single_token (role t.kind) ≡ false
    → first_child d (map lexed_role (t ∷ ts)) ≡ statement d (map lexed_role (t ∷ ts))
statement_first d t ts i s = rw (i, s) refl

by_reading : (d : Division) (at : ℕ) (t : LexedToken) (ts : List LexedToken) (r : StatementEnd)
    (o : Option ℕ) → is_trivia (role t.kind) ≡ false
    → first_child d (map lexed_role (t ∷ ts)) ≡ statement_to o (map lexed_role (t ∷ ts))
    → Reading start_state at at (t ∷ ts) r o → IsRead d at t ts r
by_reading d at t ts r (Some m) i is h = record {
  end_is = h.end_is ∙ ap (λ (c : Child). at + total_len (take c.tokens (t ∷ ts))) (sym is);
  copy_is = ap (λ (c : Child).
      is_copy_from_stdin (kinds_without_trivia (take c.tokens (t ∷ ts))) c.closed) is
      ∙ copy_by t.kind h.last (kinds_without_trivia (take m (t ∷ ts))) h.body h.kinds
      (first_kind t ts m h.some i)
      ∙ ap (λ b. eqb t.kind kind.COPY_KW && b) (sym h.found);
}
by_reading d at t ts r None i is h = record {
  end_is = h.end_is ∙ trimmed_end_is (trimmed_len (map lexed_role (t ∷ ts))) at (t ∷ ts)
      ∙ ap (λ (c : Child). at + total_len (take c.tokens (t ∷ ts))) (sym is);
  copy_is = ap (λ (c : Child).
      is_copy_from_stdin (kinds_without_trivia (take c.tokens (t ∷ ts))) c.closed) is
      ∙ sym (and_false (eqb t.kind kind.COPY_KW))
      ∙ ap (λ b. eqb t.kind kind.COPY_KW && b) (sym h.found);
}

single_ends : (d : Division) (f : Role) → is_single_token f ≡ false
    → ends_statement d 0 f ≡ false
single_ends d Trivia s = refl
single_ends d Semicolon s = absurd (cc)
single_ends d Terminator s = absurd (cc)
single_ends d Command s = refl
single_ends d Open s = refl
single_ends d Close s = refl
single_ends d Other s = refl

-- a statement read from after its first token
pub statement_is_read : (d : Division) (at : ℕ) (t : LexedToken) (ts : List LexedToken)
    → is_trivia (role t.kind) ≡ false → is_single_token (role t.kind) ≡ false
    → IsRead d at t ts
    (end_from d (state_after start_state t.kind) (at + t.len) (at + t.len) ts)
statement_is_read d at t ts i s =
    subst (IsRead d at t ts) first_read (by_reading d at t ts (end_from d start_state at at (t ∷ ts))
    (statement_end d 0 (map lexed_role (t ∷ ts))) i (statement_first d t ts i s)
    (reads d start_state at at (t ∷ ts)))
  where
    first_read : end_from d start_state at at (t ∷ ts)
        ≡ end_from d (state_after start_state t.kind) (at + t.len) (at + t.len) ts
    first_read = rw (single_ends d (role t.kind) s, i) refl
