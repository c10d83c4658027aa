-- A text that is one dollar-quoted string is a value between two delimiters.
use Rattle.std.proofs.Common.{◌≡◌, ℕ, zero, suc, ◌+◌, ◌-◌, ◌<◌, ◌≤◌, Bool, true, false, List, [], ◌∷◌, ◌++◌, length, length-append, length-drop, get_or, take, drop, Option, Some, None, unwrap_or, option_map, is_some, nat_eq, refl, sym, ap, subst, ◌∙◌, ◌&&◌, not, eqb, cond, arith}
use Rattle.std.proofs.lemmas.List.{take-append-drop, length-take-le}
use Rattle.std.proofs.Math.Seq.{take-append_seam, drop-append_seam}
use Rattle.std.specs.List.{starts_with, prefix_len}
use Rattle.std.specs.Str.{NonePass}
use Rattle.squawk_lexer.specs.Classes.{is_ident_start, is_ident_cont, is_tag_cont, dollar_sign}
use Rattle.squawk_lexer.specs.Dollar.{find_end, tag_end, is_dollar_quote_start, delimiter, delimiter_end, dollar_string}
use Rattle.squawk_lexer.specs.Laws.{TokensProgress, TokensWithin}
use Rattle.squawk_lexer.specs.Numbers.{parameter}
use Rattle.squawk_quote.specs.ValueForms.{value_form, form_of_text, IsDollarQuoted, between_delimiters}
use Rattle.squawk_quote.specs.Values.{strip_ends}
use Rattle.squawk_quote.specs.declared.values.ValueForm.TheVariants as form
use Rattle.squawk_quote.proofs.FormLaws.{dollar_form}
use Rattle.squawk_quote.proofs.TextForms.{IsWhole, is_whole, dollar_first, same}

-- ---- the closing delimiter

both : (a b : Bool) → (a && b) ≡ true → (a ≡ true) × (b ≡ true)
both true b e = (refl, e)
both false b e = absurd (cc)

begins_all : (s d : List ℕ) → starts_with nat_eq s d ≡ true → length s ≡ length d → s ≡ d
begins_all [] [] t e = refl
begins_all (c ∷ cs) [] t e = absurd (omega (arith, e))
begins_all [] (d ∷ ds) t e = absurd (omega (arith, e))
begins_all (c ∷ cs) (d ∷ ds) t e =
    let two = both (nat_eq d c) (starts_with nat_eq cs ds) t in
    ap (λ x. x ∷ cs) (sym (same d c two.0)) ∙ ap (λ w. d ∷ w) (begins_all cs ds two.1
    (omega (arith, e)))

-- what stands before a delimiter that is found at the end
record Before (s d : List ℕ) : Type 0 where
  value : List ℕ
  is : s ≡ value ++ d

found_last : (d s : List ℕ) → find_end d s ≡ Some (length s) → Before s d
found_last d [] e = absurd (cc)
found_last d (c ∷ cs) e = by (starts_with nat_eq (c ∷ cs) d) (find_end d cs) refl refl e
    (found_last d cs)
  where
    by : (t : Bool) (o : Option ℕ) → starts_with nat_eq (c ∷ cs) d ≡ t → find_end d cs ≡ o
        → cond t (Some (length d)) (option_map (λ n. n + 1) o) ≡ Some (length (c ∷ cs))
        → (find_end d cs ≡ Some (length cs) → Before cs d) → Before (c ∷ cs) d
    by true o t f e next = record {
      value = [];
      is = begins_all (c ∷ cs) d t (sym (ap (λ o. unwrap_or o 0) e));
    }
    by false None t f e next = absurd (cc)
    by false (Some n) t f e next =
        let len : n ≡ length cs = let sum : n + 1 ≡ length (c ∷ cs) = ap (λ o. unwrap_or o 0) e in
        omega (arith, sum) in
        let b = next (f ∙ ap Some len) in
        record { value = c ∷ b.value; is = ap (λ w. c ∷ w) b.is }

-- ---- the opening delimiter

tag_has_no_dollar : (cs : List ℕ)
    → NonePass (λ c. eqb c dollar_sign) (take (prefix_len is_tag_cont cs) cs)
tag_has_no_dollar [] = tt
tag_has_no_dollar (c ∷ cs) = by (is_tag_cont c) refl (tag_has_no_dollar cs)
  where
    not_true : (a : Bool) → not a ≡ true → a ≡ false
    not_true true e = absurd (cc)
    not_true false e = refl

    by : (b : Bool) → is_tag_cont c ≡ b
        → NonePass (λ c. eqb c dollar_sign) (take (prefix_len is_tag_cont cs) cs)
        → NonePass (λ c. eqb c dollar_sign) (take (cond b (1 + prefix_len is_tag_cont cs) 0) (c ∷ cs))
    by true t rest =
        rw (let e : 1 + prefix_len is_tag_cont cs ≡ suc (prefix_len is_tag_cont cs) =
        omega arith in e)
        (not_true (eqb c dollar_sign) (both (is_ident_cont c) (not (eqb c dollar_sign)) t).1, rest)
    by false t rest = tt

-- a tag of n characters, and the `$` after it
record IsTag (cs : List ℕ) (n : ℕ) : Type 0 where
  within : n < length cs
  without_dollar : NonePass (λ c. eqb c dollar_sign) (take n cs)
  more : take (n + 1) cs ≡ take n cs ++ dollar_sign ∷ []

take_more : (cs : List ℕ) (n : ℕ) → get_or cs n 0 ≡ dollar_sign
    → (n < length cs) × (take (n + 1) cs ≡ take n cs ++ dollar_sign ∷ [])
take_more [] n e = absurd (cc)
take_more (c ∷ cs) zero e = (omega arith, ap (λ x. x ∷ []) e)
take_more (c ∷ cs) (suc n) e =
    let next = take_more cs n e in (
      let less : n < length cs = next.0 in omega arith,
      ap (λ m. take m (c ∷ cs)) (let sum : suc n + 1 ≡ suc (n + 1) = omega arith in sum)
          ∙ ap (λ w. c ∷ w) next.1,
    )

tag_of : (cs : List ℕ) (n : ℕ) → NonePass (λ c. eqb c dollar_sign) (take n cs)
    → get_or cs n 0 ≡ dollar_sign → IsTag cs n
tag_of cs n none e = let next = take_more cs n e in
    record { within = next.0; without_dollar = none; more = next.1 }

-- the tag of a text that begins a dollar-quoted string ends at this index
record TagEnd (cs : List ℕ) (end : ℕ) : Type 0 where
  n : ℕ
  end_is : end ≡ suc n
  is_tag : IsTag cs n

tag_end_is : (c : ℕ) (cs : List ℕ) → is_dollar_quote_start (c ∷ cs) ≡ true
    → TagEnd cs (tag_end (c ∷ cs))
tag_end_is c cs t = by (is_ident_start (get_or cs 0 0)) t
  where
    stands : (end n : ℕ) → end ≡ suc n → eqb (get_or (c ∷ cs) end 0) dollar_sign ≡ true
        → get_or cs n 0 ≡ dollar_sign
    stands end n is t = same (get_or cs n 0) dollar_sign
        (ap (λ k. eqb (get_or (c ∷ cs) k 0) dollar_sign) (sym is) ∙ t)

    by : (b : Bool)
        → eqb (get_or (c ∷ cs) (cond b (1 + prefix_len is_tag_cont cs) 1) 0) dollar_sign ≡ true
        → TagEnd cs (cond b (1 + prefix_len is_tag_cont cs) 1)
    by true t =
        let n = prefix_len is_tag_cont cs in
        let is : 1 + n ≡ suc n = omega arith in
        record {
          n = n;
          end_is = is;
          is_tag = tag_of cs n (tag_has_no_dollar cs) (stands (1 + n) n is t);
        }
    by false t = record { n = 0; end_is = refl; is_tag = tag_of cs 0 tt (stands 1 0 refl t) }

-- ---- the value

dollar_quoted_by : (cs : List ℕ) → TagEnd cs (tag_end (dollar_sign ∷ cs))
    → is_some (delimiter_end (dollar_sign ∷ cs)) ≡ true
    → tag_end (dollar_sign ∷ cs) + 1
    + unwrap_or (delimiter_end (dollar_sign ∷ cs))
    (length (drop (tag_end (dollar_sign ∷ cs) + 1) (dollar_sign ∷ cs)))
    ≡ length (dollar_sign ∷ cs)
    → IsDollarQuoted (dollar_sign ∷ cs)
dollar_quoted_by cs tag some end =
    let u = dollar_sign ∷ cs in
    let m = tag_end u + 1 in
    let rest = drop m u in
    let within : tag.n < length cs = tag.is_tag.within in
    let len : length (take m u) ≡ m = length-take-le m u (omega (arith, tag.end_is, within)) in
    let found : delimiter_end u ≡ Some (length rest) =
    found_end (delimiter_end u) m (length u) (length rest) some end (length-drop m u)
    (omega (arith, tag.end_is, within)) in
    let before = found_last (delimiter u) rest found in
    record {
      tag = take tag.n cs;
      value = before.value;
      without_dollar = tag.is_tag.without_dollar;
      delimiter_is = ap (λ n. take n u) (let e : m ≡ suc (tag.n + 1) = omega (arith, tag.end_is)
          in e) ∙ ap (λ w. dollar_sign ∷ w) tag.is_tag.more;
      len_is = sym len;
      is = sym (take-append-drop m u) ∙ ap (λ w. take m u ++ w) before.is;
    }
  where
    found_end : (o : Option ℕ) (m all len : ℕ) → is_some o ≡ true → m + unwrap_or o len ≡ all
        → len ≡ all - m → m ≤ all → o ≡ Some len
    found_end None m all len t e is h = absurd (cc)
    found_end (Some n) m all len t e is h = ap Some (omega (arith, e, is, h))

pub dollar_is_quoted : TokensProgress → TokensWithin → (u : List ℕ)
    → form_of_text u ≡ Some form.Dollar → IsDollarQuoted u
dollar_is_quoted progress within [] e = absurd (cc)
dollar_is_quoted progress within (c ∷ cs) e =
    by c (dollar_first c (get_or cs 0 0) w.form_is) (is_dollar_quote_start (c ∷ cs)) refl w.kind_is
    w.end_is
  where
    w : IsWhole c cs form.Dollar
    w = is_whole progress within c cs form.Dollar e

    by : (c : ℕ) → c ≡ dollar_sign → (b : Bool) → is_dollar_quote_start (c ∷ cs) ≡ b
        → value_form (cond b (dollar_string (c ∷ cs)) (parameter (c ∷ cs))).kind ≡ Some form.Dollar
        → (cond b (dollar_string (c ∷ cs)) (parameter (c ∷ cs))).end ≡ length (c ∷ cs)
        → IsDollarQuoted (c ∷ cs)
    by c is true t kind end =
        quoted c is (tag_end_is c cs t)
        (dollar_form (is_some (delimiter_end (c ∷ cs))) form.Dollar kind).1 end
      where
        quoted : (c : ℕ) → c ≡ dollar_sign → TagEnd cs (tag_end (c ∷ cs))
            → is_some (delimiter_end (c ∷ cs)) ≡ true
            → tag_end (c ∷ cs) + 1
            + unwrap_or (delimiter_end (c ∷ cs)) (length (drop (tag_end (c ∷ cs) + 1) (c ∷ cs)))
            ≡ length (c ∷ cs)
            → IsDollarQuoted (c ∷ cs)
        quoted c is = subst (λ x. TagEnd cs (tag_end (x ∷ cs))
            → is_some (delimiter_end (x ∷ cs)) ≡ true
            → tag_end (x ∷ cs) + 1
            + unwrap_or (delimiter_end (x ∷ cs)) (length (drop (tag_end (x ∷ cs) + 1) (x ∷ cs)))
            ≡ length (x ∷ cs)
            → IsDollarQuoted (x ∷ cs)) (sym is) (dollar_quoted_by cs)
    by c is false t kind end = absurd (cc)

-- the value is what stands between the delimiters
pub between_is_value : (u : List ℕ) (q : IsDollarQuoted u) → between_delimiters u ≡ q.value
between_is_value u q =
    let d = delimiter u in
    let n = length d in
    let all = length-append d (q.value ++ d) in
    let rest = length-append q.value d in
    let whole : length u ≡ length (d ++ (q.value ++ d)) = ap length q.is in
    let len : length u - (n + n) ≡ length q.value = omega (arith, whole, all, rest) in
    ap (λ m. strip_ends m u) q.len_is
    ∙ ap (λ m. take m (drop n u)) len
    ∙ ap (λ w. take (length q.value) (drop n w)) q.is
    ∙ ap (take (length q.value)) (drop-append_seam d (q.value ++ d))
    ∙ take-append_seam q.value d
