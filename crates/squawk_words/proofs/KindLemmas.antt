-- Lemmas on `kind_of`: the kind of the first word that equals a text.
use Rattle.std.proofs.Common.{◌≡◌, ℕ, zero, suc, ◌<◌, Bool, true, false, not, List, [], ◌∷◌, ◌++◌, length, get_or, slice_get, slice_index_or, codes, Option, None, Some, IsNone, IfSome, OnSome, is_some, ◌↔◌, if◌then◌else◌, refl, sym, ap, subst, ◌∙◌, ⊎_elim, zero-lt-suc, suc-le-suc, le_of_suc-le-suc, not-suc-le-zero}
use Rattle.std.specs.List.{list_all}
use Rattle.std.specs.Str.{bytes_eq, str_to_ascii_lowercase, str_eq_ignore_ascii_case}
use Rattle.std.proofs.lemmas.Bool.{cases_Bool, cases_lt}
use Rattle.std.proofs.lemmas.List.{get_or_past}
use Rattle.std.proofs.lemmas.List.Sums.{AllPass-from_list_all}
use Rattle.std.proofs.lemmas.Option.{slice_get-get_or}
use Rattle.std.proofs.lemmas.Slice.Eq.{bytes_eq-Decides}
use Rattle.squawk_kinds.specs.Role.{Role, Trivia, Semicolon, Terminator, Command, Open, Close, Other, role, is_other}
use Rattle.squawk_names.specs.Texts.{texts}
use Rattle.squawk_words.specs.KindOf.{kind_of, IsWord, HasNoWord, HasWord, backquoted}
use Rattle.squawk_words.specs.WordTable.{word_of, pairs_of}

-- truth values and options
false_unless : (b : Bool) → (b ≡ true → ⊥) → b ≡ false
false_unless true h = absurd (h refl)
false_unless false h = refl

some_same : (a b : ℕ) → Some a ≡ Some b → a ≡ b
some_same a b e = cc

-- one step of `kind_of`
abbrev step : ℕ → Option ℕ → Bool → Option ℕ
step kind rest b = if b then Some kind else rest

-- the first word equals the text
kind_of_first : (word : List ℕ) (kind : ℕ) (pairs : List (List ℕ × ℕ)) (text : List ℕ)
    → IsWord word text
    → kind_of ((word, kind) ∷ pairs) text ≡ Some kind
kind_of_first word kind pairs text is =
    ap (step kind (kind_of pairs text)) ((bytes_eq-Decides _ _).1 is)

-- the first word does not equal the text
kind_of_rest : (word : List ℕ) (kind : ℕ) (pairs : List (List ℕ × ℕ)) (text : List ℕ)
    → (IsWord word text → ⊥)
    → kind_of ((word, kind) ∷ pairs) text ≡ kind_of pairs text
kind_of_rest word kind pairs text other =
    ap (step kind (kind_of pairs text)) (false_unless _ (λ e. other ((bytes_eq-Decides _ _).0 e)))

-- the first kind whose word equals the text
pub kind_of_at : (kinds text : List ℕ) (i d : ℕ) → i < length kinds
    → ((j : ℕ) → j < i → IsWord (word_of (get_or kinds j d)) text → ⊥)
    → IsWord (word_of (get_or kinds i d)) text
    → kind_of (pairs_of kinds) text ≡ Some (get_or kinds i d)
kind_of_at [] text i d lt before is = absurd (not-suc-le-zero lt)
kind_of_at (kind ∷ kinds) text zero d lt before is =
    kind_of_first (word_of kind) kind (pairs_of kinds) text is
kind_of_at (kind ∷ kinds) text (suc i) d lt before is =
    kind_of_rest (word_of kind) kind (pairs_of kinds) text (before 0 (zero-lt-suc _))
    ∙ kind_of_at kinds text i d (le_of_suc-le-suc lt)
    (λ j below. before (suc j) (suc-le-suc below)) is

-- no kind's word equals the text
pub kind_of_missing : (kinds text : List ℕ) (d : ℕ)
    → ((i : ℕ) → i < length kinds → IsWord (word_of (get_or kinds i d)) text → ⊥)
    → kind_of (pairs_of kinds) text ≡ None
kind_of_missing [] text d none = refl
kind_of_missing (kind ∷ kinds) text d none =
    kind_of_rest (word_of kind) kind (pairs_of kinds) text (none 0 (zero-lt-suc _))
    ∙ kind_of_missing kinds text d (λ i lt. none (suc i) (suc-le-suc lt))

-- no word equals the text
pub kind_of_none : (pairs : List (List ℕ × ℕ)) (text : List ℕ) → HasNoWord pairs text
    → kind_of pairs text ≡ None
kind_of_none [] text none = refl
kind_of_none (pair ∷ pairs) text none =
    kind_of_rest pair.0 pair.1 pairs text (none 0 pair (zero-lt-suc _))
    ∙ kind_of_none pairs text (λ k d lt. none (suc k) d (suc-le-suc lt))

-- where a word equals the text, a kind is found
kind_of_is_some : (pairs : List (List ℕ × ℕ)) (text : List ℕ) (k : ℕ) (d : List ℕ × ℕ)
    → k < length pairs
    → IsWord (get_or pairs k d).0 text → is_some (kind_of pairs text) ≡ true
kind_of_is_some [] text k d lt is = absurd (not-suc-le-zero lt)
kind_of_is_some (pair ∷ pairs) text zero d lt is =
    ap is_some (kind_of_first pair.0 pair.1 pairs text is)
kind_of_is_some (pair ∷ pairs) text (suc k) d lt is =
    ⊎_elim
    (λ here. ap (λ b. is_some (step pair.1 (kind_of pairs text) b)) here)
    (λ later. ap (λ b. is_some (step pair.1 (kind_of pairs text) b)) later
    ∙ kind_of_is_some pairs text k d (le_of_suc-le-suc lt) is)
    (cases_Bool (str_eq_ignore_ascii_case pair.0 text))

-- where no kind is found, no word equals the text
pub kind_of_none_back : (pairs : List (List ℕ × ℕ)) (text : List ℕ)
    → is_some (kind_of pairs text) ≡ false → HasNoWord pairs text
kind_of_none_back pairs text none k d lt is = let clash : true ≡ false =
    sym (kind_of_is_some pairs text k d lt is) ∙ none in cc

-- a kind that is found belongs to a word that equals the text
pub kind_of_some : (pairs : List (List ℕ × ℕ)) (text : List ℕ) (kind : ℕ)
    → kind_of pairs text ≡ Some kind
    → HasWord pairs text kind
kind_of_some [] text kind e = cc
kind_of_some (pair ∷ pairs) text kind e =
    ⊎_elim
    (λ here.
    let same = some_same pair.1 kind (sym (ap (step pair.1 (kind_of pairs text)) here) ∙ e) in
    (0, pair, zero-lt-suc _, refl, ((bytes_eq-Decides _ _).0 here, same)))
    (λ later.
    let rest = kind_of_some pairs text kind (sym (ap (step pair.1 (kind_of pairs text)) later) ∙ e)
    in
    (suc rest.0, rest.1, suc-le-suc rest.2, rest.3, rest.4))
    (cases_Bool (str_eq_ignore_ascii_case pair.0 text))

-- texts that are equal in an ASCII case-insensitive comparison have the same kind
kind_of_same : (pairs : List (List ℕ × ℕ)) (a b : List ℕ) → IsWord a b
    → kind_of pairs a ≡ kind_of pairs b
kind_of_same [] a b e = refl
kind_of_same (pair ∷ pairs) a b e =
    λ i. if bytes_eq (str_to_ascii_lowercase pair.0) (e i) then Some pair.1
    else kind_of_same pairs a b e i

-- a test that all pairs pass is passed by the pair that is found
found_passes : (test : List ℕ × ℕ → Bool) (pairs : List (List ℕ × ℕ)) (text : List ℕ) (kind : ℕ)
    → list_all test pairs ≡ true
    → (found : HasWord pairs text kind) → test found.1 ≡ true
found_passes test pairs text kind all found =
    subst (λ pair. test pair ≡ true) found.3
    (AllPass-from_list_all test pairs all found.0 found.1 found.2)

-- whether the kind of the pair prints as its word between backquotes
abbrev pub prints : List ℕ × ℕ → Bool
prints pair = bytes_eq (slice_index_or texts pair.1 []) (backquoted pair.0)

-- a printed text that is not empty is the text of a kind
printed_at : (kind : ℕ) (text : List ℕ) (b : ℕ) → slice_index_or texts kind [] ≡ b ∷ text
    → slice_get texts kind ≡ Some (b ∷ text)
printed_at kind text b e =
    ⊎_elim
    (λ within. slice_get-get_or texts kind [] within ∙ ap Some e)
    (λ past. let clash : [] ≡ b ∷ text = sym (get_or_past texts kind [] past) ∙ e in cc)
    (cases_lt kind (length texts))

-- a kind that is found prints as the text between backquotes
pub kind_of_printed : (pairs : List (List ℕ × ℕ)) (text : List ℕ) (kind : ℕ)
    → list_all prints pairs ≡ true → kind_of pairs text ≡ Some kind
    → slice_get texts kind ≡ Some (backquoted text)
kind_of_printed pairs text kind all e =
    let found = kind_of_some pairs text kind e in
    let shown = (bytes_eq-Decides _ _).0 (found_passes prints pairs text kind all found) in
    printed_at kind (str_to_ascii_lowercase text ++ 96 ∷ []) 96
    (ap (λ n. slice_index_or texts n []) (sym found.4.1) ∙ shown
    ∙ ap (λ low. codes "`" ++ low ++ codes "`") found.4.0)

-- whether the word of the pair is not among the others
abbrev pub is_apart : List (List ℕ × ℕ) → List ℕ × ℕ → Bool
is_apart others pair = not (is_some (kind_of others pair.0))

not_true : (b : Bool) → not b ≡ true → b ≡ false
not_true true h = cc
not_true false h = refl

-- where a kind is found, none is found among the others
pub kind_of_apart : (pairs others : List (List ℕ × ℕ)) (text : List ℕ) (kind : ℕ)
    → list_all (is_apart others) pairs ≡ true
    → kind_of pairs text ≡ Some kind → is_some (kind_of others text) ≡ false
kind_of_apart pairs others text kind all e =
    let found = kind_of_some pairs text kind e in
    ap is_some (sym (kind_of_same others _ text found.4.0))
    ∙ not_true _ (found_passes (is_apart others) pairs text kind all found)

-- a kind that is found in a table is found among the pairs that the table has
pub in_pairs : (kinds : List ℕ) (pairs : List (List ℕ × ℕ)) (bytes text : List ℕ)
    (kind : Option ℕ)
    → kind ≡ kind_of (pairs_of kinds) bytes
    → pairs_of kinds ≡ pairs → bytes ≡ text → kind ≡ kind_of pairs text
in_pairs kinds pairs bytes text kind found same is = found ∙ (λ i. kind_of (same i) (is i))

-- whether the kind of the pair has no role in the division into statements
abbrev pub pair_is_other : List ℕ × ℕ → Bool
pair_is_other pair = is_other (role pair.1)

is_other_true : (f : Role) → is_other f ≡ true → f ≡ Other
is_other_true Trivia h = cc
is_other_true Semicolon h = cc
is_other_true Terminator h = cc
is_other_true Command h = cc
is_other_true Open h = cc
is_other_true Close h = cc
is_other_true Other h = refl

pub found_other : (pairs : List (List ℕ × ℕ)) (text : List ℕ) (kind : Option ℕ)
    → kind ≡ kind_of pairs text → list_all pair_is_other pairs ≡ true
    → IfSome kind (λ k. role k ≡ Other)
found_other pairs text None e all = tt
found_other pairs text (Some k) e all =
    let found = kind_of_some pairs text k (sym e) in
    ap role (sym found.4.1) ∙ is_other_true _ (found_passes pair_is_other pairs text k all found)

-- what is known of a kind that was looked up
module _ (pairs : List (List ℕ × ℕ)) (text : List ℕ) where
  pub found_none : (kind : Option ℕ) → kind ≡ kind_of pairs text
      → IsNone kind ↔ HasNoWord pairs text
  found_none kind e = (
    λ none. kind_of_none_back pairs text (sym (ap is_some e) ∙ none),
    λ all. ap is_some (e ∙ kind_of_none pairs text all),
  )

  pub found_some : (kind : Option ℕ) → kind ≡ kind_of pairs text → IfSome kind (HasWord pairs text)
  found_some None e = tt
  found_some (Some k) e = kind_of_some pairs text k (sym e)

  pub found_printed : (kind : Option ℕ) → kind ≡ kind_of pairs text → list_all prints pairs ≡ true
      → IfSome kind (λ k. slice_get texts k ≡ Some (backquoted text))
  found_printed None e all = tt
  found_printed (Some k) e all = kind_of_printed pairs text k all (sym e)

  pub found_apart : (others : List (List ℕ × ℕ)) (kind : Option ℕ) → kind ≡ kind_of pairs text
      → list_all (is_apart others) pairs ≡ true
      → OnSome kind (IsNone (kind_of others text))
  found_apart others None e all = tt
  found_apart others (Some k) e all = kind_of_apart pairs others text k all (sym e)
