-- What the slot of a text says of the words of a table.
use Rattle.std.proofs.Common.{◌≡◌, ◌≢◌, ℕ, zero, suc, ◌+◌, ◌*◌, ◌/◌, ◌-◌, ◌%◌, ◌<◌, ◌≤◌, ◌⊎◌, Bool, true, false, List, [], ◌∷◌, length, get_or, slice_index, nat_lt, if◌then◌else◌, Option, None, Some, IsNone, IfSome, ◌↔◌, Less, refl, sym, ap, subst, ◌∙◌, ⊎_elim, arith, inl, inr, le_antisymm}
use Rattle.std.specs.Char.{to_ascii_lowercase}
use Rattle.std.specs.Str.{str_to_ascii_lowercase}
use Rattle.std.proofs.lemmas.Bool.{cases_lt}
use Rattle.std.proofs.lemmas.List.{length-map}
use Rattle.squawk_words.specs.WordHash.{HasSlots, letter_at, slot_of}
use Rattle.squawk_words.specs.WordTable.{word_of, pairs_of, IsWordTable, IsInRange}
use Rattle.squawk_words.specs.KindOf.{kind_of, IsWord}
use Rattle.squawk_words.proofs.WordOrder.{differs_if}
use Rattle.squawk_words.proofs.KindLemmas.{kind_of_at, kind_of_missing}

-- a letter has its number in uppercase and lowercase
number_if : (below above : Bool) (b : ℕ)
    → (if below then b else if above then b + 32 else b) % 32 ≡ b % 32
number_if true above b = refl
number_if false true b = omega arith
number_if false false b = refl

number_lower : (b : ℕ) → to_ascii_lowercase b % 32 ≡ b % 32
number_lower b = number_if (nat_lt b 65) (nat_lt b 91) b

letter_lower : (text : List ℕ) (k : ℕ)
    → letter_at (str_to_ascii_lowercase text) k ≡ letter_at text k
letter_lower [] k = refl
letter_lower (b ∷ bs) zero = number_lower b
letter_lower (b ∷ bs) (suc k) = letter_lower bs k

-- the slot of a text is that of its lowercase form
slot_lower : (slot_starts text : List ℕ)
    → slot_of slot_starts (str_to_ascii_lowercase text) ≡ slot_of slot_starts text
unfolding slot_of
slot_lower slot_starts text =
    let len = length-map text to_ascii_lowercase in
    let at = letter_lower text in
    λ i. slice_index slot_starts (len i * 32 + at 0 i)
    + (at 1 i + 7 * at (len i / 2) i + 5 * (at (len i - 2) i + at (len i - 1) i)) % 128

-- a word has the slot of a text that it equals
slot_same : (slot_starts word text : List ℕ) → IsWord word text
    → slot_of slot_starts word ≡ slot_of slot_starts text
slot_same slot_starts word text is =
    sym (slot_lower slot_starts word) ∙ ap (slot_of slot_starts) is ∙ slot_lower slot_starts text

-- a word is as long as a text that it equals
word_len : (word text : List ℕ) → IsWord word text → length word ≡ length text
word_len word text is = sym (length-map word _) ∙ ap length is ∙ length-map text _

-- `from_raw` of a number below the count is the kind with this number
pub some_from_raw : (kind : Option ℕ) (number : ℕ) → IsNone kind ↔ (2068 ≤ number)
    → IfSome kind (λ k. k ≡ number) → number < 2068
    → kind ≡ Some number
some_from_raw None number past same lt = let le = past.0 refl in absurd (omega (arith, le))
some_from_raw (Some k) number past same lt = ap Some same

module _ (kinds starts : List ℕ) (table : IsWordTable kinds starts) where
  -- between the starts of a length, all words have that length
  len_between : (size i d : ℕ) → size + 1 < length starts → slice_index starts size ≤ i
      → i < slice_index starts (size + 1)
      → i < length kinds → length (word_of (get_or kinds i d)) ≡ size
  len_between size i d listed low high lt =
      let own = length (word_of (get_or kinds i d)) in
      let at : IsInRange starts own i = table.ranges i d lt in
      let from = at.low in
      let to = at.high in
      let last = at.listed in
      elim (cases_lt size own) [
        | inl shorter ↦
            let rise = table.starts_sorted (size + 1) own 0 (omega arith) (omega arith) in
            absurd (omega arith)
        | inr le ↦
            elim (cases_lt own size) [
              | inl longer ↦
                  let rise = table.starts_sorted (own + 1) size 0 (omega arith) (omega arith) in
                  absurd (omega arith)
              | inr ge ↦ le_antisymm le ge
            ]
      ]

  -- the word at this index equals the text, and is the first that does
  pub found_at : (index : ℕ) (text : List ℕ) → index < length kinds
      → word_of (slice_index kinds index) ≡ str_to_ascii_lowercase text
      → kind_of (pairs_of kinds) text ≡ Some (slice_index kinds index)
  found_at index text within word =
      let before : (j : ℕ) → j < index → IsWord (word_of (slice_index kinds j)) text → ⊥ =
      λ j earlier is.
      differs_if _ _ Less (table.sorted j index 0 earlier within) refl
      (ap (λ w. length w ∷ w) (sym (table.lowercase j 0 (omega arith)) ∙ is ∙ sym word)) in
      kind_of_at kinds text index 0 within before (table.lowercase index 0 within ∙ word)

  -- an index in the range of a length is within the table, and its word has this length
  pub index_within : (size index : ℕ) → size + 1 < length starts
      → index < slice_index starts (size + 1) → index < length kinds
  index_within size index listed high = omega (arith, table.starts_within (size + 1) 0 listed)

  pub len_at : (size index : ℕ) → size + 1 < length starts → slice_index starts size ≤ index
      → index < slice_index starts (size + 1)
      → length (word_of (slice_index kinds index)) ≡ size
  len_at size index listed low high =
      len_between size index 0 listed low high (index_within size index listed high)

  -- no word equals a text that is longer than the longest one
  pub look_up_past : (text : List ℕ) → length starts ≤ length text + 1
      → kind_of (pairs_of kinds) text ≡ None
  look_up_past text past =
      kind_of_missing kinds text 0 (λ i lt is.
      let at = table.ranges i 0 lt in
      let last = at.listed in
      let size = word_len _ text is in
      absurd (omega (arith, size)))

  module _ (slot_starts slots : List ℕ) (hashed : HasSlots kinds starts slot_starts slots)
      (text : List ℕ) where
    -- no word equals a text that is shorter than the shortest one
    pub look_up_short : length text < 2 → kind_of (pairs_of kinds) text ≡ None
    look_up_short short =
        kind_of_missing kinds text 0 (λ i lt is.
        let long = hashed.long i 0 lt in
        let size = word_len _ text is in
        absurd (omega (arith, size, long)))

    module _ (index : ℕ) (slot : index ≡ slice_index slots (slot_of slot_starts text)) where
      -- a word that equals the text is the one in its slot
      in_slot : (i : ℕ) → i < length kinds → IsWord (word_of (slice_index kinds i)) text
          → index ≡ i
      in_slot i lt is =
          slot ∙ ap (slice_index slots) (sym (slot_same slot_starts _ text is))
          ∙ hashed.each i 0 lt

      -- where the index in the slot is not in the range of the text's length, no word equals it
      pub look_up_outside : (index < slice_index starts (length text))
          ⊎ (slice_index starts (length text + 1) ≤ index)
          → kind_of (pairs_of kinds) text ≡ None
      look_up_outside outside =
          kind_of_missing kinds text 0 (λ i lt is.
          let at : IsInRange starts (length text) i =
          subst (λ n. IsInRange starts n i) (word_len _ text is) (table.ranges i 0 lt) in
          let same = in_slot i lt is in
          ⊎_elim
          (λ below. absurd (omega (arith, same, below, at.low)))
          (λ past. absurd (omega (arith, same, past, at.high)))
          outside)

      -- where the word in the slot does not equal the text, no word does
      pub look_up_differs : word_of (slice_index kinds index) ≢ str_to_ascii_lowercase text
          → kind_of (pairs_of kinds) text ≡ None
      look_up_differs differs =
          kind_of_missing kinds text 0 (λ i lt is.
          differs (ap (λ n. word_of (slice_index kinds n)) (in_slot i lt is)
          ∙ sym (table.lowercase i 0 lt) ∙ is))
