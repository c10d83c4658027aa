use Rattle.std.proofs.Common.{◌≡◌, true, false, length, sym, ◌∙◌, arith, inl, inr, refl}
use Rattle.squawk_words.proofs.SearchLemmas.{found_at, index_within, look_up_short, look_up_past, look_up_outside, look_up_differs, some_from_raw}
use Rattle.squawk_words.proofs.search.find.Goals as goal
use Rattle.squawk_words.proofs.search.find.Goals.{then-len-lt-MIN_LEN-via-then-len-lt-MIN_LEN, then-len-lt-MIN_LEN-via-else-len-lt-MIN_LEN+then-len-words, then-index-words-via-then-index-words, then-index-words-via-else-index-words+then-index-words-2}

pub returns-then-len-lt-MIN_LEN : goal.returns-then-len-lt-MIN_LEN
returns-then-len-lt-MIN_LEN c =
    let words = c.args.words in
    let at = c.args.ident.now in
    sym (elim c.then-len-lt-MIN_LEN.branch [
      | then-len-lt-MIN_LEN-via-then-len-lt-MIN_LEN w ↦
          look_up_short words.kinds.now words.starts.now c.requires.table words.slot_starts.now
          words.slots.now c.requires.hashed at (omega arith)
      | then-len-lt-MIN_LEN-via-else-len-lt-MIN_LEN+then-len-words w ↦
          look_up_past words.kinds.now words.starts.now c.requires.table at (omega arith)
    ])

pub returns-then-index-words : goal.returns-then-index-words
returns-then-index-words c =
    let words = c.args.words in
    sym (look_up_outside words.kinds.now words.starts.now c.requires.table words.slot_starts.now
    words.slots.now c.requires.hashed c.args.ident.now c.index_in_slot-index.result
    c.index_in_slot-index.ensures
    (elim c.then-index-words.branch [
      | then-index-words-via-then-index-words w ↦ inl (omega arith)
      | then-index-words-via-else-index-words+then-index-words-2 w ↦ inr (omega arith)
    ]))

pub returns-then-equals_lowercase : goal.returns-then-equals_lowercase
returns-then-equals_lowercase c =
    let words = c.args.words in
    let index = c.index_in_slot-index.result in
    let within = index_within words.kinds.now words.starts.now c.requires.table
    (length c.args.ident.now) index (omega arith) (omega arith) in
    some_from_raw c.from_raw.result _ c.from_raw.ensures.past c.from_raw.ensures.number
    (c.requires.table.numbers index 0 within)
    ∙ sym (found_at words.kinds.now words.starts.now c.requires.table index c.args.ident.now
    within (sym c.word_at.ensures ∙ c.if-equals_lowercase.ensures.0 refl))

pub returns-else-equals_lowercase : goal.returns-else-equals_lowercase
returns-else-equals_lowercase c =
    let words = c.args.words in
    sym (look_up_differs words.kinds.now words.starts.now c.requires.table
    words.slot_starts.now words.slots.now c.requires.hashed c.args.ident.now
    c.index_in_slot-index.result c.index_in_slot-index.ensures
    (λ same. let clash : false ≡ true = c.if-equals_lowercase.ensures.1 (c.word_at.ensures ∙ same)
    in cc))
