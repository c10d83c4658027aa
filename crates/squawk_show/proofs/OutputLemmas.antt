-- An output while it is written: a sink takes what a block holds, and the rest comes after it.
use Rattle.std.proofs.Common.{◌≡◌, ℕ, zero, suc, ◌+◌, ◌<◌, List, [], ◌∷◌, ◌++◌, Ok, Err, Result, length, take, drop, ap, sym, ◌∙◌, append-nil, append_assoc, refl, subst, arith}
use Rattle.std.proofs.KnownBytes.{Appends-nil, Appends-trans}
use Rattle.std.proofs.Math.Seq.{take-add}
use Rattle.std.proofs.lemmas.List.{length-append, take_at, drop_at, take-append-le}
use Rattle.std.specs.Prelude.{OnOk, flat_map, slice_index_or}
use Rattle.squawk_events.specs.declared.steps.ParseError.{ParseError}
use Rattle.squawk_show.specs.Edge.{SinkView, AppendsAll, AppendsPrefix}
use Rattle.squawk_show.specs.Output.{TakesAllBut}
use Rattle.squawk_show.specs.Report.{parse_error_line}

-- before anything is written, all of a text is left
pub takes_nothing : (v : SinkView) (text : List ℕ) → TakesAllBut v v text text
takes_nothing v text = record { taken = []; appends = Appends-nil v.taken; whole = refl }

-- after all of a text was written, nothing of it is left
pub takes_all : (a b : SinkView) (text : List ℕ) → AppendsAll a b text → TakesAllBut a b text []
takes_all a b text written = record {
  taken = text;
  appends = written;
  whole = append-nil text;
}

-- more text comes after what is left
pub takes_longer : (a b : SinkView) (text held rest : List ℕ) → TakesAllBut a b text held
    → TakesAllBut a b (text ++ rest) (held ++ rest)
takes_longer a b text held rest before = record {
  taken = before.taken;
  appends = before.appends;
  whole = sym (append_assoc before.taken held rest) ∙ ap (λ xs. xs ++ rest) before.whole;
}

-- more of what is left was taken
pub takes_then : (a b c : SinkView) (text held kept : List ℕ) → TakesAllBut a b text held
    → TakesAllBut b c held kept → TakesAllBut a c text kept
takes_then a b c text held kept before now = record {
  taken = before.taken ++ now.taken;
  appends = Appends-trans a.taken b.taken c.taken before.taken now.taken before.appends
      now.appends;
  whole = append_assoc before.taken now.taken kept
      ∙ ap (λ xs. before.taken ++ xs) now.whole ∙ before.whole;
}

-- more of what a block held was taken, and then the first line of the rest was appended to it
pub takes_line : (a b c : SinkView) (text held kept new line rest later : List ℕ)
    → TakesAllBut a b text (held ++ rest) → TakesAllBut b c held kept → new ≡ kept ++ line
    → rest ≡ line ++ later → TakesAllBut a c text (new ++ later)
takes_line a b c text held kept new line rest later before now is_new is_rest =
    subst (TakesAllBut a c text)
    (ap (λ xs. kept ++ xs) is_rest ∙ sym (append_assoc kept line later)
    ∙ sym (ap (λ xs. xs ++ later) is_new))
    (takes_then a b c text (held ++ rest) (kept ++ rest) before
    (takes_longer b c held kept rest now))

-- a prefix of what is left was written, so a prefix of all is
pub takes_prefix : (a b c : SinkView) (text held rest : List ℕ) → TakesAllBut a b text (held ++ rest)
    → AppendsPrefix b c held → AppendsPrefix a c text
takes_prefix a b c text held rest before (n, within, written) =
    let t = before.taken in
    let sum = ap length before.whole in
    let len_all = length-append t (held ++ rest) in
    let len_left = length-append held rest in
    let e : take (length t + n) text ≡ t ++ take n held =
    ap (take (length t + n)) (sym before.whole) ∙ take-add (length t) n (t ++ (held ++ rest))
    ∙ ap (λ xs. xs ++ take n (drop (length t) (t ++ (held ++ rest))))
    (take_at t (held ++ rest) (length t) refl)
    ∙ ap (λ xs. t ++ take n xs) (drop_at t (held ++ rest) (length t) refl)
    ∙ ap (λ xs. t ++ xs) (take-append-le n held rest within) in (
      length t + n,
      omega arith,
      subst (AppendsAll a c) (sym e)
          (Appends-trans a.taken b.taken c.taken t (take n held) before.appends written),
    )

-- all that was left was written
pub takes_rest : (a b c : SinkView) (text rest : List ℕ) → TakesAllBut a b text rest
    → AppendsAll b c rest → AppendsAll a c text
takes_rest a b c text rest before written =
    subst (AppendsAll a c) before.whole (Appends-trans a.taken b.taken c.taken before.taken rest
    before.appends written)

-- a prefix of all that was left was written
pub takes_end : (a b c : SinkView) (text rest : List ℕ) → TakesAllBut a b text rest
    → AppendsPrefix b c rest → AppendsPrefix a c text
takes_end a b c text rest before now = takes_prefix a b c text rest []
    (subst (TakesAllBut a b text) (sym (append-nil rest)) before) now

-- a sink that took all but the end of a text took a prefix of it
pub takes_some : (a b : SinkView) (text rest : List ℕ) → TakesAllBut a b text rest
    → AppendsPrefix a b text
takes_some a b text rest before = takes_end a b b text rest before
    (0, omega arith, Appends-nil b.taken)

-- what follows from a fact of a call that succeeds
pub on_ok : {T E : Type 0} (P Q : Type 0) → (P → Q) → (r : Result T E) → OnOk r P → OnOk r Q
on_ok P Q next (Ok t) h = next h
on_ok P Q next (Err e) h = tt

-- what was taken after the lines of a tree, of a text that has the lines of errors after them
pub tree_taken : (a b c : SinkView) (head lines errors held kept : List ℕ)
    → TakesAllBut a b head held → TakesAllBut b c (held ++ lines) kept
    → TakesAllBut a c (head ++ (lines ++ errors)) (kept ++ errors)
tree_taken a b c head lines errors held kept first then =
    takes_then a b c (head ++ (lines ++ errors)) ((held ++ lines) ++ errors) (kept ++ errors)
    (subst (TakesAllBut a b (head ++ (lines ++ errors))) (sym (append_assoc held lines errors))
    (takes_longer a b head held (lines ++ errors) first))
    (takes_longer b c (held ++ lines) kept errors then)

-- the lines of the errors from an index on: that of the error there, and then the others
error_lines_from : (errors : List ParseError) (i : ℕ) (none : ParseError) → i < length errors
    → flat_map parse_error_line (drop i errors) ≡ parse_error_line (slice_index_or errors i none)
    ++ flat_map parse_error_line (drop (i + 1) errors)
error_lines_from [] i none within = absurd (omega arith)
error_lines_from (e ∷ es) zero none within = refl
error_lines_from (e ∷ es) (suc i) none within = error_lines_from es i none (omega arith)
    ∙ ap (λ n. parse_error_line (slice_index_or es i none)
    ++ flat_map parse_error_line (drop n (e ∷ es))) (let f : suc (i + 1) ≡ suc i + 1 = omega arith in f)

-- the same of a list that is known by another name
pub error_lines_of : (errors seen : List ParseError) (i : ℕ) (none : ParseError) → seen ≡ errors
    → i < length seen → flat_map parse_error_line (drop i errors)
    ≡ parse_error_line (slice_index_or seen i none) ++ flat_map parse_error_line (drop (i + 1) errors)
error_lines_of errors seen i none same within =
    subst (λ es. flat_map parse_error_line (drop i es)
    ≡ parse_error_line (slice_index_or seen i none) ++ flat_map parse_error_line (drop (i + 1) es))
    same (error_lines_from seen i none within)
