-- Edits that are applied one after another.
use Rattle.std.proofs.Common.{◌≡◌, ℕ, ◌+◌, ◌≤◌, List, [], ◌∷◌, ◌++◌, take, drop, length, sym, ap, ◌∙◌, arith, Result, Ok, Err, inl, inr, append_assoc, append-nil, length-append, length-take, length-drop}
use Rattle.std.proofs.lemmas.Bool.{cases_lt}
use Rattle.squawk_cut.specs.Tells.{Tells}
use Rattle.squawk_document.specs.Boundaries.{IsRange, splice}
use Rattle.squawk_document.specs.Edited.{edited_of, MayRefuseEdit}
use Rattle.squawk_document.specs.declared.edited.Edited.{Edited}
use Rattle.squawk_events.specs.declared.error.FrontError.{FrontError}
use Rattle.squawk_events.specs.declared.error.FrontError.TheVariants.{TooLong, OutOfMemory, BadRange}
use Rattle.squawk_events.specs.Limit.{limit}
use Rattle.squawk_replay.specs.Replay.{text_after, edited_text, lines_from, edit_line, AreRanges, MayRefuseEdits}
use Rattle.squawk_script.specs.Laws.{new_bytes}
use Rattle.squawk_script.specs.Script.{ScriptEdit}

-- Some edits are applied to a text, and others are left. `number` edits were applied, with these
-- lines.
pub record Applied (t : Tells) (first : List ℕ) (all : List ScriptEdit) (text lines : List ℕ)
    (number : ℕ) (left : List ScriptEdit) : Type 0 where
  pub same_text : text_after text left ≡ text_after first all
  pub same_lines : lines ++ lines_from t (number + 1) text left ≡ lines_from t 1 first all
  pub ranges : AreRanges text left → AreRanges first all
  pub left_ranges : AreRanges first all → AreRanges text left
  pub short : length text + new_bytes left + length left + number ≤ limit

-- before the first edit
pub none_applied : (t : Tells) (first : List ℕ) (all : List ScriptEdit) (lines : List ℕ)
    (left : List ScriptEdit) → lines ≡ [] → left ≡ all
    → length first + new_bytes all + length all ≤ limit → Applied t first all first lines 0 left
none_applied t first all lines left none same short = record {
  same_text = ap (text_after first) same;
  same_lines = ap (λ xs. lines ++ lines_from t 1 first xs) same
      ∙ ap (λ xs. xs ++ lines_from t 1 first all) none;
  ranges = λ ranges. rw same at ranges;
  left_ranges = λ ranges. rw same ranges;
  short = rw same (omega arith);
}

-- after the last one
pub record AllApplied (t : Tells) (first : List ℕ) (all : List ScriptEdit) (text lines : List ℕ) :
    Type 0 where
  pub text_is : text ≡ text_after first all
  pub lines_are : lines ≡ lines_from t 1 first all
  pub ranges : AreRanges first all

pub all_applied : (t : Tells) (first : List ℕ) (all : List ScriptEdit) (text lines : List ℕ)
    (number : ℕ) (left : List ScriptEdit) → Applied t first all text lines number left
    → left ≡ [] → AllApplied t first all text lines
all_applied t first all text lines number left h none =
    let e : Applied t first all text lines number [] = rw none at h in
    record {
      text_is = e.same_text;
      lines_are = sym (append-nil lines) ∙ e.same_lines;
      ranges = e.ranges tt;
    }

-- what is not refused for its range has one
range_stands : (text : List ℕ) (start end : ℕ) → (¬ IsRange text start end → ⊥)
    → IsRange text start end
range_stands text start end h = record {
  ordered = le_stands start end (λ n. h (λ r. n r.ordered));
  starts = (
    le_stands start (length text) (λ n. h (λ r. n r.starts.0)),
    λ inside high. le_stands 192 _ (λ n. h (λ r. n (r.starts.1 inside high))),
  );
  ends_at = (
    le_stands end (length text) (λ n. h (λ r. n r.ends_at.0)),
    λ inside high. le_stands 192 _ (λ n. h (λ r. n (r.ends_at.1 inside high))),
  );
}
  where
    le_stands : (a b : ℕ) → (¬ (a ≤ b) → ⊥) → a ≤ b
    le_stands a b never = elim (cases_lt b a) [
      | inl below ↦ absurd (never (λ le. omega (arith, le, below)))
      | inr le ↦ le
    ]

-- the text after one edit is no longer than the text and the new bytes
splice_len : (text new : List ℕ) (start end : ℕ) → start ≤ end
    → length (splice text start end new) ≤ length text + length new
splice_len text new start end ordered =
    let whole = length-append (take start text) (new ++ drop end text) in
    let parts = length-append new (drop end text) in
    let before = length-take start text in
    let after = length-drop end text in
    omega (arith, whole, parts, before, after, ordered)

-- the bound on the texts and their number, at an edit
at_edit : (t : Tells) (first : List ℕ) (all : List ScriptEdit) (text lines : List ℕ)
    (number : ℕ) (edit : ScriptEdit) (left : List ScriptEdit)
    → Applied t first all text lines number (edit ∷ left)
    → length text + (length edit.new + new_bytes left) + length left + 1 + number ≤ limit
at_edit t first all text lines number edit left h =
    let short : length text + (length edit.new + new_bytes left) + length (edit ∷ left) + number
    ≤ limit = h.short in omega (arith, short)

-- the number of an edit
pub number_within : (t : Tells) (first : List ℕ) (all : List ScriptEdit) (text lines : List ℕ)
    (number : ℕ) (edit : ScriptEdit) (left all_left : List ScriptEdit)
    → Applied t first all text lines number all_left → all_left ≡ edit ∷ left
    → number + 1 ≤ limit
number_within t first all text lines number edit left all_left h same =
    omega (arith, at_edit t first all text lines number edit left (rw same at h))

-- a value is no error
pub ok_is_no_error : {T E : Type 0} (r s : Result T E) (x : T) (e : E) → r ≡ Ok x → s ≡ Err e
    → r ≡ s → ⊥
ok_is_no_error r s x e ok err same = cc

-- one more edit
pub one_more : (t u : Tells) (first : List ℕ) (all : List ScriptEdit) (text lines : List ℕ)
    (number : ℕ) (edit : ScriptEdit) (left all_left : List ScriptEdit) (new_text new_lines : List ℕ)
    (edited : Edited) → Applied t first all text lines number all_left → all_left ≡ edit ∷ left
    → (¬ IsRange text edit.start edit.end → ⊥)
    → new_text ≡ splice text edit.start edit.end edit.new
    → edited ≡ edited_of u text edit.start edit.end edit.new → u ≡ t
    → new_lines ≡ lines ++ edit_line (number + 1) edited
    → Applied t first all new_text new_lines (number + 1) left
one_more t u first all text lines number edit left all_left new_text new_lines edited h same
    in_range is counts tells made =
    let before : Applied t first all text lines number (edit ∷ left) = rw same at h in
    let range = range_stands text edit.start edit.end in_range in
    let len = splice_len text edit.new edit.start edit.end range.ordered in
    let short = at_edit t first all text lines number edit left before in
    let line : new_lines ≡ lines ++ edit_line (number + 1)
    (edited_of t text edit.start edit.end edit.new) =
    made ∙ ap (λ e. lines ++ edit_line (number + 1) e) (counts
    ∙ ap (λ v. edited_of v text edit.start edit.end edit.new) tells) in
    rw (is, line) (record {
      same_text = before.same_text;
      same_lines = append_assoc lines (edit_line (number + 1)
          (edited_of t text edit.start edit.end edit.new))
          (lines_from t (number + 1 + 1) (edited_text text edit) left) ∙ before.same_lines;
      ranges = λ ranges. before.ranges (range, ranges);
      left_ranges = λ ranges. (before.left_ranges ranges).1;
      short = omega (arith, len, short);
    })

-- an edit that is refused
pub refusal : (t : Tells) (first : List ℕ) (all : List ScriptEdit) (text lines : List ℕ)
    (number : ℕ) (edit : ScriptEdit) (left all_left : List ScriptEdit) (error : FrontError)
    → Applied t first all text lines number all_left → all_left ≡ edit ∷ left
    → MayRefuseEdit text edit.start edit.end edit.new error → MayRefuseEdits first all error
refusal t first all text lines number edit left all_left TooLong h same long =
    let len = splice_len text edit.new edit.start edit.end long.0.ordered in
    omega (arith, len, at_edit t first all text lines number edit left (rw same at h), long.1)
refusal t first all text lines number edit left all_left OutOfMemory h same none = tt
refusal t first all text lines number edit left all_left BadRange h same bad = λ ranges.
    let before : Applied t first all text lines number (edit ∷ left) = rw same at h in
    bad (before.left_ranges ranges).0
