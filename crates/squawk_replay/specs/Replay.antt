-- What the edits of a script make of a text, the empty one at first, and the line of each edit.
use Rattle.std.specs.Prelude.{ℕ, ◌+◌, ⊤, List, [], ◌∷◌, ◌++◌, codes, decimal}
use Rattle.squawk_cut.specs.PlainTells.{plain_tells}
use Rattle.squawk_cut.specs.PlainValue.{PlainValue}
use Rattle.squawk_cut.specs.Tells.{Tells}
use Rattle.squawk_document.specs.Boundaries.{IsRange, splice}
use Rattle.squawk_document.specs.Edited.{edited_of}
use Rattle.squawk_document.specs.declared.edited.Edited.{Edited}
use Rattle.squawk_events.specs.declared.error.FrontError.{FrontError}
use Rattle.squawk_events.specs.declared.error.FrontError.TheVariants.{TooLong, OutOfMemory, BadRange}
use Rattle.squawk_script.specs.Script.{ScriptEdit, line_feed}

-- what a plain front tells
abbrev pub front_tells : PlainValue → Tells
front_tells front = plain_tells front.strings front.division

-- ---- texts

-- the text after an edit
abbrev pub edited_text : List ℕ → ScriptEdit → List ℕ
edited_text text edit = splice text edit.start edit.end edit.new

-- the text after edits, one after another
abbrev pub text_after : (text : List ℕ) → List ScriptEdit → List ℕ
text_after text [] = text
text_after text (edit ∷ edits) = text_after (edited_text text edit) edits

-- the text after the edits of a script
abbrev pub last_text : List ScriptEdit → List ℕ
last_text edits = text_after [] edits

-- the range of each edit is one of the text that it meets
abbrev pub AreRanges : (text : List ℕ) → List ScriptEdit → Type 0
AreRanges text [] = ⊤
AreRanges text (edit ∷ edits) =
    IsRange text edit.start edit.end × AreRanges (edited_text text edit) edits

-- ---- lines

-- three counts in decimal digits, with `+` between them
abbrev pub counts : (front middle back : ℕ) → List ℕ
counts front middle back =
    decimal front ++ (codes "+" ++ (decimal middle ++ (codes "+" ++ decimal back)))

-- the line of the edit with this number
abbrev pub edit_line : ℕ → Edited → List ℕ
edit_line number e =
    codes "edit " ++ (decimal number ++ (codes ": tokens "
    ++ (counts e.front_tokens e.cut_tokens e.back_tokens ++ (codes " children "
    ++ (counts e.front_children e.parsed_children e.back_children ++ line_feed ∷ [])))))

-- the lines of edits, one after another; the first has this number, and meets this text
abbrev pub lines_from : Tells → (number : ℕ) → (text : List ℕ) → List ScriptEdit → List ℕ
lines_from t number text [] = []
lines_from t number text (edit ∷ edits) =
    edit_line number (edited_of t text edit.start edit.end edit.new)
    ++ lines_from t (number + 1) (edited_text text edit) edits

-- the lines of the edits of a script, numbered from 1
abbrev pub edit_lines : Tells → List ScriptEdit → List ℕ
edit_lines t edits = lines_from t 1 [] edits

-- ---- errors

-- the errors that edits of a text may return
abbrev pub MayRefuseEdits : (text : List ℕ) → List ScriptEdit → FrontError → Type 0
MayRefuseEdits text edits TooLong = ⊥
MayRefuseEdits text edits OutOfMemory = ⊤
MayRefuseEdits text edits BadRange = ¬ AreRanges text edits

-- the errors that the edits of a script may return
abbrev pub MayRefuseReplay : List ScriptEdit → FrontError → Type 0
MayRefuseReplay edits = MayRefuseEdits [] edits
