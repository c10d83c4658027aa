-- What contracts see of scripts and their edits.
use Rattle.std.specs.Prelude.{◌≡◌, ℕ, List, true}
use Rattle.std.specs.Str.{is_utf8}
use Rattle.squawk_script.specs.Script.{ScriptEdit, Record, records, IsScript}
use Rattle.squawk_script.specs.declared.record.Edit.{Edit}
use Rattle.squawk_script.specs.declared.record.FirstRecord.{FirstRecord}
use Rattle.squawk_script.specs.declared.script.Script.TheInside as script
use Rattle.squawk_script.specs.declared.script.Edits.TheInside as edits

-- an edit, with its new text
abbrev pub edit_value : Edit → ScriptEdit
edit_value edit = record { start = edit.start; end = edit.end; new = edit.new.now }

-- a record with its edit
abbrev pub record_value : FirstRecord → Record
record_value r = record { edit = edit_value r.edit; len = r.len }

-- the bytes of a script
abbrev pub script_bytes : script.Inside → List ℕ
script_bytes s = s.text.now

-- the text is UTF-8, and a script
pub record IsHeldScript (s : script.Inside) : Type 0 where
  pub utf8 : is_utf8 s.text.now ≡ true
  pub script : IsScript s.text.now

-- the edits of the text that is left
abbrev pub edits_left : edits.Inside → List ScriptEdit
edits_left s = records s.rest.now

-- the text that is left is UTF-8
abbrev pub IsHeldText : edits.Inside → Type 0
IsHeldText s = is_utf8 s.rest.now ≡ true
