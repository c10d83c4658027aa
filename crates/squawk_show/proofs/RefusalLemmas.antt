-- What the input of a command says of the status of a run, and of its tree.
use Rattle.std.proofs.Common.{◌≡◌, ℕ, ◌+◌, ◌≤◌, ◌⊎◌, inl, inr, List, ◌++◌, append-nil, length, ap, ◌∙◌, refl, sym, subst, arith, Some, None, Ok, Err, Option, Result}
use Rattle.std.specs.Prelude.{IsErr, IsSomeAnd, IfSome}
use Rattle.std.proofs.lemmas.List.{length-append}
use Rattle.std.specs.Io.KnownBytes.{Consumes, IsAtEnd}
use Rattle.squawk_events.specs.Limit.{limit}
use Rattle.squawk_events.specs.declared.error.FrontError.TheVariants.{TooLong, OutOfMemory, BadRange}
use Rattle.squawk_show.specs.Command.{Request}
use Rattle.squawk_show.specs.Edge.{SourceView, Takes, SourceFaultRose, SinkFaultRose}
use Rattle.squawk_show.specs.Outcome.{status_of_error}
use Rattle.squawk_show.specs.Run.{Run, IsRunRefusal, IsReplayRefusal, IsPrepareRefusal, IsText, IsInvalidText, IsOverLimit, IsTooLongToQuote, HasForm, IsBadScript, HasBadRange, IsAcceptedScript, IsAll, IsInput, Accepts, parsed_text, Reads, ReadsSource, HasAcceptedInput, OnParsedText, SourceFailed, IsTreeOf, IsMalformedAt, MeetsBadRange, MeetsLongQuotes, IsCutOff, text_of_script}
use Rattle.squawk_show.specs.declared.command.Command.{Command}
use Rattle.squawk_show.specs.declared.command.Command.TheVariants.{Show, Make, Replay}
use Rattle.squawk_show.specs.declared.command.Form.TheVariants.{Quotes}
use Rattle.squawk_show.specs.declared.error.RunError.{RunError}
use Rattle.squawk_show.specs.declared.error.RunError.TheVariants.{BadWords, ReadFault, NotUtf8, Front, BadScript, WriteFault}
use Rattle.squawk_tree.specs.Tree.{Tree}

-- a command whose bytes read are observable reads the source
pub reads_source : (P : List ℕ → Type 0) (command : Result Command RunError) (source : SourceView)
    → Reads P command source → ReadsSource command
reads_source P (Ok (Show form)) source h = tt
reads_source P (Ok (Make pieces)) source h = absurd h
reads_source P (Ok Replay) source h = tt
reads_source P (Err e) source h = absurd h

-- words that name no command read nothing
no_command : (command : Result Command RunError) → ReadsSource command → IsErr command → ⊥
no_command (Ok (Show form)) reads bad = cc
no_command (Ok (Make pieces)) reads bad = absurd reads
no_command (Ok Replay) reads bad = cc
no_command (Err e) reads bad = absurd reads

-- words that name no command have no input
no_input : (command : Result Command RunError) (source : SourceView)
    → HasAcceptedInput command source → IsErr command → ⊥
no_input (Ok (Show form)) source h bad = cc
no_input (Ok (Make pieces)) source h bad = cc
no_input (Ok Replay) source h bad = cc
no_input (Err e) source h bad = absurd h

-- P holds of all that is left to a command that reads it
left_read : (P : List ℕ → Type 0) (command : Result Command RunError) (source : SourceView)
    → Reads P command source → IsSomeAnd source.left P
left_read P (Ok (Show form)) source h = h
left_read P (Ok (Make pieces)) source h = absurd h
left_read P (Ok Replay) source h = h
left_read P (Err e) source h = absurd h

-- a command that reads the source accepts all that is left, if it accepts its input
accepted_left : (command : Result Command RunError) (source : SourceView) → ReadsSource command
    → HasAcceptedInput command source → IsSomeAnd source.left (Accepts command)
accepted_left (Ok (Show form)) source reads h = h
accepted_left (Ok (Make pieces)) source reads h = absurd reads
accepted_left (Ok Replay) source reads h = h
accepted_left (Err e) source reads h = absurd reads

-- the input of a command that reads the source is all that was left
input_is_all : (command : Result Command RunError) (source : SourceView) (bytes : List ℕ)
    → ReadsSource command → IsInput command source bytes → IsAll source.left bytes
input_is_all (Ok (Show form)) source bytes reads h = h
input_is_all (Ok (Make pieces)) source bytes reads h = absurd reads
input_is_all (Ok Replay) source bytes reads h = h
input_is_all (Err e) source bytes reads h = absurd reads

-- what a command that reads the source accepts is a text
accepted_text : (command : Result Command RunError) (bytes : List ℕ) → ReadsSource command
    → Accepts command bytes → IsText bytes
accepted_text (Ok (Show form)) bytes reads h = h.text
accepted_text (Ok (Make pieces)) bytes reads h = absurd reads
accepted_text (Ok Replay) bytes reads h = h.good.text
accepted_text (Err e) bytes reads h = absurd reads

-- `replay` reads the source
replay_reads : (command : Result Command RunError) → command ≡ Ok Replay → ReadsSource command
replay_reads command is = subst ReadsSource (sym is) tt

-- what `replay` accepts is a script of lawful edits
replay_accepts : (command : Result Command RunError) (bytes : List ℕ) → command ≡ Ok Replay
    → Accepts command bytes → IsAcceptedScript bytes
replay_accepts command bytes is h = subst (λ c. Accepts c bytes) is h

-- `quote` reads the source
quote_reads : (command : Result Command RunError) → command ≡ Ok (Show Quotes)
    → ReadsSource command
quote_reads command is = subst ReadsSource (sym is) tt

-- `quote` is not `replay`
quote_is_no_replay : (command : Result Command RunError) → command ≡ Ok (Show Quotes)
    → command ≡ Ok Replay → ⊥
quote_is_no_replay command quotes replays = cc

-- what `quote` accepts has quotes within the limit
quote_accepts : (command : Result Command RunError) (bytes : List ℕ) → command ≡ Ok (Show Quotes)
    → Accepts command bytes → HasForm Quotes bytes
quote_accepts command bytes is h = subst (λ c. Accepts c bytes) is h

-- two properties of all bytes left, which no bytes have both
both_left : (P Q : List ℕ → Type 0) (left : Option (List ℕ)) (bytes : List ℕ)
    → ((bs : List ℕ) → P bs → Q bs → ⊥) → IsSomeAnd left P → IsAll left bytes → Q bytes → ⊥
both_left P Q None bytes apart known all h = absurd known
both_left P Q (Some left) bytes apart known all h = apart left known (subst Q (sym all) h)

-- no more bytes are taken than were left
over_taken : (P : List ℕ → Type 0) (left after : Option (List ℕ)) (taken : List ℕ)
    → ((bs : List ℕ) → P bs → length bs ≤ limit) → IsSomeAnd left P → Consumes left after taken
    → length taken ≡ limit + 1 → ⊥
over_taken P None after taken within known h size = absurd known
over_taken P (Some left) None taken within known h size = absurd h
over_taken P (Some left) (Some rest) taken within known h size =
    let short : length left ≤ limit = within left known in
    let e = ap length h in
    let f = length-append taken rest in
    absurd (omega arith)

-- The bytes left are of a class P. For each cause of a refusal, and for the trees, none of the
-- class has it.
module _ (P : List ℕ → Type 0) (request : Request) (old : SourceView)
    (left : IsSomeAnd old.left P) where
  no_tree : (tree : Tree) → ((bs : List ℕ) → P bs → Accepts request.command bs → ⊥)
      → ReadsSource request.command → IsTreeOf request old tree → ⊥
  no_tree tree apart reads t = both_left P (Accepts request.command) old.left t.0 apart left
      (input_is_all request.command old t.0 reads t.1) t.2.accepted

  no_bad_script : (at : ℕ) (new : SourceView) → ((bs : List ℕ) → P bs → IsBadScript bs → ⊥)
      → IsMalformedAt at request.command old new → ⊥
  no_bad_script at new apart h = both_left P IsBadScript old.left h.input.0 apart left
      (input_is_all request.command old h.input.0 (replay_reads request.command h.replay)
      h.input.1) h.input.2

  no_bad_range : (new : SourceView) → ((bs : List ℕ) → P bs → HasBadRange bs → ⊥)
      → MeetsBadRange request.command old new → ⊥
  no_bad_range new apart h = both_left P HasBadRange old.left h.input.0 apart left
      (input_is_all request.command old h.input.0 (replay_reads request.command h.replay)
      h.input.1) h.input.2

  no_long_quotes : (new : SourceView) → ((bs : List ℕ) → P bs → IsTooLongToQuote bs → ⊥)
      → MeetsLongQuotes request.command old new → ⊥
  no_long_quotes new apart h = both_left P IsTooLongToQuote old.left h.input.0 apart left
      (input_is_all request.command old h.input.0 (quote_reads request.command h.quotes)
      h.input.1) h.input.2

-- `over_no_tree` to `long_quotes_no_tree`: an input of such a class has no tree
pub over_no_tree : (request : Request) (source : SourceView) (tree : Tree)
    → IsTreeOf request source tree → Reads IsOverLimit request.command source → ⊥
over_no_tree request source tree t input =
    let reads = reads_source IsOverLimit request.command source input in
    no_tree IsOverLimit request source (left_read IsOverLimit request.command source input) tree
    (λ bs over ok. let small = (accepted_text request.command bs reads ok).within in
    omega arith) reads t

pub invalid_no_tree : (request : Request) (source : SourceView) (tree : Tree)
    → IsTreeOf request source tree → Reads IsInvalidText request.command source → ⊥
invalid_no_tree request source tree t input =
    let reads = reads_source IsInvalidText request.command source input in
    no_tree IsInvalidText request source
    (left_read IsInvalidText request.command source input) tree
    (λ bs bad ok. bad.invalid (accepted_text request.command bs reads ok).valid) reads t

pub bad_script_no_tree : (request : Request) (source : SourceView) (tree : Tree)
    → IsTreeOf request source tree → request.command ≡ Ok Replay
    → IsSomeAnd source.left IsBadScript → ⊥
bad_script_no_tree request source tree t is left = no_tree IsBadScript request source left tree
    (λ bs bad ok. bad.bad (replay_accepts request.command bs is ok).good.script)
    (replay_reads request.command is) t

pub bad_range_no_tree : (request : Request) (source : SourceView) (tree : Tree)
    → IsTreeOf request source tree → request.command ≡ Ok Replay
    → IsSomeAnd source.left HasBadRange → ⊥
bad_range_no_tree request source tree t is left = no_tree HasBadRange request source left tree
    (λ bs bad ok. bad.range (replay_accepts request.command bs is ok).ranges)
    (replay_reads request.command is) t

pub long_quotes_no_tree : (request : Request) (source : SourceView) (tree : Tree)
    → IsTreeOf request source tree → request.command ≡ Ok (Show Quotes)
    → IsSomeAnd source.left IsTooLongToQuote → ⊥
long_quotes_no_tree request source tree t is left =
    no_tree IsTooLongToQuote request source left tree
    (λ bs long ok. long.long (quote_accepts request.command bs is ok).within)
    (quote_reads request.command is) t

-- the tree whose output was cut off
cut_off_tree : (run : Run) → IsCutOff run
    → (tree : Tree) × IsTreeOf run.request run.source_before tree
cut_off_tree run h = (h.prefix.0, (h.prefix.2.0, h.prefix.2.1, h.prefix.2.2))

-- `accepted_status` to `long_quotes_status`: the status of a refused run by its input
pub accepted_status : (run : Run) (e : RunError) → IsRunRefusal run e
    → HasAcceptedInput run.request.command run.source_before
    → ¬ (SourceFailed run.request.command run.source_before run.source_after)
    → ¬ (SinkFaultRose run.out_before run.out_after)
    → (status_of_error e ≡ 0) ⊎ (status_of_error e ≡ 6)
accepted_status run BadWords h input no_read_fault no_write_fault =
    absurd (no_input run.request.command run.source_before input h)
accepted_status run ReadFault h input no_read_fault no_write_fault = absurd (no_read_fault h)
accepted_status run (NotUtf8 at) h input no_read_fault no_write_fault =
    absurd (both_left (Accepts run.request.command) IsInvalidText run.source_before.left h.input.0
    (λ bs ok bad. bad.invalid (accepted_text run.request.command bs h.reads ok).valid)
    (accepted_left run.request.command run.source_before h.reads input)
    (input_is_all run.request.command run.source_before h.input.0 h.reads h.input.1) h.input.2)
accepted_status run (Front TooLong) (inl h) input no_read_fault no_write_fault =
    absurd (over_taken (Accepts run.request.command) run.source_before.left run.source_after.left
    h.1.0
    (λ bs ok. (accepted_text run.request.command bs h.0 ok).within)
    (accepted_left run.request.command run.source_before h.0 input) h.1.1.consumed h.1.2)
accepted_status run (Front TooLong) (inr h) input no_read_fault no_write_fault =
    absurd (no_long_quotes (Accepts run.request.command) run.request run.source_before
    (accepted_left run.request.command run.source_before (quote_reads run.request.command
    h.quotes) input)
    run.source_after
    (λ bs ok long. long.long (quote_accepts run.request.command bs h.quotes ok).within) h)
accepted_status run (Front OutOfMemory) h input no_read_fault no_write_fault = inr refl
accepted_status run (Front BadRange) h input no_read_fault no_write_fault =
    absurd (no_bad_range (Accepts run.request.command) run.request run.source_before
    (accepted_left run.request.command run.source_before (replay_reads run.request.command
    h.replay) input)
    run.source_after
    (λ bs ok bad. bad.range (replay_accepts run.request.command bs h.replay ok).ranges) h)
accepted_status run (BadScript at) h input no_read_fault no_write_fault =
    absurd (no_bad_script (Accepts run.request.command) run.request run.source_before
    (accepted_left run.request.command run.source_before (replay_reads run.request.command
    h.replay) input)
    at run.source_after
    (λ bs ok bad. bad.bad (replay_accepts run.request.command bs h.replay ok).good.script) h)
accepted_status run WriteFault h input no_read_fault no_write_fault =
    absurd (no_write_fault h.fault)

pub invalid_status : (run : Run) (e : RunError) → IsRunRefusal run e
    → Reads IsInvalidText run.request.command run.source_before
    → ¬ (SourceFailed run.request.command run.source_before run.source_after)
    → (status_of_error e ≡ 4) ⊎ (status_of_error e ≡ 6)
invalid_status run BadWords h input no_read_fault = absurd (no_command run.request.command
    (reads_source IsInvalidText run.request.command run.source_before input) h)
invalid_status run ReadFault h input no_read_fault = absurd (no_read_fault h)
invalid_status run (NotUtf8 at) h input no_read_fault = inl refl
invalid_status run (Front TooLong) (inr h) input no_read_fault =
    absurd (no_long_quotes IsInvalidText run.request run.source_before
    (left_read IsInvalidText run.request.command run.source_before input) run.source_after
    (λ bs bad long. bad.invalid long.text.valid) h)
invalid_status run (Front TooLong) (inl h) input no_read_fault =
    absurd (over_taken IsInvalidText run.source_before.left run.source_after.left h.1.0
    (λ bs bad. bad.within) (left_read IsInvalidText run.request.command run.source_before input)
    h.1.1.consumed h.1.2)
invalid_status run (Front OutOfMemory) h input no_read_fault = inr refl
invalid_status run (Front BadRange) h input no_read_fault =
    absurd (no_bad_range IsInvalidText run.request run.source_before
    (left_read IsInvalidText run.request.command run.source_before input) run.source_after
    (λ bs bad other. bad.invalid other.good.text.valid) h)
invalid_status run (BadScript at) h input no_read_fault =
    absurd (no_bad_script IsInvalidText run.request run.source_before
    (left_read IsInvalidText run.request.command run.source_before input) at run.source_after
    (λ bs bad other. bad.invalid other.text.valid) h)
invalid_status run WriteFault h input no_read_fault = let t = cut_off_tree run h in
    absurd (invalid_no_tree run.request run.source_before t.0 t.1 input)

pub over_status : (run : Run) (e : RunError) → IsRunRefusal run e
    → Reads IsOverLimit run.request.command run.source_before
    → ¬ (SourceFailed run.request.command run.source_before run.source_after)
    → (status_of_error e ≡ 5) ⊎ (status_of_error e ≡ 6)
over_status run BadWords h input no_read_fault = absurd (no_command run.request.command
    (reads_source IsOverLimit run.request.command run.source_before input) h)
over_status run ReadFault h input no_read_fault = absurd (no_read_fault h)
over_status run (NotUtf8 at) h input no_read_fault =
    absurd (both_left IsOverLimit IsInvalidText run.source_before.left h.input.0
    (λ bs over bad. let small = bad.within in omega arith)
    (left_read IsOverLimit run.request.command run.source_before input)
    (input_is_all run.request.command run.source_before h.input.0 h.reads h.input.1) h.input.2)
over_status run (Front TooLong) h input no_read_fault = inl refl
over_status run (Front OutOfMemory) h input no_read_fault = inr refl
over_status run (Front BadRange) h input no_read_fault =
    absurd (no_bad_range IsOverLimit run.request run.source_before
    (left_read IsOverLimit run.request.command run.source_before input) run.source_after
    (λ bs over bad. let small = bad.good.text.within in omega arith) h)
over_status run (BadScript at) h input no_read_fault =
    absurd (no_bad_script IsOverLimit run.request run.source_before
    (left_read IsOverLimit run.request.command run.source_before input) at run.source_after
    (λ bs over bad. let small = bad.text.within in omega arith) h)
over_status run WriteFault h input no_read_fault = let t = cut_off_tree run h in
    absurd (over_no_tree run.request run.source_before t.0 t.1 input)

pub bad_script_status : (run : Run) (e : RunError) → IsRunRefusal run e
    → run.request.command ≡ Ok Replay
    → IsSomeAnd run.source_before.left IsBadScript
    → ¬ (SourceFaultRose run.source_before run.source_after)
    → (status_of_error e ≡ 8) ⊎ (status_of_error e ≡ 6)
bad_script_status run BadWords h is left no_read_fault =
    absurd (no_command run.request.command (replay_reads run.request.command is) h)
bad_script_status run ReadFault h is left no_read_fault = absurd (no_read_fault h.1)
bad_script_status run (NotUtf8 at) h is left no_read_fault =
    absurd (both_left IsBadScript IsInvalidText run.source_before.left h.input.0
    (λ bs bad other. other.invalid bad.text.valid) left
    (input_is_all run.request.command run.source_before h.input.0 h.reads h.input.1) h.input.2)
bad_script_status run (Front TooLong) (inr h) is left no_read_fault =
    absurd (quote_is_no_replay run.request.command h.quotes is)
bad_script_status run (Front TooLong) (inl h) is left no_read_fault =
    absurd (over_taken IsBadScript run.source_before.left run.source_after.left h.1.0
    (λ bs bad. bad.text.within) left h.1.1.consumed h.1.2)
bad_script_status run (Front OutOfMemory) h is left no_read_fault = inr refl
bad_script_status run (Front BadRange) h is left no_read_fault =
    absurd (no_bad_range IsBadScript run.request run.source_before left run.source_after
    (λ bs bad other. bad.bad other.good.script) h)
bad_script_status run (BadScript at) h is left no_read_fault = inl refl
bad_script_status run WriteFault h is left no_read_fault = let t = cut_off_tree run h in
    absurd (bad_script_no_tree run.request run.source_before t.0 t.1 is left)

pub bad_range_status : (run : Run) (e : RunError) → IsRunRefusal run e
    → run.request.command ≡ Ok Replay
    → IsSomeAnd run.source_before.left HasBadRange
    → ¬ (SourceFaultRose run.source_before run.source_after)
    → (status_of_error e ≡ 9) ⊎ (status_of_error e ≡ 6)
bad_range_status run BadWords h is left no_read_fault =
    absurd (no_command run.request.command (replay_reads run.request.command is) h)
bad_range_status run ReadFault h is left no_read_fault = absurd (no_read_fault h.1)
bad_range_status run (NotUtf8 at) h is left no_read_fault =
    absurd (both_left HasBadRange IsInvalidText run.source_before.left h.input.0
    (λ bs bad other. other.invalid bad.good.text.valid) left
    (input_is_all run.request.command run.source_before h.input.0 h.reads h.input.1) h.input.2)
bad_range_status run (Front TooLong) (inr h) is left no_read_fault =
    absurd (quote_is_no_replay run.request.command h.quotes is)
bad_range_status run (Front TooLong) (inl h) is left no_read_fault =
    absurd (over_taken HasBadRange run.source_before.left run.source_after.left h.1.0
    (λ bs bad. bad.good.text.within) left h.1.1.consumed h.1.2)
bad_range_status run (Front OutOfMemory) h is left no_read_fault = inr refl
bad_range_status run (Front BadRange) h is left no_read_fault = inl refl
bad_range_status run (BadScript at) h is left no_read_fault =
    absurd (no_bad_script HasBadRange run.request run.source_before left at run.source_after
    (λ bs bad other. other.bad bad.good.script) h)
bad_range_status run WriteFault h is left no_read_fault = let t = cut_off_tree run h in
    absurd (bad_range_no_tree run.request run.source_before t.0 t.1 is left)

pub long_quotes_status : (run : Run) (e : RunError) → IsRunRefusal run e
    → run.request.command ≡ Ok (Show Quotes)
    → IsSomeAnd run.source_before.left IsTooLongToQuote
    → ¬ (SourceFaultRose run.source_before run.source_after)
    → (status_of_error e ≡ 5) ⊎ (status_of_error e ≡ 6)
long_quotes_status run BadWords h is left no_read_fault =
    absurd (no_command run.request.command (quote_reads run.request.command is) h)
long_quotes_status run ReadFault h is left no_read_fault = absurd (no_read_fault h.1)
long_quotes_status run (NotUtf8 at) h is left no_read_fault =
    absurd (both_left IsTooLongToQuote IsInvalidText run.source_before.left h.input.0
    (λ bs long other. other.invalid long.text.valid) left
    (input_is_all run.request.command run.source_before h.input.0 h.reads h.input.1) h.input.2)
long_quotes_status run (Front TooLong) h is left no_read_fault = inl refl
long_quotes_status run (Front OutOfMemory) h is left no_read_fault = inr refl
long_quotes_status run (Front BadRange) h is left no_read_fault =
    absurd (quote_is_no_replay run.request.command is h.replay)
long_quotes_status run (BadScript at) h is left no_read_fault =
    absurd (quote_is_no_replay run.request.command is h.replay)
long_quotes_status run WriteFault h is left no_read_fault = let t = cut_off_tree run h in
    absurd (long_quotes_no_tree run.request run.source_before t.0 t.1 is left)

-- bytes that were taken up to the end are all that was left
all_taken : (left after : Option (List ℕ)) (bytes : List ℕ) → Consumes left after bytes
    → IsAtEnd after → IsAll left bytes
all_taken None after bytes h end = tt
all_taken (Some left) None bytes h end = absurd h
all_taken (Some left) (Some rest) bytes h end =
    h ∙ ap (λ xs. bytes ++ xs) end ∙ append-nil bytes

-- why a script was not applied whose bytes were taken up to the end
pub replay_refused : (old new : SourceView) (bytes : List ℕ) (e : RunError)
    → Takes old new bytes → IsAtEnd new.left → IsReplayRefusal bytes e
    → IsPrepareRefusal Replay old new e
replay_refused old new bytes BadWords takes end h = absurd h
replay_refused old new bytes ReadFault takes end h = absurd h
replay_refused old new bytes (NotUtf8 at) takes end h = record {
  reads = tt;
  end = end;
  input = (bytes, all_taken old.left new.left bytes takes.consumed end, h.0, h.1);
}
replay_refused old new bytes (Front TooLong) takes end h = absurd h
replay_refused old new bytes (Front OutOfMemory) takes end h = tt
replay_refused old new bytes (Front BadRange) takes end h = record {
  replay = refl;
  end = end;
  input = (bytes, all_taken old.left new.left bytes takes.consumed end, h);
}
replay_refused old new bytes (BadScript at) takes end h = record {
  replay = refl;
  end = end;
  input = (bytes, all_taken old.left new.left bytes takes.consumed end, h.0, h.1);
}
replay_refused old new bytes WriteFault takes end h = absurd h

-- what holds of an input holds of all bytes left
on_left : (P : List ℕ → Type 0) (left : Option (List ℕ)) (input : List ℕ) → IsAll left input
    → P input → IfSome left P
on_left P None input all h = tt
on_left P (Some left) input all h = subst P (sym all) h

-- what holds of the text that a command parses for its input holds where that is observable
pub on_parsed_text : (P : List ℕ → Type 0) (command : Result Command RunError)
    (source : SourceView) (input : List ℕ) → IsInput command source input
    → P (parsed_text command input) → OnParsedText P command source
on_parsed_text P (Ok (Show form)) source input is h = on_left P source.left input is h
on_parsed_text P (Ok (Make pieces)) source input is h = subst P (sym is) h
on_parsed_text P (Ok Replay) source input is h =
    on_left (λ script. P (text_of_script script)) source.left input is h
on_parsed_text P (Err e) source input is h = absurd is
