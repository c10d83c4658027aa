use Rattle.std.proofs.Common.{◌≡◌, ap, subst, ◌∙◌}
use Rattle.squawk_show.proofs.ClauseLemmas.{adds_clauses}
use Rattle.squawk_show.proofs.RefusalLemmas.{accepted_status, invalid_status, over_status, bad_script_status, bad_range_status, long_quotes_status, invalid_no_tree, over_no_tree, bad_script_no_tree, bad_range_no_tree, long_quotes_no_tree, on_parsed_text}
use Rattle.squawk_show.specs.Command.{command_of, request_of}
use Rattle.squawk_show.specs.Run.{status_of, command_tree, parsed_text, AddsClauses, LeavesAreTokens, ChildrenAreStatements}
use Rattle.squawk_show.proofs.program.run.Goals as goal

pub returns-in-Ok-clause-leaves : goal.returns-in-Ok-clause-leaves
returns-in-Ok-clause-leaves g c = let t = c.in-Ok.ensures.ends.tree in
    on_parsed_text (λ text. LeavesAreTokens (request_of c.args.words.now).reading text c.in-Ok.parse)
    (command_of c.args.words.now)
    (g.S.Source.view c.args.source.now) t.0 t.1 t.2.parsed.leaves

pub returns-in-Ok-clause-children : goal.returns-in-Ok-clause-children
returns-in-Ok-clause-children g c = let t = c.in-Ok.ensures.ends.tree in
    on_parsed_text (λ text. ChildrenAreStatements (request_of c.args.words.now).reading text c.in-Ok.parse)
    (command_of c.args.words.now)
    (g.S.Source.view c.args.source.now) t.0 t.1 t.2.parsed.children

pub returns-in-Ok-clause-clauses : goal.returns-in-Ok-clause-clauses
returns-in-Ok-clause-clauses g c = λ is.
    let t = c.in-Ok.ensures.ends.tree in
    let command = command_of c.args.words.now in
    let reading = (request_of c.args.words.now).reading in
    let text = parsed_text command t.0 in
    let parsed = subst (λ other. c.in-Ok.parse ≡ command_tree other reading text) is
    t.2.parsed.parsed in
    on_parsed_text (λ text. AddsClauses reading text c.in-Ok.parse) command
    (g.S.Source.view c.args.source.now) t.0 t.1
    (adds_clauses c.clause_parses_are_plain.ensures.steps c.clause_parses_are_plain.ensures.errors
    reading text c.in-Ok.parse parsed)

pub returns-in-Ok-clause-invalid : goal.returns-in-Ok-clause-invalid
returns-in-Ok-clause-invalid g c = λ input no_read_fault.
    absurd (invalid_no_tree (request_of c.args.words.now)
    (g.S.Source.view c.args.source.now) c.in-Ok.parse c.in-Ok.ensures.ends.tree input)

pub returns-in-Ok-clause-over_limit : goal.returns-in-Ok-clause-over_limit
returns-in-Ok-clause-over_limit g c = λ input no_read_fault.
    absurd (over_no_tree (request_of c.args.words.now)
    (g.S.Source.view c.args.source.now) c.in-Ok.parse c.in-Ok.ensures.ends.tree input)

pub returns-in-Ok-clause-bad_script : goal.returns-in-Ok-clause-bad_script
returns-in-Ok-clause-bad_script g c = λ is left no_read_fault.
    absurd (bad_script_no_tree (request_of c.args.words.now)
    (g.S.Source.view c.args.source.now) c.in-Ok.parse c.in-Ok.ensures.ends.tree is left)

pub returns-in-Ok-clause-bad_range : goal.returns-in-Ok-clause-bad_range
returns-in-Ok-clause-bad_range g c = λ is left no_read_fault.
    absurd (bad_range_no_tree (request_of c.args.words.now)
    (g.S.Source.view c.args.source.now) c.in-Ok.parse c.in-Ok.ensures.ends.tree is left)

pub returns-in-Ok-clause-long_quotes : goal.returns-in-Ok-clause-long_quotes
returns-in-Ok-clause-long_quotes g c = λ is left no_read_fault.
    absurd (long_quotes_no_tree (request_of c.args.words.now)
    (g.S.Source.view c.args.source.now) c.in-Ok.parse c.in-Ok.ensures.ends.tree is left)

pub returns-in-Err-clause-taken : goal.returns-in-Err-clause-taken
returns-in-Err-clause-taken g c = λ other.
    c.in-Err.ensures.taken (λ same. other (c.status.ensures ∙ ap status_of same))

pub returns-in-Err-clause-complete : goal.returns-in-Err-clause-complete
returns-in-Err-clause-complete g c =
    rw c.status.ensures (accepted_status _ c.in-Err.error c.in-Err.ensures.ends.refusals)

pub returns-in-Err-clause-invalid : goal.returns-in-Err-clause-invalid
returns-in-Err-clause-invalid g c =
    rw c.status.ensures (invalid_status _ c.in-Err.error c.in-Err.ensures.ends.refusals)

pub returns-in-Err-clause-over_limit : goal.returns-in-Err-clause-over_limit
returns-in-Err-clause-over_limit g c =
    rw c.status.ensures (over_status _ c.in-Err.error c.in-Err.ensures.ends.refusals)

pub returns-in-Err-clause-bad_script : goal.returns-in-Err-clause-bad_script
returns-in-Err-clause-bad_script g c =
    rw c.status.ensures (bad_script_status _ c.in-Err.error c.in-Err.ensures.ends.refusals)

pub returns-in-Err-clause-bad_range : goal.returns-in-Err-clause-bad_range
returns-in-Err-clause-bad_range g c =
    rw c.status.ensures (bad_range_status _ c.in-Err.error c.in-Err.ensures.ends.refusals)

pub returns-in-Err-clause-long_quotes : goal.returns-in-Err-clause-long_quotes
returns-in-Err-clause-long_quotes g c =
    rw c.status.ensures (long_quotes_status _ c.in-Err.error c.in-Err.ensures.ends.refusals)
