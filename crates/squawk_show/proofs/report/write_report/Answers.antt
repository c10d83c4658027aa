use Rattle.std.proofs.Common.{◌++◌, append_assoc, subst, sym}
use Rattle.std.specs.Prelude.{flat_map}
use Rattle.squawk_show.proofs.OutputLemmas.{on_ok, takes_end, takes_longer, takes_prefix, takes_rest, takes_then, tree_taken}
use Rattle.squawk_show.specs.Output.{TakesAllBut}
use Rattle.squawk_show.specs.Report.{parse_error_line, tree_lines}
use Rattle.squawk_show.proofs.report.write_report.Goals as goal

pub returns-in_err-push_tree_lines-clause-prefix : goal.returns-in_err-push_tree_lines-clause-prefix
returns-in_err-push_tree_lines-clause-prefix g c =
    let view = g.K.Sink.view in
    let head = c.args.head.now in
    let held = c.push_head.new.block in
    let lines = tree_lines c.args.parse.now.steps in
    let errors = flat_map parse_error_line c.args.parse.now.errors in
    takes_prefix (view c.args.sink.now) (view c.push_head.new.sink)
    (view c.push_tree_lines.new.sink) (head ++ (lines ++ errors)) (held ++ lines) errors
    (subst (TakesAllBut (view c.args.sink.now) (view c.push_head.new.sink)
    (head ++ (lines ++ errors))) (sym (append_assoc held lines errors))
    (takes_longer _ _ head held (lines ++ errors) c.in_ok-push_head.ensures.ok))
    c.in_err-push_tree_lines.ensures.prefix

pub
    returns-in_err-push_error_lines-clause-prefix : goal.returns-in_err-push_error_lines-clause-prefix
returns-in_err-push_error_lines-clause-prefix g c =
    let view = g.K.Sink.view in
    takes_end (view c.args.sink.now) (view c.push_tree_lines.new.sink)
    (view c.push_error_lines.new.sink) _ _
    (tree_taken _ _ _ _ _ _ _ _ c.in_ok-push_head.ensures.ok c.in_ok-push_tree_lines.ensures.ok)
    c.in_err-push_error_lines.ensures.prefix

pub returns-clause-ok : goal.returns-clause-ok
returns-clause-ok g c =
    let view = g.K.Sink.view in
    let start = view c.args.sink.now in
    let end = view c.push_error_lines.new.sink in
    let held : TakesAllBut start end _ c.as_bytes.result.now =
    subst (TakesAllBut start end _) (sym c.as_bytes.ensures) (takes_then _ _ _ _ _ _
    (tree_taken _ _ _ _ _ _ _ _ c.in_ok-push_head.ensures.ok c.in_ok-push_tree_lines.ensures.ok)
    c.in_ok-push_error_lines.ensures.ok) in
    on_ok _ _ (takes_rest start end (view c.write_whole.new.sink) _ _ held)
    c.write_whole.result c.write_whole.ensures.ok

pub returns-clause-prefix : goal.returns-clause-prefix
returns-clause-prefix g c =
    let view = g.K.Sink.view in
    let start = view c.args.sink.now in
    let end = view c.push_error_lines.new.sink in
    let held : TakesAllBut start end _ c.as_bytes.result.now =
    subst (TakesAllBut start end _) (sym c.as_bytes.ensures) (takes_then _ _ _ _ _ _
    (tree_taken _ _ _ _ _ _ _ _ c.in_ok-push_head.ensures.ok c.in_ok-push_tree_lines.ensures.ok)
    c.in_ok-push_error_lines.ensures.ok) in
    takes_end start end (view c.write_whole.new.sink) _ _ held c.write_whole.ensures.prefix
