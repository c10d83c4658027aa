use Rattle.std.proofs.Common.{◌≡◌, length, ap, sym, ◌∙◌, ◌++◌, ◌∷◌, [], count_by, rules}
use Rattle.std.specs.Prelude.{codes, decimal, string_bytes}
use Rattle.std.proofs.lemmas.List.{length-map}
use Rattle.squawk_show.proofs.SummaryLemmas.{leaves_counted, nodes_counted, summary_in_turn}
use Rattle.squawk_show.specs.Summary.{is_token, node_count}
use Rattle.squawk_tree.specs.ChildSpans.{span_child}
use Rattle.squawk_tree.specs.Steps.{leaves, root_children}
use Rattle.squawk_show.proofs.summary.make_summary.Goals as goal

pub returns : goal.returns
returns c =
    let steps = c.args.parse.now.steps in
    let tokens : length (leaves steps) ≡ c.count_leaves-tokens.result = leaves_counted steps
    ∙ ap (count_by is_token) (sym c.steps.ensures) ∙ sym c.count_leaves-tokens.ensures in
    let children : length (root_children steps) ≡ length c.children.result.now =
    ap length (sym c.children.ensures.children) ∙ length-map c.children.result.now span_child in
    let nodes : node_count (root_children steps) ≡ c.count_nodes-nodes.result =
    ap node_count (sym c.children-2.ensures.children) ∙ nodes_counted c.children-2.result.now
    ∙ sym c.count_nodes-nodes.ensures in
    let errors : length c.args.parse.now.errors ≡ length c.errors.result.now =
    ap length (sym c.errors.ensures.errors) in
    let bytes : c.args.parse.now.len ≡ c.len-bytes.result = sym c.len-bytes.ensures.len in
    let line : string_bytes c.in_ok-line.line ≡ codes "bytes " ++ (decimal c.len-bytes.result
    ++ (codes " tokens " ++ (decimal c.count_leaves-tokens.result
    ++ (codes " children " ++ (decimal (length c.children.result.now)
    ++ (codes " nodes " ++ (decimal c.count_nodes-nodes.result
    ++ (codes " errors " ++ (decimal (length c.errors.result.now) ++ 10 ∷ []))))))))) =
    c.in_ok-line.ensures.ok in
    let items : c.into_bytes.result.items ≡ string_bytes c.in_ok-line.line = search rules in
    rw (bytes, tokens, children, nodes, errors) (items ∙ line
    ∙ summary_in_turn c.len-bytes.result c.count_leaves-tokens.result
    (length c.children.result.now) c.count_nodes-nodes.result (length c.errors.result.now))
