use Rattle.std.proofs.Common.{◌≡◌, ◌++◌, rules}
use Rattle.squawk_show.proofs.LineLemmas.{depth_completed}
use Rattle.squawk_show.specs.Report.{kind_text, line_with_text}
use Rattle.squawk_show.proofs.line.push_rare_line.Goals as goal

pub returns-then-depth-lt-SHORT_DEPTH_LIMIT : goal.returns-then-depth-lt-SHORT_DEPTH_LIMIT
returns-then-depth-lt-SHORT_DEPTH_LIMIT c =
    let line : c.push_short_line.new.self ≡ c.push_upper_digits-digit.new.block
    ++ line_with_text c.push_upper_digits-digit.result c.args.letter (kind_text c.args.kind) c.args.range =
    search rules in
    depth_completed c.args.depth c.push_upper_digits-digit.result c.args.letter (kind_text c.args.kind)
    c.args.range c.args.block.now c.push_upper_digits-digit.new.block _
    c.push_upper_digits-digit.ensures.digits line
