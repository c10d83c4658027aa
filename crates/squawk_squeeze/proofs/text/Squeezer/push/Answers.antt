use Rattle.std.proofs.Common.{◌∙◌}
use Rattle.std.specs.String.{string_bytes}
use Rattle.squawk_squeeze.proofs.SqueezeBytes.{push_other}
use Rattle.squawk_squeeze.proofs.text.Squeezer.push.Goals as goal

pub returns : goal.returns
returns c = λ kind ts is.
    push_other (string_bytes c.push_str.new.self) (string_bytes c.push_separator.new.out)
    (string_bytes c.args.self.now.out) c.args.self.now.run c.args.text.now kind ts c.utf8.text
    c.in_ok-push_str.ensures.bytes c.in_ok-push_separator.ensures (is ∙ c.if-trivia.false)
