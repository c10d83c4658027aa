use Rattle.std.specs.String.{string_bytes}
use Rattle.squawk_squeeze.proofs.SqueezeBytes.{push_last}
use Rattle.squawk_squeeze.proofs.text.Squeezer.finish.Goals as goal

pub returns : goal.returns
returns c =
    push_last (string_bytes c.push_separator.new.out) (string_bytes c.args.self.out)
    c.args.self.run c.in_ok-push_separator.ensures
