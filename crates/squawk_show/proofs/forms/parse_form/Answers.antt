use Rattle.std.proofs.Common.{subst}
use Rattle.std.specs.Prelude.{IfOk}
use Rattle.squawk_show.proofs.ParseLemmas.{plain_form}
use Rattle.squawk_show.specs.Run.{IsParsedBy}
use Rattle.squawk_show.proofs.forms.parse_form.Goals as goal

pub returns-in-Report : goal.returns-in-Report
returns-in-Report c = record {
  parsed = subst (λ parse. IfOk c.parse_plain.result
      (IsParsedBy parse c.args.reading c.args.lexed.text)) (plain_form c.args.form c.in-Report.is)
      c.parse_plain.ensures.parsed;
  balanced = c.parse_plain.ensures.balanced;
  refusals = c.parse_plain.ensures.refusals;
}
