use Rattle.squawk_cut.specs.PlainLaws.{plain_lawful}
use Rattle.squawk_cut.proofs.plain.PlainFront.new_divided.Goals as goal

pub invariant_of-result : goal.invariant_of-result
invariant_of-result c = (
  plain_lawful c.tokens_progress.ensures.texts c.tokens_look_ahead.ensures.texts
      c.first_children_stay.ensures.within c.first_children_stay.ensures.stays c.args.strings
      c.args.division,
  tt,
)
