use Rattle.std.proofs.Common.{◌≡◌, ◌∙◌, length, arith}
use Rattle.std.proofs.lemmas.Grind.{common_steps}
use Rattle.squawk_lexed.proofs.StoredLemmas.{seen_as, seen_whole, count}
use Rattle.squawk_lexed.proofs.lexed.LexedStr.len.Goals as goal

pub returns-clause-count : goal.returns-clause-count
returns-clause-count c =
    let items : c.len.result ≡ length c.self.inside.kinds.items = grind (arith, common_steps) in
    items ∙ count _ _ _ _ c.args.self.now.tokens
    (seen_as _ _ _ _ c.args.self.now c.self.view_is c.self.invariant)

pub returns-clause-sound : goal.returns-clause-sound
returns-clause-sound c = (seen_as _ _ _ _ c.args.self.now c.self.view_is c.self.invariant).sound

pub returns-clause-whole : goal.returns-clause-whole
returns-clause-whole c = (seen_whole _ _ _ _ c.args.self.now c.self.view_is c.self.invariant).0

pub returns-clause-fits : goal.returns-clause-fits
returns-clause-fits c = (seen_whole _ _ _ _ c.args.self.now c.self.view_is c.self.invariant).1
