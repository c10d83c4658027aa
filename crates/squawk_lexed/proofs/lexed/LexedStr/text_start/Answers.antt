use Rattle.std.proofs.Common.{◌∙◌, arith}
use Rattle.squawk_lexed.proofs.StoredLemmas.{seen_as, count_starts, start_of_token}
use Rattle.squawk_lexed.proofs.lexed.LexedStr.text_start.Goals as goal

pub index-requires : goal.index-requires
index-requires c =
    omega (
      arith,
      count_starts _ _ _ _ c.args.self.now.tokens
          (seen_as _ _ _ _ c.args.self.now c.self.view_is c.self.invariant),
      c.requires,
    )

pub returns : goal.returns
returns c = c.index.ensures
    ∙ start_of_token _ _ _ _ c.args.self.now.tokens
    (seen_as _ _ _ _ c.args.self.now c.self.view_is c.self.invariant) c.args.i _ c.requires
