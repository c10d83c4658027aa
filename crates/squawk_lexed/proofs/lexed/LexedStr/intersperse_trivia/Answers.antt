use Rattle.std.proofs.Common.{refl}
use Rattle.squawk_lexed.proofs.WeaveLemmas.{agree_for_rest, prefix_root, on_err}
use Rattle.squawk_lexed.proofs.lexed.LexedStr.intersperse_trivia.Goals as goal

pub emit_rest-requires : goal.emit_rest-requires
emit_rest-requires g c = record {
  agree =
      agree_for_rest c.args.self.now.tokens _ c.args.output.now c.steps-steps.result.now
      c.root_of.result refl c.steps-steps.ensures c.root_of.ensures c.requires.tokens;
}

pub returns-in_err-all-clause-prefix : goal.returns-in_err-all-clause-prefix
returns-in_err-all-clause-prefix g c =
    on_err _ (prefix_root _ _ _ c.args.self.now.tokens _ c.args.output.now c.steps-steps.result.now
    c.root_of.result refl c.steps-steps.ensures c.root_of.ensures c.in_ok-step.ensures.ok
    c.in_err-all.ensures.prefix)
