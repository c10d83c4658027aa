use Rattle.std.proofs.Common.{sym, ◌∙◌, arith}
use Rattle.squawk_lexer.proofs.PsqlSteps.{byte_two, byte_alone}
use Rattle.squawk_lexer.proofs.arguments.quoted_char_end.Goals as goal
use Rattle.squawk_lexer.proofs.arguments.quoted_char_end.Goals.{else-next-bytes-via-then-next-bytes+else-is_escape, else-next-bytes-via-else-next-bytes}

pub returns-then-is_escape-clause-close : goal.returns-then-is_escape-clause-close
returns-then-is_escape-clause-close c =
    byte_two c.args.quote c.args.bytes.now c.args.at c.if-next-bytes.true c.requires.plain
    c.requires.other (sym c.is_escape.ensures ∙ c.if-is_escape.true)

pub returns-else-next-bytes-clause-close : goal.returns-else-next-bytes-clause-close
returns-else-next-bytes-clause-close c = elim c.else-next-bytes.branch [
  | else-next-bytes-via-then-next-bytes+else-is_escape w ↦ byte_alone c.args.quote
      c.args.bytes.now c.args.at c.requires.inside c.requires.plain c.requires.other
      (λ _. sym w.is_escape.ensures ∙ w.if-is_escape.false)
  | else-next-bytes-via-else-next-bytes w ↦ byte_alone c.args.quote c.args.bytes.now c.args.at
      c.requires.inside c.requires.plain c.requires.other (λ more.
      absurd (omega (arith, w.if-next-bytes.false)))
]
