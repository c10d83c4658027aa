use Rattle.std.proofs.Common.{length, ◌≤◌, subst, sym, ◌≡◌, rules}
use Rattle.std.specs.Prelude.{string_bytes}
use Rattle.squawk_events.specs.Limit.{limit}
use Rattle.squawk_show.specs.Made.{made}
use Rattle.squawk_show.proofs.MadeLemmas.{made_within}
use Rattle.squawk_show.proofs.made.make_text.Goals as goal

pub returns-clause-within : goal.returns-clause-within
returns-clause-within c =
    let all : string_bytes c.loop-i.text ≡ made c.args.pieces = search rules in
    subst (λ bytes. length bytes ≤ limit) (sym all) (made_within c.args.pieces c.requires)
