use Rattle.std.proofs.Common.{◌<◌, refl, sym, ap, subst, ◌∙◌, length, Some, IsUtf8}
use Rattle.std.specs.Option.{IfSome}
use Rattle.squawk_split.specs.Reader.{TextReading, IsListed}
use Rattle.squawk_split.proofs.ReaderLemmas.{listed_token, listed_in, listed_next, cut_token}
use Rattle.squawk_split.proofs.reader.TokenReader.token_at.Goals as goal

pub invariant_of-self : goal.invariant_of-self
invariant_of-self c =
    let list : IfSome (Some c.in-Some.lexed) (λ l. IsListed c.self.inside.strings
    c.self.inside.text.now c.self.inside.next l.now) = rw c.in-Some.is at c.self.invariant.1 in
    let after = listed_next c.self.inside.strings c.self.inside.text.now c.self.inside.next
    c.in-Some.lexed.now c.index_from-index.result c.args.at list
    (sym c.text_start.ensures ∙ c.if-text_start-at.true)
    (subst (λ (r : TextReading). c.args.at < length r.text) (sym c.self.view_is)
    c.requires.inside) in
    (c.self.invariant.0, rw c.in-Some.is after)

pub returns-then-text_start-at-clause-token : goal.returns-then-text_start-at-clause-token
returns-then-text_start-at-clause-token c =
    let list : IfSome (Some c.in-Some.lexed) (λ l. IsListed c.self.inside.strings
    c.self.inside.text.now c.self.inside.next l.now) = rw c.in-Some.is at c.self.invariant.1 in
    listed_token c.tokens_progress.ensures.texts c.tokens_restart.ensures.texts
    c.args.self.now.strings c.args.self.now.text c.self.inside.next c.in-Some.lexed.now
    c.index_from-index.result c.args.at _
    (subst IsUtf8 c.text-text.ensures.text c.text-text.utf8) c.requires.boundary
    (listed_in c.args.self.now c.self.inside.text.now c.self.inside.strings c.self.inside.next
    c.in-Some.lexed.now c.self.view_is list)
    (sym c.text_start.ensures ∙ c.if-text_start-at.true) c.requires.inside c.kind.ensures
    c.text_start-then-text_start-at.ensures

pub returns-clause-token : goal.returns-clause-token
returns-clause-token c =
    cut_token c.args.self.now c.args.at c.cut_at_in-token.result c.text-text.result.now
    c.range.result.now c.self.inside.strings _ c.text-text.ensures.text
    (ap (λ (r : TextReading). r.strings) c.self.view_is) c.cut_at_in-token.ensures.first
    c.range.ensures.value c.kind_of.ensures.kind refl c.cut_at_in-token.ensures.positive
    c.cut_at_in-token.ensures.ends_between
