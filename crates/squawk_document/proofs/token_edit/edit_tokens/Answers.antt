use Rattle.std.proofs.Common.{◌≡◌, length, take, drop, ◌++◌, ap, sym, ◌∙◌, arith}
use Rattle.squawk_document.proofs.TokenEditSteps.{prepare, token_edit_in, boundary_in, old_total, begins_in, meeting_in}
use Rattle.squawk_document.proofs.token_edit.edit_tokens.Goals as goal

pub cut_to_meeting-requires-clause-old_small : goal.cut_to_meeting-requires-clause-old_small
cut_to_meeting-requires-clause-old_small g c =
    omega (
      arith,
      old_total _ (g.met.F.Front.lawful c.args.front.now) c.args.text.now c.args.old.now
          c.utf8.text c.requires.tokens,
    )

pub cut_to_meeting-requires-clause-boundary : goal.cut_to_meeting-requires-clause-boundary
cut_to_meeting-requires-clause-boundary g c =
    let p = prepare _ c.args.text.now c.args.start c.args.end c.args.new.now c.args.old.now
    c.args.from c.utf8.text c.utf8.new c.requires.range c.requires.tokens c.requires.front in
    boundary_in _ (g.met.F.Front.lawful c.args.front.now) _ _ _ _ _ _ _ _ _ p
    (c.as_str.ensures.value ∙ c.in_ok-new_text.ensures)

pub returns-clause-tokens : goal.returns-clause-tokens
returns-clause-tokens g c =
    let p = prepare _ c.args.text.now c.args.start c.args.end c.args.new.now c.args.old.now
    c.args.from c.utf8.text c.utf8.new c.requires.range c.requires.tokens c.requires.front in
    let r = token_edit_in
    _ (g.met.F.Front.lawful c.args.front.now) _ _ _ _ _ _ _ _ c.in_ok-cut.cut.tokens.items
    c.in_ok-cut.cut.meeting _ p (c.as_str.ensures.value ∙ c.in_ok-new_text.ensures)
    c.in_ok-cut.ensures.tokens in
    ap (λ n. take c.args.from.index c.args.old.now ++
    (c.in_ok-cut.cut.tokens.items ++ drop n c.args.old.now)) c.back_index-back.ensures.value
    ∙ r.tokens

pub returns-clause-counts : goal.returns-clause-counts
returns-clause-counts g c =
    let p = prepare _ c.args.text.now c.args.start c.args.end c.args.new.now c.args.old.now
    c.args.from c.utf8.text c.utf8.new c.requires.range c.requires.tokens c.requires.front in
    let r = token_edit_in
    _ (g.met.F.Front.lawful c.args.front.now) _ _ _ _ _ _ _ _ c.in_ok-cut.cut.tokens.items
    c.in_ok-cut.cut.meeting _ p (c.as_str.ensures.value ∙ c.in_ok-new_text.ensures)
    c.in_ok-cut.ensures.tokens in
    let e = r.edited in
    let len : c.len.result ≡ length c.in_ok-cut.cut.tokens.items = c.len.ensures
    ∙ c.in_ok-cut.cut.tokens.ok.0 in
    let back_is = c.back_len.ensures in
    cc

pub returns-clause-begins : goal.returns-clause-begins
returns-clause-begins g c =
    let p = prepare _ c.args.text.now c.args.start c.args.end c.args.new.now c.args.old.now
    c.args.from c.utf8.text c.utf8.new c.requires.range c.requires.tokens c.requires.front in
    let r = token_edit_in
    _ (g.met.F.Front.lawful c.args.front.now) _ _ _ _ _ _ _ _ c.in_ok-cut.cut.tokens.items
    c.in_ok-cut.cut.meeting _ p (c.as_str.ensures.value ∙ c.in_ok-new_text.ensures)
    c.in_ok-cut.ensures.tokens in
    begins_in c.args.old.now _ c.args.start c.args.from c.in_ok-cut.cut.tokens.items
    c.in_ok-cut.cut.meeting c.requires.front.within
    c.requires.front.offset r.low (sym r.tokens) r.begins

pub returns-clause-meeting : goal.returns-clause-meeting
returns-clause-meeting g c =
    let p = prepare _ c.args.text.now c.args.start c.args.end c.args.new.now c.args.old.now
    c.args.from c.utf8.text c.utf8.new c.requires.range c.requires.tokens c.requires.front in
    let r = token_edit_in
    _ (g.met.F.Front.lawful c.args.front.now) _ _ _ _ _ _ _ _ c.in_ok-cut.cut.tokens.items
    c.in_ok-cut.cut.meeting _ p (c.as_str.ensures.value ∙ c.in_ok-new_text.ensures)
    c.in_ok-cut.ensures.tokens in
    meeting_in c.args.old.now c.in_ok-cut.cut.meeting _ c.in_ok-cut.ensures.offset
    c.offset_of.ensures ∙ sym r.meeting_is
