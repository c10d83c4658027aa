use Rattle.std.proofs.Common.{refl, ℕ, ◌+◌, ◌-◌, ◌<◌, ◌≤◌, length, take, ap, sym, subst, ◌∙◌, arith, Option}
use Rattle.std.specs.Option.{IfSome}
use Rattle.squawk_cut.specs.Tokens.{tokens_of}
use Rattle.squawk_document.specs.Boundaries.{total_len}
use Rattle.squawk_document.proofs.TokenEditSteps.{old_total}
use Rattle.squawk_document.proofs.ChildEditSteps.{get_ready, ready_front, child_edit_in, meeting_high, meeting_from}
use Rattle.squawk_document.proofs.child_edit.edit_children.Goals as goal

pub meeting_in_new-m-requires-clause-past : goal.meeting_in_new-m-requires-clause-past
meeting_in_new-m-requires-clause-past g c =
    meeting_high c.args.start c.args.end c.args.new.now
    (tokens_of (g.F.Front.tells c.args.front.now) c.args.text.now) c.args.new_tokens.now
    c.args.meeting c.requires.meeting
    (omega (
      arith,
      old_total _ (g.met.F.Front.lawful c.args.front.now) c.args.text.now
          (tokens_of (g.F.Front.tells c.args.front.now) c.args.text.now) c.utf8.text refl,
    ))

pub parse_to_return-requires-clause-meeting : goal.parse_to_return-requires-clause-meeting
parse_to_return-requires-clause-meeting g c =
    subst (λ (o : Option ℕ). IfSome o
    (λ m. (c.args.start + length c.args.new.now ≤ m) ×
    (0 < m - (c.args.start + length c.args.new.now) + c.args.end)))
    (sym c.meeting_in_new-m.ensures)
    (meeting_from c.args.start c.args.end c.args.new.now
    (tokens_of (g.F.Front.tells c.args.front.now) c.args.text.now) c.args.new_tokens.now
    c.args.meeting c.requires.meeting)

pub parse_to_return-requires-clause-index : goal.parse_to_return-requires-clause-index
parse_to_return-requires-clause-index g c =
    let r = get_ready _ c.args.text.now c.args.start c.args.end c.args.new.now
    (tokens_of (g.F.Front.tells c.args.front.now) c.args.text.now) c.args.new_tokens.now
    c.args.part.tokens_end c.args.children.now c.args.part.children c.utf8.text c.utf8.new
    c.requires.range refl c.requires.new_tokens c.requires.children c.requires.begins
    c.requires.front in
    let f = ready_front _ (g.met.F.Front.lawful c.args.front.now) _ _ _ _ _ _ _ _ _ r in
    c.requires.front.offset ∙ f.index
    ∙ ap (λ n. total_len (take n c.args.new_tokens.now)) (sym c.requires.front.index)

pub parse_to_return-requires-clause-index_within : goal.parse_to_return-requires-clause-index_within
parse_to_return-requires-clause-index_within g c =
    let r = get_ready _ c.args.text.now c.args.start c.args.end c.args.new.now
    (tokens_of (g.F.Front.tells c.args.front.now) c.args.text.now) c.args.new_tokens.now
    c.args.part.tokens_end c.args.children.now c.args.part.children c.utf8.text c.utf8.new
    c.requires.range refl c.requires.new_tokens c.requires.children c.requires.begins
    c.requires.front in
    let f = ready_front _ (g.met.F.Front.lawful c.args.front.now) _ _ _ _ _ _ _ _ _ r in
    subst (λ n. n ≤ length c.args.new_tokens.now) (sym c.requires.front.index) f.index_within

pub returns-clause-children : goal.returns-clause-children
returns-clause-children g c =
    let r = get_ready _ c.args.text.now c.args.start c.args.end c.args.new.now
    (tokens_of (g.F.Front.tells c.args.front.now) c.args.text.now) c.args.new_tokens.now
    c.args.part.tokens_end c.args.children.now c.args.part.children c.utf8.text c.utf8.new
    c.requires.range refl c.requires.new_tokens c.requires.children c.requires.begins
    c.requires.front in
    child_edit_in _ (g.met.F.Front.lawful c.args.front.now) _ _ _ _ _ _ _ _ _
    c.in_ok-parsed.parsed.children.items c.in_ok-parsed.parsed.back c.args.meeting
    c.meeting_in_new-m.result c.args.new_text.now c.back_index-back.result
    r c.requires.front c.requires.meeting c.requires.new_text_is c.meeting_in_new-m.ensures
    c.back_index-back.ensures c.in_ok-parsed.ensures.children
