use Rattle.std.proofs.Common.{◌≡◌, ℕ, ◌+◌, ◌<◌, ◌≤◌, length, List, [], ◌∷◌, ap, sym, ◌∙◌, arith, length-append}
use Rattle.squawk_lexer.specs.declared.token.Token.{Token}
use Rattle.squawk_cut.specs.Tells.{Tells}
use Rattle.squawk_document.proofs.CutSteps.{next_token, cutting_more, cut_meets}
use Rattle.squawk_document.proofs.recut.cut_to_meeting.Goals as goal

told : (t u : Tells) (x : Token) (b : _) (w : List ℕ) → u ≡ t → x ≡ u.token_at b w
    → x ≡ t.token_at b w
told t u x b w e f = f ∙ ap (λ (v : Tells). v.token_at b w) e

pub find_boundary-search-requires-clause-at_small :
    goal.find_boundary-search-requires-clause-at_small
find_boundary-search-requires-clause-at_small g c =
    let is = told _ _ _ _ _ c.loop-at.invariant.tells c.cut_next-token.ensures.token in
    let n = next_token _ (g.met.F.Front.lawful c.args.front.now) c.args.text.now c.args.old.now
    c.args.from.offset c.args.new_end c.args.end _ _ _ c.utf8.text c.loop-at.invariant.cutting
    c.loop-at-test.true is in
    let within : c.loop-at.at + c.cut_next-token.result.len ≤ length c.args.text.now = n.within in
    omega arith

pub returns-then-search-clause-tokens : goal.returns-then-search-clause-tokens
returns-then-search-clause-tokens g c =
    let is = told _ _ _ _ _ c.loop-at.invariant.tells c.cut_next-token.ensures.token in
    let p = c.find_boundary-search.ensures in
    cut_meets _ (g.met.F.Front.lawful c.args.front.now) c.args.text.now c.args.old.now
    c.args.from.offset c.args.new_end c.args.end _ _ _ _ _ c.utf8.text
    c.loop-at.invariant.cutting c.loop-at-test.true is
    c.in_ok-push.ensures.items (sym p.found ∙ c.if-search.true) p.within
    (sym p.offset ∙ p.same c.if-search.true)

pub loop-at-smaller : goal.loop-at-smaller
loop-at-smaller g c =
    let is = told _ _ _ _ _ c.loop-at.invariant.tells c.cut_next-token.ensures.token in
    let n = next_token _ (g.met.F.Front.lawful c.args.front.now) c.args.text.now c.args.old.now
    c.args.from.offset c.args.new_end c.args.end _ _ _ c.utf8.text c.loop-at.invariant.cutting
    c.loop-at-test.true is in
    let past : c.loop-at.at < c.loop-at.at + c.cut_next-token.result.len = n.past in
    omega arith

pub loop-at-preserved : goal.loop-at-preserved
loop-at-preserved g c =
    let is = told _ _ _ _ _ c.loop-at.invariant.tells c.cut_next-token.ensures.token in
    let p = c.find_boundary-search.ensures in
    let inv = c.loop-at.invariant in
    let len = ap length c.in_ok-push.ensures.items in
    record {
      cutting = cutting_more _ (g.met.F.Front.lawful c.args.front.now) c.args.text.now
          c.args.old.now c.args.from.offset c.args.new_end c.args.end _ _ _ _ c.utf8.text
          inv.cutting c.loop-at-test.true is c.in_ok-push.ensures.items
          (sym p.found ∙ c.if-search.false);
      tells = c.cut_next-token.ensures.same ∙ inv.tells;
      steps = omega (
        arith,
        len,
        length-append c.loop-at.tokens.items
            (c.cut_next-token.result ∷ []),
        c.cut_next-token.ensures.counted,
        inv.steps,
      );
      order = omega (arith, p.order, inv.order);
      within = p.within;
      offset = p.offset;
      low = p.low;
    }
