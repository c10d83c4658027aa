use Rattle.std.proofs.Common.{◌≡◌, ℕ, ◌+◌, ◌<◌, ◌≤◌, ◌&&◌, length, drop, List, [], ◌∷◌, ap, sym, ◌∙◌, arith, eqb, length-append}
use Rattle.std.proofs.lemmas.List.{take_rest}
use Rattle.squawk_lexer.specs.declared.token.Token.{Token}
use Rattle.squawk_cut.specs.ChildValue.{ChildValue}
use Rattle.squawk_cut.specs.Tells.{Tells}
use Rattle.squawk_cut.specs.Tokens.{tokens_from}
use Rattle.squawk_cut.specs.Children.{text_tokens}
use Rattle.squawk_document.proofs.ParseSteps.{boundary_of, tokens_at, inside_text, next_child, parsing_step, parsing_stop}
use Rattle.squawk_document.proofs.reparse.parse_to_return.Goals as goal

told : (t u : Tells) (c : ChildValue) (w : List ℕ) (ts us : List Token) → u ≡ t → us ≡ ts
    → c ≡ u.child_at (text_tokens w us) → c ≡ t.child_at (text_tokens w ts)
told t u c w ts us e f is = is ∙ ap (λ (v : Tells). v.child_at (text_tokens w us)) e
    ∙ ap (λ xs. t.child_at (text_tokens w xs)) f

pub parse_next-requires-clause-inside : goal.parse_next-requires-clause-inside
parse_next-requires-clause-inside g c =
    inside_text _ (g.met.F.Front.lawful c.args.front.now) c.args.text.now c.args.tokens.now
    c.loop-i.at c.loop-i.i c.utf8.text c.requires.tokens c.loop-i.invariant.parsing.index
    c.loop-i-test.true

pub parse_next-requires-clause-tokens : goal.parse_next-requires-clause-tokens
parse_next-requires-clause-tokens g c =
    take_rest c.args.tokens.now c.loop-i.i
    ∙ tokens_at _ (g.met.F.Front.lawful c.args.front.now) c.args.text.now c.args.tokens.now
    c.loop-i.at c.loop-i.i c.utf8.text c.requires.tokens c.loop-i.invariant.parsing.index
    c.loop-i.invariant.parsing.within
    ∙ ap (λ (t : Tells). tokens_from t 0 (eqb c.loop-i.at 0) (drop c.loop-i.at c.args.text.now))
    (sym c.loop-i.invariant.tells)

pub parse_next-requires-clause-boundary : goal.parse_next-requires-clause-boundary
parse_next-requires-clause-boundary g c =
    boundary_of _ (g.met.F.Front.lawful c.args.front.now) c.args.text.now c.args.tokens.now
    c.loop-i.at c.loop-i.i c.utf8.text c.requires.tokens c.loop-i.invariant.parsing.index

pub overflow_add-at : goal.overflow_add-at
overflow_add-at g c =
    let is = told _ _ _ _ _ _ c.loop-i.invariant.tells (take_rest c.args.tokens.now c.loop-i.i)
    c.in_ok-child.ensures.child in
    let n = next_child _ (g.met.F.Front.lawful c.args.front.now) c.args.text.now c.args.tokens.now
    c.loop-i.at c.loop-i.i c.in_ok-child.child c.utf8.text c.requires.tokens
    c.loop-i.invariant.parsing.index c.loop-i-test.true is in
    let inside : c.loop-i.at + c.in_ok-child.child.bytes ≤ length c.args.text.now = n.inside in
    let bytes_is : c.bytes.result ≡ c.in_ok-child.child.bytes = c.bytes.ensures in
    omega arith

pub overflow_add-i : goal.overflow_add-i
overflow_add-i g c =
    let is = told _ _ _ _ _ _ c.loop-i.invariant.tells (take_rest c.args.tokens.now c.loop-i.i)
    c.in_ok-child.ensures.child in
    let n = next_child _ (g.met.F.Front.lawful c.args.front.now) c.args.text.now c.args.tokens.now
    c.loop-i.at c.loop-i.i c.in_ok-child.child c.utf8.text c.requires.tokens
    c.loop-i.invariant.parsing.index c.loop-i-test.true is in
    let within : c.loop-i.i + c.in_ok-child.child.tokens ≤ length c.args.tokens.now = n.within in
    let past : c.loop-i.i < c.loop-i.i + c.in_ok-child.child.tokens = n.past in
    let tokens_is : c.tokens-i.result ≡ c.in_ok-child.child.tokens = c.tokens-i.ensures in
    omega arith

pub find_return-search-requires-clause-at_small : goal.find_return-search-requires-clause-at_small
find_return-search-requires-clause-at_small g c =
    let is = told _ _ _ _ _ _ c.loop-i.invariant.tells (take_rest c.args.tokens.now c.loop-i.i)
    c.in_ok-child.ensures.child in
    let n = next_child _ (g.met.F.Front.lawful c.args.front.now) c.args.text.now c.args.tokens.now
    c.loop-i.at c.loop-i.i c.in_ok-child.child c.utf8.text c.requires.tokens
    c.loop-i.invariant.parsing.index c.loop-i-test.true is in
    let inside : c.loop-i.at + c.in_ok-child.child.bytes ≤ length c.args.text.now = n.inside in
    let bytes_is : c.bytes.result ≡ c.in_ok-child.child.bytes = c.bytes.ensures in
    omega arith

pub loop-i-smaller : goal.loop-i-smaller
loop-i-smaller g c =
    let is = told _ _ _ _ _ _ c.loop-i.invariant.tells (take_rest c.args.tokens.now c.loop-i.i)
    c.in_ok-child.ensures.child in
    let n = next_child _ (g.met.F.Front.lawful c.args.front.now) c.args.text.now c.args.tokens.now
    c.loop-i.at c.loop-i.i c.in_ok-child.child c.utf8.text c.requires.tokens
    c.loop-i.invariant.parsing.index c.loop-i-test.true is in
    let within : c.loop-i.i + c.in_ok-child.child.tokens ≤ length c.args.tokens.now = n.within in
    let past : c.loop-i.i < c.loop-i.i + c.in_ok-child.child.tokens = n.past in
    let tokens_is : c.tokens-i.result ≡ c.in_ok-child.child.tokens = c.tokens-i.ensures in
    omega arith

pub returns-then-both-clause-children : goal.returns-then-both-clause-children
returns-then-both-clause-children g c =
    let is = told _ _ _ _ _ _ c.loop-i.invariant.tells (take_rest c.args.tokens.now c.loop-i.i)
    c.in_ok-child.ensures.child in
    let n = next_child _ (g.met.F.Front.lawful c.args.front.now) c.args.text.now c.args.tokens.now
    c.loop-i.at c.loop-i.i c.in_ok-child.child c.utf8.text c.requires.tokens
    c.loop-i.invariant.parsing.index c.loop-i-test.true is in
    let p = c.find_return-search.ensures in
    parsing_stop _ (g.met.F.Front.lawful c.args.front.now) c.args.text.now c.args.tokens.now
    c.args.old.now c.args.from.end c.args.new_end c.args.end c.args.meeting _ _ c.loop-i.at
    c.loop-i.i _ c.bytes.result c.find_return-search.result.position.offset _ _ _ _
    c.in_ok-child.child
    c.loop-i.invariant.parsing n c.in_ok-push.ensures.items c.bytes.ensures
    (c.both-only_closed.ensures ∙ ap (λ b. c.loop-i.only_closed && b) c.closed.ensures) p.found
    c.both.ensures c.if-both.true p.within p.closed p.offset p.same

pub loop-i-preserved : goal.loop-i-preserved
loop-i-preserved g c =
    let is = told _ _ _ _ _ _ c.loop-i.invariant.tells (take_rest c.args.tokens.now c.loop-i.i)
    c.in_ok-child.ensures.child in
    let n = next_child _ (g.met.F.Front.lawful c.args.front.now) c.args.text.now c.args.tokens.now
    c.loop-i.at c.loop-i.i c.in_ok-child.child c.utf8.text c.requires.tokens
    c.loop-i.invariant.parsing.index c.loop-i-test.true is in
    let p = c.find_return-search.ensures in
    let inv = c.loop-i.invariant in
    let len = ap length c.in_ok-push.ensures.items in
    record {
      parsing = parsing_step _ (g.met.F.Front.lawful c.args.front.now) c.args.text.now
          c.args.tokens.now c.args.old.now c.args.from.end c.args.new_end c.args.end c.args.meeting
          _ _ c.loop-i.at c.loop-i.i c.bytes.result c.tokens-i.result _ _ _ _ c.in_ok-child.child
          inv.parsing n c.in_ok-push.ensures.items c.bytes.ensures c.tokens-i.ensures
          (c.both-only_closed.ensures ∙ ap (λ b. c.loop-i.only_closed && b) c.closed.ensures)
          p.found c.both.ensures c.if-both.false;
      tells = c.in_ok-child.ensures.same ∙ inv.tells;
      steps = omega (
        arith,
        len,
        length-append c.loop-i.children.items
            (c.in_ok-child.child ∷ []),
        c.in_ok-child.ensures.counted,
        inv.steps,
      );
      within = p.within;
      offset = p.offset;
      closed = p.closed;
      low = p.low;
    }
