use Rattle.std.proofs.Common.{◌≡◌, ◌<◌, ◌++◌, drop, length, refl, ap, subst, ◌∙◌, eqb, IsUtf8}
use Rattle.std.proofs.lemmas.Str.{IsCharBoundary-start}
use Rattle.std.specs.Str.{IsCharBoundary}
use Rattle.squawk_split.specs.Pieces.{first_piece, pieces_of}
use Rattle.squawk_split.specs.Reader.{TextReading}
use Rattle.squawk_split.specs.StatementEnds.{next_at}
use Rattle.squawk_split.proofs.PieceLemmas.{push_piece}
use Rattle.squawk_split.proofs.pieces.read_pieces.Goals as goal

pub loop-at-init : goal.loop-at-init
loop-at-init c = record {
  same = refl;
  pieces = ap (λ ps. ps ++ pieces_of c.args.reader.strings c.args.division c.args.reader.text)
      c.new-pieces.ensures.items;
  boundary = IsCharBoundary-start c.args.reader.text
      (subst IsUtf8 c.text-len.ensures.text c.text-len.utf8);
}

pub loop-at-preserved : goal.loop-at-preserved
loop-at-preserved c = record {
  same = c.next_piece-next.ensures.same ∙ c.loop-at.invariant.same;
  pieces = push_piece c.args.reader.strings c.args.division c.loop-at.is_data c.loop-at.at
      c.args.reader.text c.loop-at.pieces.items c.push.new.self.items _ c.next_piece-next.result
      c.in_ok-push.ensures.items
      (subst (λ (r : TextReading). c.next_piece-next.result ≡ next_at c.loop-at.at
      (first_piece r.strings c.args.division (eqb c.loop-at.at 0) c.loop-at.is_data
      (drop c.loop-at.at r.text))) c.loop-at.invariant.same c.next_piece-next.ensures.piece)
      c.next_piece-next.ensures.progress
      (subst (λ text. c.loop-at.at < length text) c.text-len.ensures.text c.loop-at-test.true)
      c.loop-at.invariant.pieces;
  boundary = subst (λ (r : TextReading). IsCharBoundary r.text c.next_piece-next.result.end)
      c.loop-at.invariant.same c.next_piece-next.ensures.ends_between;
}
