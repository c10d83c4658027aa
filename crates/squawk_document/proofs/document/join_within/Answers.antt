use Rattle.std.proofs.Common.{arith}
use Rattle.squawk_document.proofs.ChildCutting.{children_bytes}
use Rattle.squawk_document.proofs.document.join_within.Goals as goal

pub join-requires : goal.join-requires
join-requires g c = record {
  small =
      omega (
        arith,
        children_bytes _ (g.met.F.Front.lawful c.args.front.now) c.args.text.now
            c.args.children.now c.utf8.text c.requires.children,
        c.requires.small,
      );
}
