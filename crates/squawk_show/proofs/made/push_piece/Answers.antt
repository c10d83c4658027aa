use Rattle.std.proofs.Common.{[], ◌++◌, ◌≡◌, ◌%◌, ap, subst, ◌∙◌, append_assoc, arith}
use Rattle.std.specs.Prelude.{OnOk, codes, string_bytes}
use Rattle.squawk_show.specs.Made.{numbered_line}
use Rattle.squawk_show.proofs.MadeLemmas.{piece_select, piece_insert, piece_update, piece_echo}
use Rattle.squawk_show.proofs.made.push_piece.Goals as goal

pub returns-in-0 : goal.returns-in-0
returns-in-0 c = rw (piece_select c.args.i c.in-0.is) c.push_numbered_line.ensures

pub returns-in-1 : goal.returns-in-1
returns-in-1 c = rw (piece_insert c.args.i c.in-1.is) c.push_numbered_line-in-1.ensures

pub returns-in-2 : goal.returns-in-2
returns-in-2 c = rw (piece_update c.args.i c.in-2.is) c.push_numbered_line-in-2.ensures

pub returns-in_ok-push_numbered_line-in_default : goal.returns-in_ok-push_numbered_line-in_default
returns-in_ok-push_numbered_line-in_default c =
    let third : c.args.i % 4 ≡ 3 = omega (arith, c.in_default) in
    let second = numbered_line (codes "\\echo ") c.args.i [] in
    rw (piece_echo c.args.i third) (subst (λ bytes. OnOk c.push_numbered_line-in_default-2.result
    (string_bytes c.push_numbered_line-in_default-2.new.text ≡ bytes))
    (ap (λ bytes. bytes ++ second) c.in_ok-push_numbered_line-in_default.ensures
    ∙ append_assoc (string_bytes c.args.text.now) (numbered_line (codes "-- ") c.args.i []) second)
    c.push_numbered_line-in_default-2.ensures)
