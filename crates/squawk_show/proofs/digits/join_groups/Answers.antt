use Rattle.std.proofs.Common.{◌≡◌, ◌+◌, ◌++◌, ◌∙◌, ap, sym, take, arith}
use Rattle.squawk_show.specs.Digits.{u32_bytes}
use Rattle.squawk_show.proofs.digits.join_groups.Goals as goal

pub returns : goal.returns
returns c =
    let from_start : 0 + c.args.width ≡ c.args.width = omega arith in
    let first = sym (ap (λ n. take n c.put_u32.new.text) from_start)
    ∙ c.put_u32.ensures.written c.args.width c.requires in
    ap (take (c.args.width + 4)) c.pack_u64.ensures
    ∙ c.put_u32-2.ensures.written 4 (omega arith)
    ∙ ap (λ xs. xs ++ u32_bytes c.args.second) first
