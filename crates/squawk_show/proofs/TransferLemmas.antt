-- One more piece written or read.
use Rattle.std.proofs.Common.{◌≡◌, ℕ, ◌+◌, ◌-◌, ◌≤◌, List, ◌++◌, length, take, drop, ap, sym, ◌∙◌, subst, arith}
use Rattle.std.specs.Prelude.{Option}
use Rattle.std.proofs.KnownBytes.{Appends-trans, Consumes-trans}
use Rattle.std.proofs.Math.Seq.{take-add}
use Rattle.std.proofs.lemmas.List.{take_rest, length-append, length-take-le}
use Rattle.std.specs.Io.KnownBytes.{Appends, Consumes}
use Rattle.squawk_show.specs.Edge.{SourceView, TakesExactly, TakesAtMost}

-- the first bytes of a text were written, and then some of what is left of it
pub appends_more : (a b c : Option (List ℕ)) (text : List ℕ) (done n : ℕ)
    → Appends a b (take done text)
    → Appends b c (take n (take (length text - done) (drop done text)))
    → Appends a c (take (done + n) text)
appends_more a b c text done n before piece =
    let e = take-add done n text
    ∙ ap (λ ys. take done text ++ take n ys) (sym (take_rest text done)) in
    subst (Appends a c) (sym e) (Appends-trans a b c (take done text)
    (take n (take (length text - done) (drop done text))) before piece)

-- `takes_exactly` and `takes_at_most`: bytes were taken before, and then n bytes by one read
pub takes_exactly : (a b c : SourceView) (before buffer : List ℕ) (n total : ℕ)
    → Consumes a.left b.left before → Consumes b.left c.left (take n buffer)
    → n ≤ length buffer → c.reads ≤ a.reads + length before + 1 → length before + n ≡ total
    → TakesExactly a c total
takes_exactly a b c before buffer n total first then within progress sum =
    let e = length-append before (take n buffer) in
    let f = length-take-le n buffer within in (
      before ++ take n buffer,
      record {
        consumed = Consumes-trans a.left b.left c.left before (take n buffer) first then;
        progress = omega arith;
      },
      omega arith,
    )

pub takes_at_most : (a b c : SourceView) (before buffer : List ℕ) (n most : ℕ)
    → Consumes a.left b.left before → Consumes b.left c.left (take n buffer)
    → n ≤ length buffer → c.reads ≤ a.reads + length before + 1 → length before + n ≤ most
    → TakesAtMost a c most
takes_at_most a b c before buffer n most first then within progress sum =
    let e = length-append before (take n buffer) in
    let f = length-take-le n buffer within in (
      before ++ take n buffer,
      record {
        consumed = Consumes-trans a.left b.left c.left before (take n buffer) first then;
        progress = omega arith;
      },
      omega arith,
    )
