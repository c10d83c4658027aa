use Rattle.std.proofs.Common.{arith, ◌≡◌, ◌+◌, ◌-◌, ◌++◌, List, ℕ, ap, length, take, drop}
use Rattle.std.proofs.lemmas.List.{drop-drop, take-append-drop, drop_all, length-drop, take_rest}
use Rattle.squawk_show.specs.Memory.{SourceState}
use Rattle.squawk_show.proofs.edge.memory_source.MemorySourceSource.read.Goals as goal

-- what was read and what is left then are what was left before
split_left : (left bytes seen into : List ℕ) (at n : ℕ) → drop at bytes ≡ left → seen ≡ bytes
    → take n into ≡ take n (take (length seen - at) (drop at seen))
    → left ≡ take n into ++ drop (at + n) bytes
split_left left bytes seen into at n is seen_is copied =
    let whole = take_rest seen at in
    let halves = take-append-drop n (drop at bytes) in
    let rest = drop-drop n at bytes in
    cc

pub returns-clause-bytes : goal.returns-clause-bytes
returns-clause-bytes c =
    let at = c.self.inside.at in
    let bytes = c.self.inside.bytes.items in
    let size = length-drop at bytes in (
      split_left _ bytes _ _ at c.copy_next-n.result
          (ap (λ (s : SourceState). s.left) c.self.view_is) c.deref-2.ensures.value
          c.copy_next-n.ensures.bytes,
      λ none room. drop_all (at + c.copy_next-n.result) bytes (omega arith),
    )
