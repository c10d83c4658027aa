-- The end and the trimmed length of a list, by those of its rest.
use Rattle.std.proofs.Common.{ℕ, ◌+◌, ◌==◌}
use Rattle.std.specs.Prelude.{Option, option_map, if◌then◌else◌}

-- an end found in what is left after the first i
abbrev pub later : ℕ → Option ℕ → Option ℕ
later i found = option_map (λ n. n + i) found

-- the trimmed length, by that of the first i and that of the rest
abbrev pub trimmed_at : ℕ → ℕ → ℕ → ℕ
trimmed_at before i rest = if rest == 0 then before else i + rest
