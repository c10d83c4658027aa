-- The statuses that a call may return.
use Rattle.std.specs.Prelude.{◌≡◌, ◌⊎◌, ℕ}

-- the counts of the call are those of the result: all was done, or an array was too small
abbrev pub IsAnswered : ℕ → Type 0
IsAnswered status = (status ≡ 0) ⊎ (status ≡ 12)

-- the statuses of a check of a text
abbrev pub IsCheckStatus : ℕ → Type 0
IsCheckStatus status = (status ≡ 0) ⊎ (status ≡ 4) ⊎ (status ≡ 5)

-- the statuses of a call that cuts tokens
abbrev pub IsTokensStatus : ℕ → Type 0
IsTokensStatus status = (status ≡ 0) ⊎ (status ≡ 2) ⊎ (status ≡ 4) ⊎ (status ≡ 5)

-- the statuses of a call that parses
abbrev pub IsParseStatus : ℕ → Type 0
IsParseStatus status = (status ≡ 0) ⊎ (status ≡ 2) ⊎ (status ≡ 4) ⊎ (status ≡ 5) ⊎ (status ≡ 6)
    ⊎ (status ≡ 12)

-- the statuses of a call that copies a text
abbrev pub IsCopyStatus : ℕ → Type 0
IsCopyStatus status = (status ≡ 0) ⊎ (status ≡ 2) ⊎ (status ≡ 12)
