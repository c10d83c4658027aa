-- How the tokens of the new text are made of old ones and cut ones.
use Rattle.std.specs.Prelude.{ℕ, ◌≡◌, ◌<◌, ◌≤◌, ◌-◌, List, ◌++◌, length, take, drop}
use Rattle.std.specs.declared.option.Option.{Option}
use Rattle.std.specs.declared.option.Option.TheVariants.{None, Some}
use Rattle.squawk_lexer.specs.declared.token.Token.{Token}
use Rattle.squawk_document.specs.Boundaries.{total_len}
use Rattle.squawk_document.specs.declared.skip.Position.{Position}

-- the number of old tokens after the meeting
abbrev pub back_len : List Token → Option Position → ℕ
back_len old None = 0
back_len old (Some p) = length old - p.index

-- the number of old tokens before those
abbrev pub back_index : List Token → Option Position → ℕ
back_index old None = length old
back_index old (Some p) = p.index

-- the front tokens, the cut tokens and the old tokens after the meeting
abbrev pub joined_tokens : List Token → ℕ → List Token → Option Position → List Token
joined_tokens old front_len fresh_tokens meeting =
    take front_len old ++ (fresh_tokens ++ drop (back_index old meeting) old)

-- the new tokens begin with the front tokens, which end before start or are none
pub record BeginsWithFront (old new_tokens : List Token) (start : ℕ) (front : Position)
    : Type 0 where
  pub within : front.index ≤ length old
  pub offset : front.offset ≡ total_len (take front.index old)
  pub low : 0 < front.offset → front.offset < start
  pub begins : new_tokens ≡ take front.index old ++ drop front.index new_tokens
