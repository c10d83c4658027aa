use Rattle.std.proofs.Common.{◌≡◌, ◌≤◌, ◌+◌, ◌-◌, ◌++◌, drop}
use Rattle.std.specs.Str.{IsCharBoundary}
use Rattle.squawk_lexer.specs.Flags.{AreCut}
use Rattle.squawk_lexed.specs.LexedText.{lexed_tokens, tokens_len, EndAtBoundaries}
use Rattle.squawk_lexed.specs.Stored.{kinds_of, starts_of, errors_of}
use Rattle.squawk_lexed.proofs.lexed.LexedStr.from_tokens.Given as goal

-- the lists so far, and those of the tokens that are left, are the lists of all tokens
abbrev pub invariant-loop-i : goal.invariant-loop-i
invariant-loop-i l = record {
  kinds : l.lists.kinds.items ++ kinds_of (lexed_tokens l.text l.from (drop l.i l.tokens))
      ≡ kinds_of (lexed_tokens l.text l.fn.at l.tokens);
  starts : l.lists.starts.items ++ starts_of (l.from - l.fn.at)
      (lexed_tokens l.text l.from (drop l.i l.tokens))
      ≡ starts_of 0 (lexed_tokens l.text l.fn.at l.tokens);
  errors : l.lists.errors.items ++ errors_of (l.from - l.fn.at)
      (lexed_tokens l.text l.from (drop l.i l.tokens))
      ≡ errors_of 0 (lexed_tokens l.text l.fn.at l.tokens);
  cut : AreCut (drop l.i l.tokens);
  laid : EndAtBoundaries l.text l.from (drop l.i l.tokens);
  end : l.from + tokens_len (drop l.i l.tokens) ≡ l.fn.at + tokens_len l.tokens;
  on : l.fn.at ≤ l.from;
  start : IsCharBoundary l.text l.from;
}
