use Rattle.std.proofs.Common.{◌≡◌, ◌++◌}
use Rattle.std.specs.Str.{chars, IsCharBoundary}
use Rattle.squawk_lexer.specs.Cut.{tokens, Tiles}
use Rattle.squawk_lexer.specs.Flags.{AreCut}
use Rattle.squawk_lexed.specs.LexedText.{lexed_tokens}
use Rattle.squawk_lexed.specs.Stored.{kinds_of, starts_of, errors_of}
use Rattle.squawk_lexed.proofs.lexed.LexedStr.new_in.Given as goal

-- the lists so far, and those of the tokens that are left, are the lists of all tokens
abbrev pub invariant-loop-token : goal.invariant-loop-token
invariant-loop-token l = record {
  kinds : l.lists.kinds.items ++ kinds_of (lexed_tokens l.text l.at l.token-iterator)
      ≡ kinds_of (lexed_tokens l.text 0 (tokens l.fn.strings (chars l.text)));
  starts : l.lists.starts.items ++ starts_of l.at (lexed_tokens l.text l.at l.token-iterator)
      ≡ starts_of 0 (lexed_tokens l.text 0 (tokens l.fn.strings (chars l.text)));
  errors : l.lists.errors.items ++ errors_of l.at (lexed_tokens l.text l.at l.token-iterator)
      ≡ errors_of 0 (lexed_tokens l.text 0 (tokens l.fn.strings (chars l.text)));
  cut : AreCut l.token-iterator;
  tiles : Tiles l.text l.at l.token-iterator;
  start : IsCharBoundary l.text l.at;
}
