use Rattle.std.proofs.Common.{◌≡◌, ℕ, List}
use Rattle.std.specs.Str.{chars, encode_utf8_all}
use Rattle.squawk_lexed.specs.LexedText.{lexed_text, token_start}
use Rattle.squawk_lexer.specs.declared.token.Strings.{Strings}
use Rattle.squawk_squeeze.specs.Squeezed.{output_with_rest, text_tokens_at, squeezed_text}
use Rattle.squawk_squeeze.proofs.text.squeeze_lexed.Given as goal

-- the output so far, then what the tokens from index i on become, is the squeezed text
abbrev pub invariant-loop-i : goal.invariant-loop-i
invariant-loop-i l = (strings : Strings) (text : List ℕ) → l.lexed ≡ lexed_text strings text
    → output_with_rest l.squeezer (text_tokens_at strings text (token_start l.lexed.tokens l.i))
    ≡ encode_utf8_all (squeezed_text strings (chars text))
