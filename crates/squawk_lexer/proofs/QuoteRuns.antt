-- A run of quotes over the bytes of a text ends where the run over its characters ends.
use Rattle.std.proofs.Common.{◌≡◌, ℕ, suc, ◌+◌, ◌<◌, true, false, List, [], ◌∷◌, take, drop, refl, sym, ◌∙◌, ap, inl, inr, ◌⊎◌, eqb, arith}
use Rattle.std.proofs.lemmas.Bool.{cases_Bool}
use Rattle.std.proofs.lemmas.Bool.Decides.{nat_tests}
use Rattle.std.proofs.lemmas.List.Sums.{sum_by-cons}
use Rattle.std.proofs.lemmas.Str.{encodes-chars, IsUtf8-from_is_utf8, len_utf8_ascii}
use Rattle.std.specs.List.{prefix_len}
use Rattle.std.specs.Str.{chars}
use Rattle.std.specs.Char.{len_utf8}
use Rattle.squawk_lexer.specs.Text.{utf8_len}
use Rattle.squawk_lexer.specs.Quoted.{is_quote}
use Rattle.squawk_lexer.specs.CursorModel.{IsRest, chars_before}
use Rattle.squawk_lexer.proofs.ByteRuns.{IsUniform, byte_run}

-- An ASCII quote is no character beyond ASCII.
pub uniform_quote : (q : ℕ) → q < 128 → IsUniform (is_quote q)
uniform_quote q small b c h k = grind (arith, nat_tests)

-- A run of ASCII quotes has as many bytes as characters.
quote_bytes : (q : ℕ) → q < 128 → (cs : List ℕ)
    → utf8_len (take (prefix_len (is_quote q) cs) cs) ≡ prefix_len (is_quote q) cs
quote_bytes q small [] = refl
quote_bytes q small (c ∷ cs) = by (cases_Bool (eqb c q)) (quote_bytes q small cs)
  where
    by : (eqb c q ≡ true) ⊎ (eqb c q ≡ false)
        → utf8_len (take (prefix_len (is_quote q) cs) cs) ≡ prefix_len (is_quote q) cs
        → utf8_len (take (prefix_len (is_quote q) (c ∷ cs)) (c ∷ cs))
        ≡ prefix_len (is_quote q) (c ∷ cs)
    by (inl t) more =
        let ascii : c < 128 = grind (arith, nat_tests) in
        let next : 1 + prefix_len (is_quote q) cs ≡ suc (prefix_len (is_quote q) cs) = omega arith
        in
        rw (t, next) (omega (
          arith,
          more,
          sum_by-cons len_utf8 c (take (prefix_len (is_quote q) cs) cs),
          len_utf8_ascii c ascii,
        ))
    by (inr f) more = rw f refl

-- The number of bytes skipped is the number of quotes, in the form in which the code has it.
pub quotes_count : (q : ℕ) → q < 128 → (token rest bs : List ℕ) (n : ℕ) → IsRest token rest
    → n ≡ prefix_len (is_quote q) bs → bs ≡ rest
    → n ≡ prefix_len (is_quote q) (drop (chars_before token rest) (chars token))
quotes_count q small token rest bs n r len same =
    len ∙ ap (prefix_len (is_quote q)) (same
    ∙ sym (encodes-chars rest (IsUtf8-from_is_utf8 rest r.rest_utf8)))
    ∙ byte_run (is_quote q) (uniform_quote q small) (chars rest)
    ∙ quote_bytes q small (chars rest) ∙ ap (prefix_len (is_quote q)) r.is
