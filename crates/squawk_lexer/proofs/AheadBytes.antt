-- Look-ahead, restart and the law of statements, for texts as bytes.
use Rattle.std.proofs.Common.{◌≡◌, ℕ, zero, suc, ◌+◌, ◌≤◌, Bool, true, false, List, [], ◌∷◌, ◌++◌, length, take, drop, length-append, append_assoc, refl, sym, ap, ◌∙◌, arith, IsUtf8}
use Rattle.std.proofs.lemmas.List.{take-append-le, take-append-drop}
use Rattle.std.proofs.lemmas.List.Sums.{sum_by-cons}
use Rattle.std.proofs.lemmas.Str.{chars-append, len_utf8_bounds, is_utf8-from_IsUtf8, IsUtf8-take}
use Rattle.std.proofs.Math.Seq.{take-append_seam}
use Rattle.std.specs.Char.{len_utf8}
use Rattle.std.specs.Str.{chars, IsCharBoundary}
use Rattle.squawk_lexer.specs.declared.token.Token.{Token}
use Rattle.squawk_lexer.specs.declared.token.Strings.{Strings}
use Rattle.squawk_lexer.specs.Text.{utf8_len}
use Rattle.squawk_lexer.specs.Token.{lexeme_at, token_at}
use Rattle.squawk_lexer.specs.Cut.{tokens_from, tokens}
use Rattle.squawk_lexer.specs.Laws.{chars_of_tokens}
use Rattle.squawk_lexer.specs.LookAhead.{Agrees, TextsLookAhead, TextsProgress, TextsRestart, RestartsAt, SplitsAt}
use Rattle.squawk_lexer.proofs.CursorRest.{length_bytes, some_chars}
use Rattle.squawk_lexer.proofs.TokenLaws.{token_positive}
use Rattle.squawk_lexer.proofs.CutLaws.{tokens_first, cut_after}
use Rattle.squawk_lexer.proofs.LawLemmas.{tokens_restart, lengths_add_up}
use Rattle.squawk_lexer.proofs.WithinLaws.{tokens_within}
use Rattle.squawk_lexer.proofs.AheadTokens.{tokens_look_ahead}
use Rattle.squawk_lexer.proofs.StatementLaws.{statements_stand_alone}

-- ---- look-ahead

-- Prefixes of a text with the same number of bytes have the same number of characters.
same_count : (u : List ℕ) (m n : ℕ) → m ≤ length u → n ≤ length u
    → utf8_len (take m u) ≡ utf8_len (take n u) → m ≡ n
same_count [] m n h k e = omega arith
same_count (c ∷ cs) zero zero h k e = refl
same_count (c ∷ cs) zero (suc n) h k e =
    absurd (omega (arith, e, sum_by-cons len_utf8 c (take n cs), len_utf8_bounds c))
same_count (c ∷ cs) (suc m) zero h k e =
    absurd (omega (arith, e, sum_by-cons len_utf8 c (take m cs), len_utf8_bounds c))
same_count (c ∷ cs) (suc m) (suc n) h k e =
    ap suc (same_count cs m n (omega arith) (omega arith)
    (omega (arith, e, sum_by-cons len_utf8 c (take m cs), sum_by-cons len_utf8 c (take n cs))))

-- Where the first token has the bytes of `own` and the two characters of `two` follow, any other
-- text with these has it too.
of_parts : (strings : Strings) (at_start : Bool) (own two rest other : List ℕ)
    → (token_at strings at_start (chars (own ++ (two ++ rest)))).len ≡ length own
    → IsUtf8 own → IsUtf8 two → 2 ≤ length (chars two)
    → token_at strings at_start (chars (own ++ (two ++ other)))
    ≡ token_at strings at_start (chars (own ++ (two ++ rest)))
of_parts strings at_start own two rest other len utf8 utf8_two some =
    tokens_look_ahead strings at_start u v agrees
  where
    u : List ℕ
    u = chars (own ++ (two ++ rest))

    v : List ℕ
    v = chars (own ++ (two ++ other))

    known : List ℕ
    known = chars own ++ chars two

    -- both begin with the characters that are known
    split : (r : List ℕ) → chars (own ++ (two ++ r)) ≡ known ++ chars r
    split r = chars-append own (two ++ r) utf8
        ∙ ap (λ w. chars own ++ w) (chars-append two r utf8_two)
        ∙ sym (append_assoc (chars own) (chars two) (chars r))

    long : length u ≡ length (chars own) + length (chars two) + length (chars rest)
    long = ap length (split rest) ∙ length-append known (chars rest)
        ∙ ap (λ n. n + length (chars rest)) (length-append (chars own) (chars two))

    own_bytes : utf8_len (take (length (chars own)) u) ≡ length own
    own_bytes =
        let n = length (chars own) in
        let taken : take n u ≡ chars own =
        ap (take n) (split rest)
        ∙ take-append-le n known (chars rest)
        (omega (arith, length-append (chars own) (chars two)))
        ∙ take-append_seam (chars own) (chars two) in
        ap utf8_len taken ∙ sym (length_bytes own (is_utf8-from_IsUtf8 own utf8))

    end : (lexeme_at strings at_start u).end ≡ length (chars own)
    end = same_count u _ _ (tokens_within strings at_start u (omega (arith, long)))
        (omega (arith, long)) (len ∙ sym own_bytes)

    agrees : Agrees ((lexeme_at strings at_start u).end + 2) u v
    agrees =
        let n = (lexeme_at strings at_start u).end + 2 in
        let less : n ≤ length known = omega (arith, end, length-append (chars own) (chars two)) in
        record {
          within = omega (arith, end, long);
          same = ap (take n) (split other) ∙ take-append-le n known (chars other) less
              ∙ sym (ap (take n) (split rest) ∙ take-append-le n known (chars rest) less);
        }

-- The first token is decided by its bytes and the two characters after it.
pub texts_look_ahead : TextsLookAhead
texts_look_ahead strings at_start text own two rest other e len utf8 utf8_two some =
    let same = ap (λ w. token_at strings at_start (chars w)) e in
    of_parts strings at_start own two rest other (ap (λ (t : Token). t.len) (sym same)
    ∙ sym len) utf8 utf8_two some ∙ sym same

-- ---- progress

-- The first token has at least one byte and ends at a character boundary.
pub texts_progress : TextsProgress
texts_progress strings at_start text utf8 some = (
  token_positive strings at_start (chars text) (some_chars text utf8 some),
  (cut_after text (lexeme_at strings at_start (chars text)).end utf8).boundary,
)

-- ---- restart

-- The tokens of a text are the first one and those of the rest.
pub texts_restart : TextsRestart
texts_restart strings at_start text utf8 some =
    let n = (lexeme_at strings at_start (chars text)).end in
    tokens_first strings at_start (chars text) (some_chars text utf8 some)
    ∙ ap (λ w. token_at strings at_start (chars text)
    ∷ tokens_from strings 0 false w) (sym (cut_after text n utf8).rest)

-- The same after n tokens, by the offset at which they end.
pub restarts_at : (strings : Strings) (text : List ℕ) (at : ℕ) → IsUtf8 text
    → RestartsAt strings text at
restarts_at strings text at utf8 n some e =
    let p = chars_of_tokens strings true n (chars text) in
    let here : at ≡ utf8_len (take p (chars text)) = e
    ∙ sym (lengths_add_up strings true n (chars text)) in
    tokens_restart strings true n (chars text) some
    ∙ ap (tokens_from strings 0 false) (sym (ap (λ m. chars (drop m text)) here
    ∙ (cut_after text p utf8).rest))

-- ---- statements

-- A text may be split after a semicolon.
pub splits_at : (strings : Strings) (text : List ℕ) (at : ℕ) → IsUtf8 text → IsCharBoundary text at
    → SplitsAt strings text at
splits_at strings text at utf8 boundary e =
    let both : chars text ≡ chars (take at text) ++ chars (drop at text) =
    ap chars (sym (take-append-drop at text))
    ∙ chars-append (take at text) (drop at text) (IsUtf8-take text at utf8 boundary) in
    ap (tokens strings) both
    ∙ statements_stand_alone strings true (chars (take at text)) (chars (drop at text)) e
