-- Tokens that are looked up in a list.
use Rattle.std.proofs.Common.{◌≡◌, ℕ, zero, suc, ◌+◌, ◌<◌, Bool, true, false, List, [], ◌∷◌, get_or, length, length-drop, drop, eqb, refl, sym, ap, subst, ◌∙◌, arith, IsUtf8}
use Rattle.std.proofs.lemmas.Str.{IsUtf8-drop}
use Rattle.std.specs.List.{slice_range}
use Rattle.std.specs.Str.{IsCharBoundary}
use Rattle.squawk_kinds.specs.declared.numbers.TheConstants.Number.{EOF}
use Rattle.squawk_lexed.specs.Faults.{faults}
use Rattle.squawk_lexed.specs.Leaf.{leaf_kind}
use Rattle.squawk_lexed.specs.LexedText.{LexedText, total_len, token_start}
use Rattle.squawk_lexed.specs.LexedToken.{LexedToken}
use Rattle.squawk_lexed.specs.Stored.{kinds_of}
use Rattle.squawk_lexer.specs.LookAhead.{TextsProgress, TextsRestart, IsFirstTokenAt}
use Rattle.squawk_lexer.specs.declared.token.Strings.{Strings}
use Rattle.squawk_lexer.specs.declared.token.Token.{Token}
use Rattle.squawk_split.specs.Pieces.{tokens_of}
use Rattle.squawk_split.specs.Reader.{TextReading, IsListed, IsTokenReadAt}
use Rattle.squawk_split.specs.declared.reader.KindAndEnd.{KindAndEnd}
use Rattle.squawk_split.proofs.TokenSteps.{after, begins, cut_first, not_at_start, is_start_after}

-- a token that starts before the end of the last one is in the list
pub starts_inside : (ts : List LexedToken) (i : ℕ) → token_start ts i < total_len ts
    → i < length ts
starts_inside [] zero h = absurd (omega arith)
starts_inside [] (suc i) h = absurd (omega arith)
starts_inside (t ∷ ts) zero h = omega arith
starts_inside (t ∷ ts) (suc i) h = let next = starts_inside ts i (omega (arith, h)) in
    omega (arith, next)

-- the tokens from an index on, read off a list
record FromIndex (ts : List LexedToken) (i : ℕ) : Type 0 where
  first : LexedToken
  tokens : drop i ts ≡ first ∷ drop (i + 1) ts
  kind_is : get_or (kinds_of ts) i EOF ≡ first.kind
  end_is : token_start ts (i + 1) ≡ token_start ts i + first.len

from_index : (ts : List LexedToken) (i : ℕ) → i < length ts → FromIndex ts i
from_index [] i h = absurd (omega arith)
from_index (t ∷ ts) zero h = record {
  first = t;
  tokens = refl;
  kind_is = refl;
  end_is = omega arith;
}
from_index (t ∷ ts) (suc i) h =
    let next = from_index ts i (omega (arith, h)) in
    let e : suc i + 1 ≡ suc (i + 1) = omega arith in
    record {
      first = next.first;
      tokens = next.tokens ∙ ap (λ n. next.first ∷ drop n (t ∷ ts)) (sym e);
      kind_is = next.kind_is;
      end_is = ap (token_start (t ∷ ts)) e ∙ omega (arith, next.end_is);
    }

-- ---- the first token of a text

-- a token that this text begins with ends at a character boundary
record FirstEnds (text : List ℕ) (first : LexedToken) : Type 0 where
  some : 0 < first.len
  boundary : IsCharBoundary text first.len

first_ends : TextsProgress → TextsRestart → (strings : Strings) (at_start : Bool) (text : List ℕ)
    (first : LexedToken) (rest : List LexedToken) → IsUtf8 text → 0 < length text
    → tokens_of strings at_start text ≡ first ∷ rest → FirstEnds text first
first_ends progress restart strings at_start text first rest utf8 some tokens =
    let start = begins progress restart strings at_start text utf8 some in
    subst (FirstEnds text) (first_is start.first first
    (tokens_of strings false (drop start.first.len text)) rest (sym start.tokens ∙ tokens))
    (record { some = start.some; boundary = start.boundary })
  where
    first_is : (t u : LexedToken) (ts us : List LexedToken) → t ∷ ts ≡ u ∷ us → t ≡ u
    first_is t u ts us e = cc

-- the text begins with the tokens that follow those before an offset, if none are there
no_tokens_before : TextsProgress → TextsRestart → (strings : Strings) (text : List ℕ) (i at : ℕ)
    → IsUtf8 text → 0 < length text → token_start (tokens_of strings true text) i ≡ at
    → is_start_after i true ≡ eqb at 0
no_tokens_before progress restart strings text zero at utf8 some starts =
    ap (λ n. eqb n 0) starts
no_tokens_before progress restart strings text (suc i) at utf8 some starts =
    let start = begins progress restart strings true text utf8 some in
    let from : token_start (tokens_of strings true text) (suc i)
    ≡ token_start (start.first ∷ tokens_of strings false (drop start.first.len text)) (suc i) =
    ap (λ us. token_start us (suc i)) start.tokens in
    sym (not_at_start at (omega (arith, starts, from, start.some)))

-- the token of the list that begins at an offset begins the text there
pub listed_token : TextsProgress → TextsRestart → (strings : Strings) (text : List ℕ)
    (index : ℕ) (lexed : LexedText) (i at : ℕ) (token : KindAndEnd) → IsUtf8 text
    → IsCharBoundary text at → IsListed strings text index lexed → token_start lexed.tokens i ≡ at → at < length text
    → token.kind ≡ get_or (kinds_of lexed.tokens) i EOF
    → token.end ≡ token_start lexed.tokens (i + 1) → IsTokenReadAt strings text at token
listed_token progress restart strings text index lexed i at token utf8 boundary list starts
    inside kind_is ends =
    let ts = tokens_of strings true text in
    let ts_are : lexed.tokens ≡ ts = ap (λ (l : LexedText). l.tokens) list.lexed_is in
    let own = from_index lexed.tokens i
    (starts_inside lexed.tokens i (omega (arith, starts, inside, list.whole))) in
    let here = after progress restart strings true i text utf8 in
    let next = after progress restart strings true (i + 1) text utf8 in
    let end_next : token_start ts (i + 1) ≡ token.end =
    ap (λ us. token_start us (i + 1)) (sym ts_are) ∙ sym ends in
    let starts_here : token_start ts i ≡ at =
    ap (λ us. token_start us i) (sym ts_are) ∙ starts in
    let at_start = no_tokens_before progress restart strings text i at utf8 (omega (arith, inside))
    starts_here in
    let tokens : tokens_of strings (eqb at 0) (drop at text)
    ≡ own.first ∷ tokens_of strings false (drop token.end text) =
    ap (λ b. tokens_of strings b (drop at text)) (sym at_start)
    ∙ ap (λ n. tokens_of strings (is_start_after i true) (drop n text)) (sym starts_here)
    ∙ sym here.rest
    ∙ ap (drop i) (sym ts_are)
    ∙ own.tokens
    ∙ ap (λ us. own.first ∷ drop (i + 1) us) ts_are
    ∙ ap (λ us. own.first ∷ us) (next.rest
    ∙ ap (λ b. tokens_of strings b (drop (token_start ts (i + 1)) text)) (after_some i)
    ∙ ap (λ n. tokens_of strings false (drop n text)) end_next) in
    let fits = first_ends progress restart strings (eqb at 0) (drop at text) own.first _
    (IsUtf8-drop text at utf8 boundary) (omega (arith, length-drop at text, inside)) tokens in
    let end_is : token.end ≡ at + own.first.len =
    ends ∙ own.end_is ∙ ap (λ n. n + own.first.len) starts in
    record {
      first = own.first;
      kind_is = kind_is ∙ own.kind_is;
      end_is = end_is;
      tokens = tokens;
      progress = omega (arith, end_is, fits.some);
      ends_between = subst (IsCharBoundary text) end_next next.boundary;
    }
  where
    after_some : (i : ℕ) → is_start_after (i + 1) true ≡ false
    after_some i = let e : i + 1 ≡ suc i = omega arith in ap (λ n. is_start_after n true) e

-- the token that was cut at an offset
pub cut_token : (reading : TextReading) (at : ℕ) (t : Token) (text own : List ℕ)
    (strings : Strings) (token : KindAndEnd) → text ≡ reading.text → strings ≡ reading.strings
    → IsFirstTokenAt strings text at t → own ≡ slice_range text at (at + t.len)
    → token.kind ≡ leaf_kind t.kind own → token.end ≡ at + t.len → 0 < t.len
    → IsCharBoundary text (at + t.len) → IsTokenReadAt reading.strings reading.text at token
cut_token reading at t text own strings token text_is strings_is first own_is kind_is end_is some
    boundary =
    subst (λ u. IsTokenReadAt reading.strings u at token) text_is
    (subst (λ s. IsTokenReadAt s text at token) strings_is (record {
      first = record { kind = token.kind; len = t.len; faults = faults t };
      kind_is = refl;
      end_is = end_is;
      tokens = cut_first strings text at t own token.kind first own_is kind_is
          ∙ ap (λ n. record { kind = token.kind; len = t.len; faults = faults t }
          ∷ tokens_of strings false (drop n text)) (sym end_is);
      progress = omega (arith, end_is, some);
      ends_between = subst (IsCharBoundary text) (sym end_is) boundary;
    }))

-- the list is that of the reading
pub listed_in : (reading : TextReading) (text : List ℕ) (strings : Strings) (index : ℕ)
    (lexed : LexedText) → ◌≡◌ {A = TextReading} (record { text = text; strings = strings }) reading
    → IsListed strings text index lexed → IsListed reading.strings reading.text index lexed
listed_in reading text strings index lexed is list =
    subst (λ (r : TextReading). IsListed r.strings r.text index lexed) is list

-- the index after a token of the list that starts inside the text
pub listed_next : (strings : Strings) (text : List ℕ) (index : ℕ) (lexed : LexedText) (i at : ℕ)
    → IsListed strings text index lexed → token_start lexed.tokens i ≡ at → at < length text
    → IsListed strings text (i + 1) lexed
listed_next strings text index lexed i at list starts inside = record {
  lexed_is = list.lexed_is;
  whole = list.whole;
  few = list.few;
  within = let own = starts_inside lexed.tokens i (omega (arith, starts, inside, list.whole)) in
      omega (arith, own);
}
