-- One token of a statement that is read.
use Rattle.std.proofs.Common.{◌≡◌, ℕ, ◌+◌, ◌≤◌, Bool, false, None, subst, List, ◌∷◌, length, drop, refl, sym, ap, ◌∙◌, ◌&&◌, eqb}
use Rattle.std.proofs.Math.ListN.{drop_of_length-le}
use Rattle.squawk_kinds.specs.Role.{Role, role, Trivia, Semicolon, Terminator, Command, Open, Close, Other, is_trivia}
use Rattle.squawk_kinds.specs.declared.numbers.TheConstants.Number as kinds
use Rattle.squawk_lexed.specs.LexedText.{total_len}
use Rattle.squawk_lexer.specs.declared.token.Strings.{Strings}
use Rattle.squawk_split.specs.Pieces.{tokens_of, first_part, is_copy, kind_by_role, child_piece}
use Rattle.squawk_split.specs.StatementEnds.{start_state, state_after, end_from, single_piece, next_at}
use Rattle.squawk_split.specs.declared.pieces.NextPiece.{NextPiece}
use Rattle.squawk_split.specs.declared.pieces.PieceKind.{PieceKind}
use Rattle.squawk_split.specs.declared.pieces.PieceKind.TheVariants as piece
use Rattle.squawk_split.specs.declared.statements.StatementEnd.{StatementEnd}
use Rattle.squawk_split.specs.declared.statements.StatementState.{StatementState}
use Rattle.squawk_split.proofs.StatementLemmas.{IsRead, statement_is_read}
use Rattle.squawk_split.specs.Reader.{TextReading, IsTokenReadAt}
use Rattle.squawk_split.specs.declared.reader.KindAndEnd.{KindAndEnd}
use Rattle.squawk_split.proofs.TokenSteps.{tokens_none}
use Rattle.squawk_statements.specs.Children.{is_single_token}
use Rattle.squawk_statements.specs.declared.division.Division.{Division}

-- ---- a token that was read

token_is : (strings : Strings) (text : List ℕ) (at : ℕ) (token : KindAndEnd)
    (is : IsTokenReadAt strings text at token)
    → token ≡ record { kind = is.first.kind; end = at + is.first.len }
token_is strings text at token is =
    ap (λ (k : ℕ). record { kind = k; end = token.end }) is.kind_is
    ∙ ap (λ (n : ℕ). record { kind = is.first.kind; end = n }) is.end_is

-- the end of the text
pub ends_with_text : (d : Division) (s : StatementState) (strings : Strings) (text : List ℕ)
    (at trimmed : ℕ) (whole : StatementEnd) → length text ≤ at
    → end_from d s at trimmed (tokens_of strings false (drop at text)) ≡ whole
    → record { end = trimmed; from_stdin = false } ≡ whole
ends_with_text d s strings text at trimmed whole h inv =
    sym (ap (end_from d s at trimmed) (ap (tokens_of strings false) (drop_of_length-le text h)
    ∙ tokens_none strings false)) ∙ inv

-- ---- a statement as a piece

next_same : (j k : PieceKind) (m n : ℕ) (a b : Bool) → j ≡ k → m ≡ n → a ≡ b
    → ◌≡◌ {A = NextPiece} (record { kind = j; end = m; data_follows = a })
    (record { kind = k; end = n; data_follows = b })
next_same j k m n a b kinds ends follows =
    ap (λ (x : PieceKind). record { kind = x; end = m; data_follows = a }) kinds
    ∙ ap (λ (x : ℕ). record { kind = k; end = x; data_follows = a }) ends
    ∙ ap (λ (x : Bool). record { kind = k; end = n; data_follows = x }) follows

-- a role that is no child by itself
record BeginsStatement (f : Role) : Type 0 where
  not_trivia : is_trivia f ≡ false
  not_single : is_single_token f ≡ false
  kind_is : kind_by_role f ≡ piece.Statement

begins_statement : (f : Role) → single_piece f ≡ None → BeginsStatement f
begins_statement Trivia e = absurd (cc)
begins_statement Semicolon e = absurd (cc)
begins_statement Terminator e = absurd (cc)
begins_statement Command e = absurd (cc)
begins_statement Open e = record { not_trivia = refl; not_single = refl; kind_is = refl }
begins_statement Close e = record { not_trivia = refl; not_single = refl; kind_is = refl }
begins_statement Other e = record { not_trivia = refl; not_single = refl; kind_is = refl }

-- a statement, the rest of which was read by the reader after its first token
pub next_statement : (d : Division) (reading after : TextReading) (at : ℕ) (token : KindAndEnd)
    (r : StatementEnd) (follows : Bool) → after ≡ reading
    → IsTokenReadAt reading.strings reading.text at token → single_piece (role token.kind) ≡ None
    → r ≡ end_from d (state_after start_state token.kind) token.end token.end
    (tokens_of after.strings false (drop token.end after.text))
    → follows ≡ (eqb token.kind kinds.COPY_KW && r.from_stdin)
    → ◌≡◌ {A = NextPiece} (record { kind = piece.Statement; end = r.end; data_follows = follows })
    (next_at at (child_piece d (tokens_of reading.strings (eqb at 0) (drop at reading.text))))
next_statement d reading after at token r follows same is none r_is follows_is =
    let own = is.first in
    let rest = tokens_of reading.strings false (drop token.end reading.text) in
    let begins = begins_statement (role own.kind)
    (ap (λ k. single_piece (role k)) (sym is.kind_is) ∙ none) in
    let read : IsRead d at own rest r = subst (IsRead d at own rest)
    (sym (r_is
    ∙ ap (λ (u : TextReading). end_from d (state_after start_state token.kind) token.end token.end
    (tokens_of u.strings false (drop token.end u.text))) same
    ∙ ap (λ (u : KindAndEnd). end_from d (state_after start_state u.kind) u.end u.end rest)
    (token_is reading.strings reading.text at token is)))
    (statement_is_read d at own rest begins.not_trivia begins.not_single) in
    next_same piece.Statement (kind_by_role (role own.kind)) r.end
    (at + total_len (first_part d (own ∷ rest))) follows (is_copy d (own ∷ rest))
    (sym begins.kind_is) read.end_is
    (follows_is ∙ ap (λ k. eqb k kinds.COPY_KW && r.from_stdin) is.kind_is ∙ sym read.copy_is)
    ∙ ap (λ ts. next_at at (child_piece d ts)) (sym is.tokens)
