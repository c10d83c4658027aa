-- The pieces of a script: its root children, and the data after `COPY .. FROM STDIN`. Texts are
-- lists of bytes in UTF-8.
use Rattle.std.specs.Prelude.{ℕ, zero, suc, ◌+◌, ◌-◌, ◌==◌, Bool, true, false, List, [], ◌∷◌, map, take}
use Rattle.std.specs.Str.{chars}
use Rattle.squawk_kinds.specs.Role.{Role, Trivia, Semicolon, Terminator, Command, Open, Close, Other}
use Rattle.squawk_lexed.specs.LexedText.{lexed_tokens, total_len}
use Rattle.squawk_lexed.specs.LexedToken.{LexedToken, lexed_role}
use Rattle.squawk_lexed.specs.Weave.{kinds_without_trivia}
use Rattle.squawk_lexer.specs.Cut.{tokens_from}
use Rattle.squawk_lexer.specs.declared.token.Strings.{Strings}
use Rattle.squawk_split.specs.CopyData.{copy_data_len}
use Rattle.squawk_split.specs.CopyFromStdin.{is_copy_from_stdin}
use Rattle.squawk_split.specs.declared.pieces.Piece.{Piece}
use Rattle.squawk_split.specs.declared.pieces.PieceKind.{PieceKind}
use Rattle.squawk_split.specs.declared.pieces.PieceKind.TheVariants as piece
use Rattle.squawk_statements.specs.Children.{first_child, first_child_len}
use Rattle.squawk_statements.specs.declared.division.Division.{Division}

-- ---- the first child of a text

-- The tokens of a text, with the kinds of their leaves. `at_start` says that the script begins with
-- the text, so that a byte order mark is white space.
abbrev pub tokens_of : Strings → (at_start : Bool) → List ℕ → List LexedToken
tokens_of strings at_start text = lexed_tokens text 0 (tokens_from strings 0 at_start (chars text))

-- the tokens of the first child
abbrev pub first_part : Division → List LexedToken → List LexedToken
first_part division ts = take (first_child_len lexed_role division ts) ts

-- whether the first child is a `COPY .. FROM STDIN ..;`
abbrev pub is_copy : Division → List LexedToken → Bool
is_copy division ts =
    is_copy_from_stdin (kinds_without_trivia (first_part division ts))
    (first_child division (map lexed_role ts)).closed

-- what a child is as a piece, by the role of its first token
abbrev pub kind_by_role : Role → PieceKind
kind_by_role Trivia = piece.Gap
kind_by_role Semicolon = piece.Statement
kind_by_role Terminator = piece.Command
kind_by_role Command = piece.Command
kind_by_role Open = piece.Statement
kind_by_role Close = piece.Statement
kind_by_role Other = piece.Statement

-- what a child of these tokens is as a piece
abbrev pub child_kind : List LexedToken → PieceKind
child_kind [] = piece.Gap
child_kind (t ∷ ts) = kind_by_role (lexed_role t)

-- ---- the pieces

-- what a piece is, its length in bytes, and whether COPY data follows it
pub record SizedPiece : Type 0 where
  pub kind : PieceKind
  pub len : ℕ
  pub data_follows : Bool

-- COPY data at the start of a text
abbrev pub copy_data : List ℕ → SizedPiece
copy_data text = record { kind = piece.CopyData; len = copy_data_len text; data_follows = false }

-- the first child of these tokens
abbrev pub child_piece : Division → List LexedToken → SizedPiece
child_piece division ts = record {
  kind = child_kind ts;
  len = total_len (first_part division ts);
  data_follows = is_copy division ts;
}

-- The piece at the start of a text: COPY data, after a `COPY .. FROM STDIN`, or else the first
-- child of the text.
abbrev pub first_piece : Strings → Division → (at_start is_data : Bool) → List ℕ → SizedPiece
first_piece strings division at_start true text = copy_data text
first_piece strings division at_start false text =
    child_piece division (tokens_of strings at_start text)

-- this piece from an offset on
abbrev pub piece_at : ℕ → SizedPiece → Piece
piece_at at p = record { kind = p.kind; start = at; end = at + p.len }

-- The pieces of a text that begins at an offset of the script. Its first `inside` bytes belong to a
-- piece that began before; `is_data` says that COPY data comes after them, and `at` is the offset
-- there.
abbrev pub pieces_from : Strings → Division → (is_data : Bool) → (inside at : ℕ) → List ℕ
    → List Piece
pieces_from strings division is_data inside at [] = []
pieces_from strings division is_data (suc inside) at (b ∷ bs) =
    pieces_from strings division is_data inside at bs
pieces_from strings division is_data zero at (b ∷ bs) =
    let first = first_piece strings division (at == 0) is_data (b ∷ bs) in
    piece_at at first
    ∷ pieces_from strings division first.data_follows (first.len - 1) (at + first.len) bs

-- the pieces of a script
abbrev pub pieces_of : Strings → Division → List ℕ → List Piece
pieces_of strings division text = pieces_from strings division false 0 0 text
