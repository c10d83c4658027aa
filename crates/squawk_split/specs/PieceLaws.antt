-- What holds of the pieces of a script.
use Rattle.std.specs.Prelude.{⊤, ◌≡◌, ◌⊎◌, ℕ, ◌+◌, ◌<◌, ◌==◌, Bool, true, false, ◌||◌, List, [], ◌∷◌, ◌++◌, length, drop, slice_range}
use Rattle.std.specs.Str.{IsCharBoundary}
use Rattle.squawk_lexed.specs.LexedText.{lexed_text, total_len}
use Rattle.squawk_lexed.specs.LexedToken.{LexedToken, lexed_role}
use Rattle.squawk_lexer.specs.declared.token.Strings.{Strings}
use Rattle.squawk_split.specs.Pieces.{tokens_of, child_kind, copy_data, child_piece, piece_at}
use Rattle.squawk_split.specs.declared.pieces.Piece.{Piece}
use Rattle.squawk_split.specs.declared.pieces.PieceKind.{PieceKind}
use Rattle.squawk_split.specs.declared.pieces.PieceKind.TheVariants.{Gap, Statement, Command, CopyData}
use Rattle.squawk_statements.specs.Children.{parts}
use Rattle.squawk_statements.specs.declared.division.Division.{Division}

-- the pieces cover the text from offset `at` to its end without a gap: each has at least one byte
-- and ends on a character boundary
abbrev pub PiecesTile : List ℕ → ℕ → List Piece → Type 0
PiecesTile text at [] = at ≡ length text
PiecesTile text at (p ∷ ps) = (p.start ≡ at) × (p.start < p.end) × IsCharBoundary text p.end
    × PiecesTile text p.end ps

-- the texts of the pieces, one after another
abbrev pub joined : List ℕ → List Piece → List ℕ
joined text [] = []
joined text (p ∷ ps) = slice_range text p.start p.end ++ joined text ps

-- the piece is the first child of the text from its start on
abbrev pub IsChildPiece : Strings → Division → List ℕ → Piece → Type 0
IsChildPiece strings division text p =
    p ≡ piece_at p.start
    (child_piece division (tokens_of strings (p.start == 0) (drop p.start text)))

-- the piece is the COPY data that begins the text from its start on
abbrev pub IsDataPiece : List ℕ → Piece → Type 0
IsDataPiece text p = p ≡ piece_at p.start (copy_data (drop p.start text))

-- each piece is the first child of the text from its start on, or COPY data
abbrev pub AreChildrenOrData : Strings → Division → List ℕ → List Piece → Type 0
AreChildrenOrData strings division text [] = ⊤
AreChildrenOrData strings division text (p ∷ ps) =
    (IsChildPiece strings division text p ⊎ IsDataPiece text p)
    × AreChildrenOrData strings division text ps

abbrev pub is_data : PieceKind → Bool
is_data CopyData = true
is_data Gap = false
is_data Statement = false
is_data Command = false

-- whether one of the pieces is COPY data
abbrev pub has_data : List Piece → Bool
has_data [] = false
has_data (p ∷ ps) = is_data p.kind || has_data ps

-- the children of these tokens as pieces, from an offset on
abbrev pub child_pieces : ℕ → List (List LexedToken) → List Piece
child_pieces at [] = []
child_pieces at (part ∷ rest) =
    record { kind = child_kind part; start = at; end = at + total_len part }
    ∷ child_pieces (at + total_len part) rest

-- without COPY data, the pieces are the children of the root
abbrev pub AreChildrenWithoutData : Strings → Division → List ℕ → List Piece → Type 0
AreChildrenWithoutData strings division text ps = has_data ps ≡ false
    → ps ≡ child_pieces 0 (parts lexed_role division (lexed_text strings text).tokens)
