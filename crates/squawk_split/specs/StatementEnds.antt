-- A statement read token by token.
use Rattle.std.specs.Prelude.{ℕ, ◌+◌, ◌&&◌, ◌||◌, ◌==◌, false, List, [], ◌∷◌, Option, Some, None, if◌then◌else◌}
use Rattle.squawk_kinds.specs.Role.{Role, role, Trivia, Semicolon, Terminator, Command, Open, Close, Other, is_trivia}
use Rattle.squawk_kinds.specs.declared.numbers.TheConstants.Number as kind
use Rattle.squawk_lexed.specs.LexedToken.{LexedToken}
use Rattle.squawk_split.specs.Pieces.{SizedPiece}
use Rattle.squawk_split.specs.declared.pieces.NextPiece.{NextPiece}
use Rattle.squawk_split.specs.declared.pieces.PieceKind.{PieceKind}
use Rattle.squawk_split.specs.declared.pieces.PieceKind.TheVariants as piece
use Rattle.squawk_split.specs.declared.statements.StatementEnd.{StatementEnd}
use Rattle.squawk_split.specs.declared.statements.StatementState.{StatementState}
use Rattle.squawk_statements.specs.Children.{ends_statement, open_groups_after}
use Rattle.squawk_statements.specs.declared.division.Division.{Division}

-- the state before the first kind
abbrev pub start_state : StatementState
start_state = record { groups = 0; after_from = false; from_stdin = false }

-- the state after a kind that is not trivia and does not end the statement
abbrev pub state_after : StatementState → ℕ → StatementState
state_after s k = record {
  groups = open_groups_after s.groups (role k);
  after_from = s.groups == 0 && k == kind.FROM_KW;
  from_stdin = s.from_stdin || (s.after_from && k == kind.STDIN_KW);
}

-- The end of a statement in this state, the rest of which begins at offset `at`. Its last token
-- that is not trivia ends at `trimmed`.
abbrev pub end_from : Division → StatementState → (at trimmed : ℕ) → List LexedToken
    → StatementEnd
end_from division s at trimmed [] = record { end = trimmed; from_stdin = false }
end_from division s at trimmed (t ∷ ts) =
    if ends_statement division s.groups (role t.kind) then record {
      end = at + t.len;
      from_stdin = s.from_stdin && t.kind == kind.SEMICOLON;
    }
    else if is_trivia (role t.kind) then end_from division s (at + t.len) trimmed ts
    else end_from division (state_after s t.kind) (at + t.len) (at + t.len) ts

-- what a token of this role is as a piece, if it is a child by itself
abbrev pub single_piece : Role → Option PieceKind
single_piece Trivia = Some piece.Gap
single_piece Semicolon = Some piece.Statement
single_piece Terminator = Some piece.Command
single_piece Command = Some piece.Command
single_piece Open = None
single_piece Close = None
single_piece Other = None

-- a piece that begins at an offset
abbrev pub next_at : ℕ → SizedPiece → NextPiece
next_at at p = record { kind = p.kind; end = at + p.len; data_follows = p.data_follows }
