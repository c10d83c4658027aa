use Rattle.std.proofs.Common.{ap, subst, ◌∙◌, IsUtf8}
use Rattle.squawk_split.specs.Pieces.{pieces_of}
use Rattle.squawk_split.specs.Reader.{TextReading}
use Rattle.squawk_split.proofs.ChildPieces.{pieces_meet}
use Rattle.squawk_split.proofs.pieces.split_lexed.Goals as goal

pub returns-clause-tiles : goal.returns-clause-tiles
returns-clause-tiles c =
    (pieces_meet c.tokens_progress.ensures.texts c.tokens_restart.ensures.texts c.args.strings
    c.args.division c.args.lexed.now.text c.in_ok-pieces.pieces (subst IsUtf8 c.as_str.ensures c.as_str.utf8)
    (c.in_ok-pieces.ensures.pieces ∙ ap (λ (r : TextReading). pieces_of r.strings c.args.division
    r.text) c.of_lexed.ensures)).tiles

pub returns-clause-joined : goal.returns-clause-joined
returns-clause-joined c =
    (pieces_meet c.tokens_progress.ensures.texts c.tokens_restart.ensures.texts c.args.strings
    c.args.division c.args.lexed.now.text c.in_ok-pieces.pieces (subst IsUtf8 c.as_str.ensures c.as_str.utf8)
    (c.in_ok-pieces.ensures.pieces ∙ ap (λ (r : TextReading). pieces_of r.strings c.args.division
    r.text) c.of_lexed.ensures)).joined_is

pub returns-clause-cuts : goal.returns-clause-cuts
returns-clause-cuts c =
    (pieces_meet c.tokens_progress.ensures.texts c.tokens_restart.ensures.texts c.args.strings
    c.args.division c.args.lexed.now.text c.in_ok-pieces.pieces (subst IsUtf8 c.as_str.ensures c.as_str.utf8)
    (c.in_ok-pieces.ensures.pieces ∙ ap (λ (r : TextReading). pieces_of r.strings c.args.division
    r.text) c.of_lexed.ensures)).cuts

pub returns-clause-children : goal.returns-clause-children
returns-clause-children c =
    (pieces_meet c.tokens_progress.ensures.texts c.tokens_restart.ensures.texts c.args.strings
    c.args.division c.args.lexed.now.text c.in_ok-pieces.pieces (subst IsUtf8 c.as_str.ensures c.as_str.utf8)
    (c.in_ok-pieces.ensures.pieces ∙ ap (λ (r : TextReading). pieces_of r.strings c.args.division
    r.text) c.of_lexed.ensures)).children
