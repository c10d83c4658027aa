use Rattle.std.proofs.Common.{ap, ◌∙◌}
use Rattle.squawk_split.specs.Pieces.{pieces_of}
use Rattle.squawk_split.specs.Reader.{TextReading}
use Rattle.squawk_split.proofs.ChildPieces.{pieces_meet}
use Rattle.squawk_split.proofs.pieces.split.Goals as goal

pub returns-clause-tiles : goal.returns-clause-tiles
returns-clause-tiles c =
    (pieces_meet c.tokens_progress.ensures.texts c.tokens_restart.ensures.texts c.args.strings
    c.args.division c.args.text.now c.in_ok-pieces.pieces c.utf8.text
    (c.in_ok-pieces.ensures.pieces ∙ ap (λ (r : TextReading). pieces_of r.strings c.args.division
    r.text) c.of_text.ensures)).tiles

pub returns-clause-joined : goal.returns-clause-joined
returns-clause-joined c =
    (pieces_meet c.tokens_progress.ensures.texts c.tokens_restart.ensures.texts c.args.strings
    c.args.division c.args.text.now c.in_ok-pieces.pieces c.utf8.text
    (c.in_ok-pieces.ensures.pieces ∙ ap (λ (r : TextReading). pieces_of r.strings c.args.division
    r.text) c.of_text.ensures)).joined_is

pub returns-clause-cuts : goal.returns-clause-cuts
returns-clause-cuts c =
    (pieces_meet c.tokens_progress.ensures.texts c.tokens_restart.ensures.texts c.args.strings
    c.args.division c.args.text.now c.in_ok-pieces.pieces c.utf8.text
    (c.in_ok-pieces.ensures.pieces ∙ ap (λ (r : TextReading). pieces_of r.strings c.args.division
    r.text) c.of_text.ensures)).cuts

pub returns-clause-children : goal.returns-clause-children
returns-clause-children c =
    (pieces_meet c.tokens_progress.ensures.texts c.tokens_restart.ensures.texts c.args.strings
    c.args.division c.args.text.now c.in_ok-pieces.pieces c.utf8.text
    (c.in_ok-pieces.ensures.pieces ∙ ap (λ (r : TextReading). pieces_of r.strings c.args.division
    r.text) c.of_text.ensures)).children
