use Rattle.std.proofs.Common.{subst, IsUtf8}
use Rattle.squawk_split.proofs.FitLemmas.{fits_at}
use Rattle.squawk_split.proofs.pieces.next_piece.Goals as goal

pub returns-clause-progress : goal.returns-clause-progress
returns-clause-progress c =
    (fits_at c.tokens_progress.ensures.texts c.tokens_restart.ensures.texts
    c.args.reader.now.strings c.args.division c.args.is_data c.args.reader.now.text c.args.at
    c.data_or_child.result (subst IsUtf8 c.text.ensures.text c.text.utf8) c.requires.boundary
    c.requires.inside c.data_or_child.ensures.piece).progress

pub returns-clause-ends_between : goal.returns-clause-ends_between
returns-clause-ends_between c =
    (fits_at c.tokens_progress.ensures.texts c.tokens_restart.ensures.texts
    c.args.reader.now.strings c.args.division c.args.is_data c.args.reader.now.text c.args.at
    c.data_or_child.result (subst IsUtf8 c.text.ensures.text c.text.utf8) c.requires.boundary
    c.requires.inside c.data_or_child.ensures.piece).ends_between
