use Rattle.std.proofs.lemmas.Str.{IsCharBoundary-start}
use Rattle.squawk_document.proofs.document.Document.new.Goals as goal

pub cut_to_meeting-requires-clause-boundary : goal.cut_to_meeting-requires-clause-boundary
cut_to_meeting-requires-clause-boundary g c = IsCharBoundary-start c.args.text.now c.utf8.text
