use Rattle.squawk_words.specs.WordTable.{pairs_in, other_than}
use Rattle.squawk_words.proofs.KindLemmas.{in_pairs, found_none, found_some, found_printed, found_apart}
use Rattle.squawk_words.proofs.WordTables.{tables_print, tables_are_apart}
use Rattle.squawk_words.proofs.search.look_up.Goals as goal

pub returns-clause-kind : goal.returns-clause-kind
returns-clause-kind c =
    in_pairs _ _ _ _ _ c.find.ensures c.words_in.ensures.same c.as_bytes.ensures.value

pub returns-clause-none : goal.returns-clause-none
returns-clause-none c =
    let same = in_pairs _ _ _ _ _ c.find.ensures c.words_in.ensures.same c.as_bytes.ensures.value in
    found_none (pairs_in c.args.table) c.args.ident.now c.find.result same

pub returns-clause-some : goal.returns-clause-some
returns-clause-some c =
    let same = in_pairs _ _ _ _ _ c.find.ensures c.words_in.ensures.same c.as_bytes.ensures.value in
    found_some (pairs_in c.args.table) c.args.ident.now c.find.result same

pub returns-clause-printed : goal.returns-clause-printed
returns-clause-printed c =
    let same = in_pairs _ _ _ _ _ c.find.ensures c.words_in.ensures.same c.as_bytes.ensures.value in
    found_printed (pairs_in c.args.table) c.args.ident.now c.find.result same
    (tables_print c.args.table)

pub returns-clause-apart : goal.returns-clause-apart
returns-clause-apart c =
    let same = in_pairs _ _ _ _ _ c.find.ensures c.words_in.ensures.same c.as_bytes.ensures.value in
    found_apart (pairs_in c.args.table) c.args.ident.now (pairs_in (other_than c.args.table))
    c.find.result same (tables_are_apart c.args.table)
