use Rattle.std.proofs.Common.{sym, subst, ap, ◌∙◌}
use Rattle.squawk_words.specs.WordTable.{IsSpelled, pairs_in}
use Rattle.squawk_words.specs.declared.tables.TheConstants.{KEYWORDS, KEYWORD_STARTS, KEYWORD_OFFSETS, CONTEXTUAL_KEYWORDS, CONTEXTUAL_STARTS, CONTEXTUAL_OFFSETS}
use Rattle.squawk_words.proofs.WordTables.{keywords_same, contextual_same, IsWordTable_keywords, IsWordTable_contextual, IsSpelled_keywords, IsSpelled_contextual, HasSlots_keywords, HasSlots_contextual}
use Rattle.squawk_words.proofs.tables.words_in.Goals as goal

pub returns-in-Keywords-clause-same : goal.returns-in-Keywords-clause-same
returns-in-Keywords-clause-same c = keywords_same ∙ ap pairs_in (sym c.in-Keywords.is)

pub returns-in-Keywords-clause-table : goal.returns-in-Keywords-clause-table
returns-in-Keywords-clause-table c = IsWordTable_keywords

pub returns-in-Keywords-clause-spelled : goal.returns-in-Keywords-clause-spelled
returns-in-Keywords-clause-spelled c =
    subst (λ text. IsSpelled KEYWORDS KEYWORD_STARTS text KEYWORD_OFFSETS)
    (sym c.as_bytes.ensures.value) IsSpelled_keywords

pub returns-in-Keywords-clause-hashed : goal.returns-in-Keywords-clause-hashed
returns-in-Keywords-clause-hashed c = HasSlots_keywords

pub returns-in-ContextualKeywords-clause-same : goal.returns-in-ContextualKeywords-clause-same
returns-in-ContextualKeywords-clause-same c =
    contextual_same ∙ ap pairs_in (sym c.in-ContextualKeywords.is)

pub returns-in-ContextualKeywords-clause-table : goal.returns-in-ContextualKeywords-clause-table
returns-in-ContextualKeywords-clause-table c = IsWordTable_contextual

pub returns-in-ContextualKeywords-clause-spelled :
    goal.returns-in-ContextualKeywords-clause-spelled
returns-in-ContextualKeywords-clause-spelled c =
    subst (λ text. IsSpelled CONTEXTUAL_KEYWORDS CONTEXTUAL_STARTS text CONTEXTUAL_OFFSETS)
    (sym c.as_bytes-in-ContextualKeywords.ensures.value) IsSpelled_contextual

pub returns-in-ContextualKeywords-clause-hashed :
    goal.returns-in-ContextualKeywords-clause-hashed
returns-in-ContextualKeywords-clause-hashed c = HasSlots_contextual
