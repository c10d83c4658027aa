use Rattle.std.proofs.Common.{◌≡◌, AllPairs, Less, subst}
use Rattle.squawk_words.specs.Words.{keywords, contextual_keywords, word_cmp}
use Rattle.squawk_words.specs.declared.tables.TheConstants.{KEYWORDS, CONTEXTUAL_KEYWORDS}
use Rattle.squawk_words.proofs.TableTests.{sorted_pairs_of, words_differ}
use Rattle.squawk_words.proofs.WordTables.{keywords_same, contextual_same, IsWordTable_keywords, IsWordTable_contextual}
use Rattle.squawk_words.proofs.laws.words_are_sorted.Goals as goal

-- the words of both tables are sorted
keywords_sorted : AllPairs (λ a b. word_cmp a.0 b.0 ≡ Less) keywords
keywords_sorted =
    subst (AllPairs (λ a b. word_cmp a.0 b.0 ≡ Less)) keywords_same
    (sorted_pairs_of KEYWORDS IsWordTable_keywords.sorted)

contextual_sorted : AllPairs (λ a b. word_cmp a.0 b.0 ≡ Less) contextual_keywords
contextual_sorted =
    subst (AllPairs (λ a b. word_cmp a.0 b.0 ≡ Less)) contextual_same
    (sorted_pairs_of CONTEXTUAL_KEYWORDS IsWordTable_contextual.sorted)

pub returns-clause-keywords : goal.returns-clause-keywords
returns-clause-keywords c = keywords_sorted

pub returns-clause-contextual : goal.returns-clause-contextual
returns-clause-contextual c = contextual_sorted

pub returns-clause-keywords_once : goal.returns-clause-keywords_once
returns-clause-keywords_once c = words_differ keywords keywords_sorted

pub returns-clause-contextual_once : goal.returns-clause-contextual_once
returns-clause-contextual_once c = words_differ contextual_keywords contextual_sorted
