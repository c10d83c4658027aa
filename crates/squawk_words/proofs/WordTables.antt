-- The tests of the two tables of words, by computation.
use Rattle.std.proofs.Common.{◌≡◌, true, length, refl}
use Rattle.std.specs.List.{list_all}
use Rattle.squawk_kinds.specs.Role.{role}
use Rattle.squawk_names.specs.Texts.{texts}
use Rattle.squawk_words.specs.WordHash.{HasSlots, slot_of}
use Rattle.squawk_words.specs.WordTable.{pairs_of, pairs_in, other_than, IsWordTable, IsSpelled}
use Rattle.squawk_words.specs.Words.{keywords, contextual_keywords}
use Rattle.squawk_words.specs.declared.slots.TheConstants.{KEYWORD_SLOT_STARTS, KEYWORD_SLOTS, CONTEXTUAL_SLOT_STARTS, CONTEXTUAL_SLOTS}
use Rattle.squawk_words.specs.declared.tables.Table.{Table}
use Rattle.squawk_words.specs.declared.tables.Table.TheVariants.{Keywords, ContextualKeywords}
use Rattle.squawk_words.specs.declared.tables.TheConstants.{KEYWORDS, KEYWORD_STARTS, KEYWORD_TEXT, KEYWORD_OFFSETS, CONTEXTUAL_KEYWORDS, CONTEXTUAL_STARTS, CONTEXTUAL_TEXT, CONTEXTUAL_OFFSETS}
use Rattle.squawk_words.proofs.HashTests.{are_in_slots, HasSlots_from}
use Rattle.squawk_words.proofs.KindLemmas.{prints, is_apart, pair_is_other}
use Rattle.squawk_words.proofs.Spelling.{are_spelled, is_spelled, IsSpelled_from}
use Rattle.squawk_words.proofs.TableTests.{is_sorted, is_non_decreasing, are_in_ranges, is_in_range, IsWordTable_from}

-- the kinds of each table, with their printed words, are the listed words
pub keywords_same : pairs_of KEYWORDS ≡ keywords
unfolding texts keywords
keywords_same = refl

pub contextual_same : pairs_of CONTEXTUAL_KEYWORDS ≡ contextual_keywords
unfolding texts contextual_keywords
contextual_same = refl

-- each is sorted and has its ranges
pub IsWordTable_keywords : IsWordTable KEYWORDS KEYWORD_STARTS
unfolding texts is_sorted is_non_decreasing are_in_ranges is_in_range
IsWordTable_keywords = IsWordTable_from KEYWORDS KEYWORD_STARTS refl refl refl refl refl refl

pub IsWordTable_contextual : IsWordTable CONTEXTUAL_KEYWORDS CONTEXTUAL_STARTS
unfolding texts is_sorted is_non_decreasing are_in_ranges is_in_range
IsWordTable_contextual =
    IsWordTable_from CONTEXTUAL_KEYWORDS CONTEXTUAL_STARTS refl refl refl refl refl refl

-- the text of each has its words
pub IsSpelled_keywords : IsSpelled KEYWORDS KEYWORD_STARTS KEYWORD_TEXT.now KEYWORD_OFFSETS
unfolding texts are_spelled is_spelled
IsSpelled_keywords =
    IsSpelled_from KEYWORD_STARTS KEYWORD_TEXT.now KEYWORD_OFFSETS (length KEYWORD_TEXT.now)
    KEYWORDS refl refl

pub IsSpelled_contextual : IsSpelled CONTEXTUAL_KEYWORDS CONTEXTUAL_STARTS CONTEXTUAL_TEXT.now
    CONTEXTUAL_OFFSETS
unfolding texts are_spelled is_spelled
IsSpelled_contextual =
    IsSpelled_from CONTEXTUAL_STARTS CONTEXTUAL_TEXT.now CONTEXTUAL_OFFSETS
    (length CONTEXTUAL_TEXT.now) CONTEXTUAL_KEYWORDS refl refl

-- the slots of each have the indices of its words
pub HasSlots_keywords : HasSlots KEYWORDS KEYWORD_STARTS KEYWORD_SLOT_STARTS KEYWORD_SLOTS
unfolding texts are_in_slots slot_of
HasSlots_keywords =
    HasSlots_from KEYWORD_SLOT_STARTS KEYWORD_SLOTS KEYWORDS KEYWORD_STARTS refl refl refl refl

pub HasSlots_contextual : HasSlots CONTEXTUAL_KEYWORDS CONTEXTUAL_STARTS CONTEXTUAL_SLOT_STARTS
    CONTEXTUAL_SLOTS
unfolding texts are_in_slots slot_of
HasSlots_contextual =
    HasSlots_from CONTEXTUAL_SLOT_STARTS CONTEXTUAL_SLOTS CONTEXTUAL_KEYWORDS CONTEXTUAL_STARTS
    refl refl refl refl

-- each kind prints as its word between backquotes
pub tables_print : (table : Table) → list_all prints (pairs_in table) ≡ true
unfolding texts keywords contextual_keywords
tables_print Keywords = refl
tables_print ContextualKeywords = refl

-- no word is in both tables
pub tables_are_apart : (table : Table)
    → list_all (is_apart (pairs_in (other_than table))) (pairs_in table) ≡ true
unfolding keywords contextual_keywords
tables_are_apart Keywords = refl
tables_are_apart ContextualKeywords = refl

-- no keyword is trivia, a semicolon, a psql command or a parenthesis
pub keywords_are_other : list_all pair_is_other keywords ≡ true
unfolding role keywords
keywords_are_other = refl
