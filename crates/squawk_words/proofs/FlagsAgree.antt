-- The tests of the table of flags: one for each set, by computation.
use Rattle.std.proofs.Common.{◌≡◌, true, refl}
use Rattle.std.specs.List.{list_all}
use Rattle.squawk_words.proofs.CategoryLemmas.{is_sum}
use Rattle.squawk_words.proofs.FlagTests.{flagged, HasFlags_from}
use Rattle.squawk_words.specs.Flags.{bit_of, HasFlags}
use Rattle.squawk_words.specs.Members.{members_of}
use Rattle.squawk_words.specs.KeywordSets.{all_keywords, unreserved_keywords, column_or_table_keywords, type_keywords, bare_label_keywords}
use Rattle.squawk_words.specs.Sets.{punctuation, operators, contextual_keywords, col_name_keyword_first, type_func_name_keywords, reserved_keywords, plpgsql_reserved_keywords, plpgsql_reserved_contextual_keywords}
use Rattle.squawk_words.specs.declared.flags.TheConstants.{FLAGS}
use Rattle.squawk_words.specs.declared.sets.Set.{Set}
use Rattle.squawk_words.specs.declared.sets.Set.TheVariants.{Punctuation, Operators, ContextualKeywords, ColumnOrTableKeywords, TypeKeywords, ColNameKeywordFirst, TypeFuncNameKeywords, AllKeywords, BareLabelKeywords, UnreservedKeywords, ReservedKeywords, PlpgsqlReservedKeywords, PlpgsqlReservedContextualKeywords}

-- the bit of each set is 1 exactly at the members of its list
punctuation_flagged : flagged 0 0 FLAGS punctuation ≡ true
unfolding flagged punctuation
punctuation_flagged = refl

operators_flagged : flagged 1 0 FLAGS operators ≡ true
unfolding flagged operators
operators_flagged = refl

contextual_keywords_flagged : flagged 2 0 FLAGS contextual_keywords ≡ true
unfolding flagged contextual_keywords
contextual_keywords_flagged = refl

column_or_table_keywords_flagged : flagged 3 0 FLAGS column_or_table_keywords ≡ true
unfolding flagged column_or_table_keywords
column_or_table_keywords_flagged = refl

type_keywords_flagged : flagged 4 0 FLAGS type_keywords ≡ true
unfolding flagged type_keywords
type_keywords_flagged = refl

col_name_keyword_first_flagged : flagged 5 0 FLAGS col_name_keyword_first ≡ true
unfolding flagged col_name_keyword_first
col_name_keyword_first_flagged = refl

type_func_name_keywords_flagged : flagged 6 0 FLAGS type_func_name_keywords ≡ true
unfolding flagged type_func_name_keywords
type_func_name_keywords_flagged = refl

all_keywords_flagged : flagged 7 0 FLAGS all_keywords ≡ true
unfolding flagged all_keywords
all_keywords_flagged = refl

bare_label_keywords_flagged : flagged 8 0 FLAGS bare_label_keywords ≡ true
unfolding flagged bare_label_keywords
bare_label_keywords_flagged = refl

unreserved_keywords_flagged : flagged 9 0 FLAGS unreserved_keywords ≡ true
unfolding flagged unreserved_keywords
unreserved_keywords_flagged = refl

reserved_keywords_flagged : flagged 10 0 FLAGS reserved_keywords ≡ true
unfolding flagged reserved_keywords
reserved_keywords_flagged = refl

plpgsql_reserved_keywords_flagged : flagged 11 0 FLAGS plpgsql_reserved_keywords ≡ true
unfolding flagged plpgsql_reserved_keywords
plpgsql_reserved_keywords_flagged = refl

plpgsql_reserved_contextual_keywords_flagged : flagged 12 0 FLAGS
    plpgsql_reserved_contextual_keywords ≡ true
unfolding flagged plpgsql_reserved_contextual_keywords
plpgsql_reserved_contextual_keywords_flagged = refl

each_flagged : (set : Set) → flagged (bit_of set) 0 FLAGS (members_of set) ≡ true
each_flagged Punctuation = punctuation_flagged
each_flagged Operators = operators_flagged
each_flagged ContextualKeywords = contextual_keywords_flagged
each_flagged ColumnOrTableKeywords = column_or_table_keywords_flagged
each_flagged TypeKeywords = type_keywords_flagged
each_flagged ColNameKeywordFirst = col_name_keyword_first_flagged
each_flagged TypeFuncNameKeywords = type_func_name_keywords_flagged
each_flagged AllKeywords = all_keywords_flagged
each_flagged BareLabelKeywords = bare_label_keywords_flagged
each_flagged UnreservedKeywords = unreserved_keywords_flagged
each_flagged ReservedKeywords = reserved_keywords_flagged
each_flagged PlpgsqlReservedKeywords = plpgsql_reserved_keywords_flagged
each_flagged PlpgsqlReservedContextualKeywords = plpgsql_reserved_contextual_keywords_flagged

pub HasFlags_FLAGS : HasFlags FLAGS
HasFlags_FLAGS = HasFlags_from FLAGS each_flagged

-- the bit of all keywords is the sum of the bits of the four categories
pub sums_FLAGS : list_all is_sum FLAGS ≡ true
sums_FLAGS = refl
