-- The members of each set by its name, and the name of the set that has given members.
use Rattle.std.specs.Prelude.{◌≡◌, ℕ, ◌==◌, List, length, if◌then◌else◌, refl}
use Rattle.squawk_kinds.specs.declared.SyntaxKind.{SyntaxKind}
use Rattle.squawk_words.specs.KeywordSets.{all_keywords, unreserved_keywords, column_or_table_keywords, type_keywords, bare_label_keywords}
use Rattle.squawk_words.specs.Sets.{punctuation, operators, contextual_keywords, col_name_keyword_first, type_func_name_keywords, reserved_keywords, plpgsql_reserved_keywords, plpgsql_reserved_contextual_keywords}
use Rattle.squawk_words.specs.declared.sets.Set.{Set}
use Rattle.squawk_words.specs.declared.sets.Set.TheVariants.{Punctuation, Operators, ContextualKeywords, ColumnOrTableKeywords, TypeKeywords, ColNameKeywordFirst, TypeFuncNameKeywords, AllKeywords, BareLabelKeywords, UnreservedKeywords, ReservedKeywords, PlpgsqlReservedKeywords, PlpgsqlReservedContextualKeywords}

-- the members of a set
abbrev pub members_of : Set → List SyntaxKind
members_of Punctuation = punctuation
members_of Operators = operators
members_of ContextualKeywords = contextual_keywords
members_of ColumnOrTableKeywords = column_or_table_keywords
members_of TypeKeywords = type_keywords
members_of ColNameKeywordFirst = col_name_keyword_first
members_of TypeFuncNameKeywords = type_func_name_keywords
members_of AllKeywords = all_keywords
members_of BareLabelKeywords = bare_label_keywords
members_of UnreservedKeywords = unreserved_keywords
members_of ReservedKeywords = reserved_keywords
members_of PlpgsqlReservedKeywords = plpgsql_reserved_keywords
members_of PlpgsqlReservedContextualKeywords = plpgsql_reserved_contextual_keywords

-- the set with this number of members: no two sets have equally many
abbrev pub set_of : ℕ → Set
set_of count =
    if count == 10 then Punctuation
    else if count == 28 then Operators
    else if count == 49 then ContextualKeywords
    else if count == 410 then ColumnOrTableKeywords
    else if count == 433 then TypeKeywords
    else if count == 64 then ColNameKeywordFirst
    else if count == 23 then TypeFuncNameKeywords
    else if count == 511 then AllKeywords
    else if count == 470 then BareLabelKeywords
    else if count == 346 then UnreservedKeywords
    else if count == 78 then ReservedKeywords
    else if count == 19 then PlpgsqlReservedKeywords
    else PlpgsqlReservedContextualKeywords

-- so the members of a set determine it
pub set_of_members : (set : Set) → set_of (length (members_of set)) ≡ set
unfolding punctuation operators contextual_keywords column_or_table_keywords type_keywords
    col_name_keyword_first type_func_name_keywords all_keywords bare_label_keywords
    unreserved_keywords reserved_keywords plpgsql_reserved_keywords
    plpgsql_reserved_contextual_keywords
set_of_members Punctuation = refl
set_of_members Operators = refl
set_of_members ContextualKeywords = refl
set_of_members ColumnOrTableKeywords = refl
set_of_members TypeKeywords = refl
set_of_members ColNameKeywordFirst = refl
set_of_members TypeFuncNameKeywords = refl
set_of_members AllKeywords = refl
set_of_members BareLabelKeywords = refl
set_of_members UnreservedKeywords = refl
set_of_members ReservedKeywords = refl
set_of_members PlpgsqlReservedKeywords = refl
set_of_members PlpgsqlReservedContextualKeywords = refl
