-- The keyword categories of PostgreSQL's appendix C, and the list of all sets.
use Rattle.std.specs.Prelude.{List, [], ◌∷◌}
use Rattle.squawk_kinds.specs.declared.SyntaxKind.{SyntaxKind}
use Rattle.squawk_words.specs.KeywordSets.{all_keywords, unreserved_keywords, column_or_table_keywords, type_keywords, bare_label_keywords}
use Rattle.squawk_words.specs.Sets.{punctuation, operators, contextual_keywords, col_name_keyword_first, type_func_name_keywords, reserved_keywords, plpgsql_reserved_keywords, plpgsql_reserved_contextual_keywords}

-- non-reserved; non-reserved (cannot be function or type); reserved (can be function or type);
-- reserved
abbrev pub categories : List (List SyntaxKind)
categories =
    unreserved_keywords ∷ col_name_keyword_first ∷ type_func_name_keywords ∷ reserved_keywords ∷ []

-- the thirteen sets, in the order of their bits in the table of flags
abbrev pub kind_sets : List (List SyntaxKind)
kind_sets =
    punctuation ∷ operators ∷ contextual_keywords ∷ column_or_table_keywords ∷ type_keywords
    ∷ col_name_keyword_first ∷ type_func_name_keywords ∷ all_keywords ∷ bare_label_keywords
    ∷ unreserved_keywords ∷ reserved_keywords ∷ plpgsql_reserved_keywords
    ∷ plpgsql_reserved_contextual_keywords ∷ []
