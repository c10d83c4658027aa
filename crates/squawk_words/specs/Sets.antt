-- The members of the smaller sets of kinds; the larger sets stand in KeywordSets.
use Rattle.std.specs.Prelude.{List, [], ◌∷◌}
use Rattle.squawk_kinds.specs.declared.SyntaxKind.{SyntaxKind}
use Rattle.squawk_kinds.specs.declared.numbers.TheConstants.Number as kind

-- punctuation: `;`, `,`, parentheses, brackets, braces, `.` and `..`
unfoldable pub punctuation : List SyntaxKind
punctuation =
    kind.SEMICOLON ∷ kind.COMMA ∷ kind.L_PAREN ∷ kind.R_PAREN ∷ kind.L_BRACK ∷ kind.R_BRACK ∷ kind.L_CURLY ∷
    kind.R_CURLY ∷ kind.DOT ∷ kind.DOT_DOT ∷
    []

-- all other symbols: operators, and the characters that operators consist of
unfoldable pub operators : List SyntaxKind
operators =
    kind.DOLLAR ∷ kind.L_ANGLE ∷ kind.LESS_LESS ∷ kind.LTEQ ∷ kind.NEQB ∷ kind.R_ANGLE ∷ kind.GREATER_GREATER ∷
    kind.GTEQ ∷ kind.AT ∷ kind.POUND ∷ kind.TILDE ∷ kind.QUESTION ∷ kind.AMP ∷ kind.PIPE ∷ kind.PLUS ∷ kind.STAR ∷
    kind.SLASH ∷ kind.CARET ∷ kind.PERCENT ∷ kind.UNDERSCORE ∷ kind.COLON ∷ kind.COLON_EQ ∷ kind.EQ ∷ kind.FAT_ARROW ∷
    kind.BANG ∷ kind.NEQ ∷ kind.MINUS ∷ kind.BACKTICK ∷
    []

-- the contextual keywords: keywords in the bodies of PL/pgSQL alone
unfoldable pub contextual_keywords : List SyntaxKind
contextual_keywords =
    kind.ALIAS_KW ∷ kind.ASSERT_KW ∷ kind.COLUMN_NAME_KW ∷ kind.CONSTANT_KW ∷ kind.CONSTRAINT_NAME_KW ∷
    kind.DATATYPE_KW ∷ kind.DEBUG_KW ∷ kind.DETAIL_KW ∷ kind.DIAGNOSTICS_KW ∷ kind.DUMP_KW ∷ kind.ELSEIF_KW ∷
    kind.ELSIF_KW ∷ kind.ERRCODE_KW ∷ kind.EXCEPTION_KW ∷ kind.EXIT_KW ∷ kind.FOREACH_KW ∷ kind.GET_KW ∷
    kind.HINT_KW ∷ kind.INFO_KW ∷ kind.LOG_KW ∷ kind.LOOP_KW ∷ kind.MESSAGE_KW ∷ kind.MESSAGE_TEXT_KW ∷
    kind.NOTICE_KW ∷ kind.OPEN_KW ∷ kind.PERFORM_KW ∷ kind.PG_CONTEXT_KW ∷ kind.PG_DATATYPE_NAME_KW ∷
    kind.PG_EXCEPTION_CONTEXT_KW ∷ kind.PG_EXCEPTION_DETAIL_KW ∷ kind.PG_EXCEPTION_HINT_KW ∷ kind.PG_ROUTINE_OID_KW ∷
    kind.PRINT_STRICT_PARAMS_KW ∷ kind.QUERY_KW ∷ kind.RAISE_KW ∷ kind.RETURNED_SQLSTATE_KW ∷ kind.REVERSE_KW ∷
    kind.ROW_COUNT_KW ∷ kind.ROWTYPE_KW ∷ kind.SCHEMA_NAME_KW ∷ kind.SLICE_KW ∷ kind.SQLSTATE_KW ∷ kind.STACKED_KW ∷
    kind.TABLE_NAME_KW ∷ kind.USE_COLUMN_KW ∷ kind.USE_VARIABLE_KW ∷ kind.VARIABLE_CONFLICT_KW ∷ kind.WARNING_KW ∷
    kind.WHILE_KW ∷
    []

-- keywords that may name a column or a table, but no function or type: in PostgreSQL's appendix C
-- "non-reserved (cannot be function or type)"
unfoldable pub col_name_keyword_first : List SyntaxKind
col_name_keyword_first =
    kind.BETWEEN_KW ∷ kind.BIGINT_KW ∷ kind.BIT_KW ∷ kind.BOOLEAN_KW ∷ kind.CHAR_KW ∷ kind.CHARACTER_KW ∷
    kind.COALESCE_KW ∷ kind.DEC_KW ∷ kind.DECIMAL_KW ∷ kind.EXISTS_KW ∷ kind.EXTRACT_KW ∷ kind.FLOAT_KW ∷
    kind.GRAPH_TABLE_KW ∷ kind.GREATEST_KW ∷ kind.GROUPING_KW ∷ kind.INOUT_KW ∷ kind.INT_KW ∷ kind.INTEGER_KW ∷
    kind.INTERVAL_KW ∷ kind.JSON_KW ∷ kind.JSON_ARRAY_KW ∷ kind.JSON_ARRAYAGG_KW ∷ kind.JSON_EXISTS_KW ∷
    kind.JSON_OBJECT_KW ∷ kind.JSON_OBJECTAGG_KW ∷ kind.JSON_QUERY_KW ∷ kind.JSON_SCALAR_KW ∷ kind.JSON_SERIALIZE_KW ∷
    kind.JSON_TABLE_KW ∷ kind.JSON_VALUE_KW ∷ kind.LEAST_KW ∷ kind.MERGE_ACTION_KW ∷ kind.NATIONAL_KW ∷
    kind.NCHAR_KW ∷ kind.NONE_KW ∷ kind.NORMALIZE_KW ∷ kind.NULLIF_KW ∷ kind.NUMERIC_KW ∷ kind.OUT_KW ∷
    kind.OVERLAY_KW ∷ kind.POSITION_KW ∷ kind.PRECISION_KW ∷ kind.REAL_KW ∷ kind.ROW_KW ∷ kind.SETOF_KW ∷
    kind.SMALLINT_KW ∷ kind.SUBSTRING_KW ∷ kind.TIME_KW ∷ kind.TIMESTAMP_KW ∷ kind.TREAT_KW ∷ kind.TRIM_KW ∷
    kind.VALUES_KW ∷ kind.VARCHAR_KW ∷ kind.XMLATTRIBUTES_KW ∷ kind.XMLCONCAT_KW ∷ kind.XMLELEMENT_KW ∷
    kind.XMLEXISTS_KW ∷ kind.XMLFOREST_KW ∷ kind.XMLNAMESPACES_KW ∷ kind.XMLPARSE_KW ∷ kind.XMLPI_KW ∷
    kind.XMLROOT_KW ∷ kind.XMLSERIALIZE_KW ∷ kind.XMLTABLE_KW ∷
    []

-- keywords that may name a function or a type, but no column or table: in PostgreSQL's appendix C
-- "reserved (can be function or type)"
unfoldable pub type_func_name_keywords : List SyntaxKind
type_func_name_keywords =
    kind.AUTHORIZATION_KW ∷ kind.BINARY_KW ∷ kind.COLLATION_KW ∷ kind.CONCURRENTLY_KW ∷ kind.CROSS_KW ∷
    kind.CURRENT_SCHEMA_KW ∷ kind.FREEZE_KW ∷ kind.FULL_KW ∷ kind.ILIKE_KW ∷ kind.INNER_KW ∷ kind.IS_KW ∷
    kind.ISNULL_KW ∷ kind.JOIN_KW ∷ kind.LEFT_KW ∷ kind.LIKE_KW ∷ kind.NATURAL_KW ∷ kind.NOTNULL_KW ∷ kind.OUTER_KW ∷
    kind.OVERLAPS_KW ∷ kind.RIGHT_KW ∷ kind.SIMILAR_KW ∷ kind.TABLESAMPLE_KW ∷ kind.VERBOSE_KW ∷
    []

-- keywords that name no table, column, function or type unless they are quoted: in PostgreSQL's
-- appendix C "reserved"
unfoldable pub reserved_keywords : List SyntaxKind
reserved_keywords =
    kind.ALL_KW ∷ kind.ANALYSE_KW ∷ kind.ANALYZE_KW ∷ kind.AND_KW ∷ kind.ANY_KW ∷ kind.ARRAY_KW ∷ kind.AS_KW ∷
    kind.ASC_KW ∷ kind.ASYMMETRIC_KW ∷ kind.BOTH_KW ∷ kind.CASE_KW ∷ kind.CAST_KW ∷ kind.CHECK_KW ∷ kind.COLLATE_KW ∷
    kind.COLUMN_KW ∷ kind.CONSTRAINT_KW ∷ kind.CREATE_KW ∷ kind.CURRENT_CATALOG_KW ∷ kind.CURRENT_DATE_KW ∷
    kind.CURRENT_ROLE_KW ∷ kind.CURRENT_TIME_KW ∷ kind.CURRENT_TIMESTAMP_KW ∷ kind.CURRENT_USER_KW ∷ kind.DEFAULT_KW ∷
    kind.DEFERRABLE_KW ∷ kind.DESC_KW ∷ kind.DISTINCT_KW ∷ kind.DO_KW ∷ kind.ELSE_KW ∷ kind.END_KW ∷ kind.EXCEPT_KW ∷
    kind.FALSE_KW ∷ kind.FETCH_KW ∷ kind.FOR_KW ∷ kind.FOREIGN_KW ∷ kind.FROM_KW ∷ kind.GRANT_KW ∷ kind.GROUP_KW ∷
    kind.HAVING_KW ∷ kind.IN_KW ∷ kind.INITIALLY_KW ∷ kind.INTERSECT_KW ∷ kind.INTO_KW ∷ kind.LATERAL_KW ∷
    kind.LEADING_KW ∷ kind.LIMIT_KW ∷ kind.LOCALTIME_KW ∷ kind.LOCALTIMESTAMP_KW ∷ kind.NOT_KW ∷ kind.NULL_KW ∷
    kind.OFFSET_KW ∷ kind.ON_KW ∷ kind.ONLY_KW ∷ kind.OR_KW ∷ kind.ORDER_KW ∷ kind.PLACING_KW ∷ kind.PRIMARY_KW ∷
    kind.REFERENCES_KW ∷ kind.RETURNING_KW ∷ kind.SELECT_KW ∷ kind.SESSION_USER_KW ∷ kind.SOME_KW ∷
    kind.SYMMETRIC_KW ∷ kind.SYSTEM_USER_KW ∷ kind.TABLE_KW ∷ kind.THEN_KW ∷ kind.TO_KW ∷ kind.TRAILING_KW ∷
    kind.TRUE_KW ∷ kind.UNION_KW ∷ kind.UNIQUE_KW ∷ kind.USER_KW ∷ kind.USING_KW ∷ kind.VARIADIC_KW ∷ kind.WHEN_KW ∷
    kind.WHERE_KW ∷ kind.WINDOW_KW ∷ kind.WITH_KW ∷
    []

-- keywords that name no variable in the bodies of PL/pgSQL unless they are quoted
unfoldable pub plpgsql_reserved_keywords : List SyntaxKind
plpgsql_reserved_keywords =
    kind.ALL_KW ∷ kind.BEGIN_KW ∷ kind.BY_KW ∷ kind.CASE_KW ∷ kind.DECLARE_KW ∷ kind.ELSE_KW ∷ kind.END_KW ∷
    kind.FOR_KW ∷ kind.FROM_KW ∷ kind.IF_KW ∷ kind.IN_KW ∷ kind.INTO_KW ∷ kind.NOT_KW ∷ kind.NULL_KW ∷ kind.OR_KW ∷
    kind.THEN_KW ∷ kind.TO_KW ∷ kind.USING_KW ∷ kind.WHEN_KW ∷
    []

-- contextual keywords of which the same holds
unfoldable pub plpgsql_reserved_contextual_keywords : List SyntaxKind
plpgsql_reserved_contextual_keywords =
    kind.FOREACH_KW ∷ kind.LOOP_KW ∷ kind.WHILE_KW ∷
    []
