-- The keywords and the contextual keywords: each word with its kind, by length and then by bytes.
use Rattle.std.specs.Prelude.{ℕ, List, [], ◌∷◌, codes, length}
use Rattle.std.specs.Cmp.Lexicographic.{slice_cmp}
use Rattle.std.specs.declared.cmp.Ordering.{Ordering}
use Rattle.std.specs.Ordering.{nat_cmp, ordering_then}
use Rattle.squawk_kinds.specs.declared.SyntaxKind.{SyntaxKind}
use Rattle.squawk_kinds.specs.declared.numbers.TheConstants.Number as kind

-- the order of the tables: by length, and then by bytes
abbrev pub word_cmp : List ℕ → List ℕ → Ordering
word_cmp a b = ordering_then (nat_cmp (length a) (length b)) (slice_cmp nat_cmp a b)

-- the keywords of PostgreSQL, of all categories of appendix C
unfoldable pub keywords : List (List ℕ × SyntaxKind)
keywords =
    -- of 2 bytes
    (codes "as", kind.AS_KW) ∷ (codes "at", kind.AT_KW) ∷ (codes "by", kind.BY_KW) ∷ (codes "do", kind.DO_KW) ∷
    (codes "if", kind.IF_KW) ∷ (codes "in", kind.IN_KW) ∷ (codes "is", kind.IS_KW) ∷ (codes "no", kind.NO_KW) ∷
    (codes "of", kind.OF_KW) ∷ (codes "on", kind.ON_KW) ∷ (codes "or", kind.OR_KW) ∷ (codes "to", kind.TO_KW) ∷
    -- of 3 bytes
    (codes "add", kind.ADD_KW) ∷ (codes "all", kind.ALL_KW) ∷ (codes "and", kind.AND_KW) ∷
    (codes "any", kind.ANY_KW) ∷ (codes "asc", kind.ASC_KW) ∷ (codes "bit", kind.BIT_KW) ∷
    (codes "csv", kind.CSV_KW) ∷ (codes "day", kind.DAY_KW) ∷ (codes "dec", kind.DEC_KW) ∷
    (codes "end", kind.END_KW) ∷ (codes "for", kind.FOR_KW) ∷ (codes "int", kind.INT_KW) ∷
    (codes "key", kind.KEY_KW) ∷ (codes "lsn", kind.LSN_KW) ∷ (codes "new", kind.NEW_KW) ∷
    (codes "nfc", kind.NFC_KW) ∷ (codes "nfd", kind.NFD_KW) ∷ (codes "not", kind.NOT_KW) ∷
    (codes "off", kind.OFF_KW) ∷ (codes "old", kind.OLD_KW) ∷ (codes "out", kind.OUT_KW) ∷
    (codes "ref", kind.REF_KW) ∷ (codes "row", kind.ROW_KW) ∷ (codes "set", kind.SET_KW) ∷
    (codes "sql", kind.SQL_KW) ∷ (codes "xml", kind.XML_KW) ∷ (codes "yes", kind.YES_KW) ∷
    -- of 4 bytes
    (codes "also", kind.ALSO_KW) ∷ (codes "both", kind.BOTH_KW) ∷ (codes "call", kind.CALL_KW) ∷
    (codes "case", kind.CASE_KW) ∷ (codes "cast", kind.CAST_KW) ∷ (codes "char", kind.CHAR_KW) ∷
    (codes "copy", kind.COPY_KW) ∷ (codes "cost", kind.COST_KW) ∷ (codes "cube", kind.CUBE_KW) ∷
    (codes "data", kind.DATA_KW) ∷ (codes "desc", kind.DESC_KW) ∷ (codes "drop", kind.DROP_KW) ∷
    (codes "each", kind.EACH_KW) ∷ (codes "edge", kind.EDGE_KW) ∷ (codes "else", kind.ELSE_KW) ∷
    (codes "enum", kind.ENUM_KW) ∷ (codes "from", kind.FROM_KW) ∷ (codes "full", kind.FULL_KW) ∷
    (codes "hold", kind.HOLD_KW) ∷ (codes "hour", kind.HOUR_KW) ∷ (codes "into", kind.INTO_KW) ∷
    (codes "join", kind.JOIN_KW) ∷ (codes "json", kind.JSON_KW) ∷ (codes "keep", kind.KEEP_KW) ∷
    (codes "keys", kind.KEYS_KW) ∷ (codes "last", kind.LAST_KW) ∷ (codes "left", kind.LEFT_KW) ∷
    (codes "like", kind.LIKE_KW) ∷ (codes "load", kind.LOAD_KW) ∷ (codes "lock", kind.LOCK_KW) ∷
    (codes "mode", kind.MODE_KW) ∷ (codes "move", kind.MOVE_KW) ∷ (codes "name", kind.NAME_KW) ∷
    (codes "next", kind.NEXT_KW) ∷ (codes "nfkc", kind.NFKC_KW) ∷ (codes "nfkd", kind.NFKD_KW) ∷
    (codes "node", kind.NODE_KW) ∷ (codes "none", kind.NONE_KW) ∷ (codes "null", kind.NULL_KW) ∷
    (codes "oids", kind.OIDS_KW) ∷ (codes "omit", kind.OMIT_KW) ∷ (codes "only", kind.ONLY_KW) ∷
    (codes "over", kind.OVER_KW) ∷ (codes "path", kind.PATH_KW) ∷ (codes "plan", kind.PLAN_KW) ∷
    (codes "read", kind.READ_KW) ∷ (codes "real", kind.REAL_KW) ∷ (codes "role", kind.ROLE_KW) ∷
    (codes "rows", kind.ROWS_KW) ∷ (codes "rule", kind.RULE_KW) ∷ (codes "sets", kind.SETS_KW) ∷
    (codes "show", kind.SHOW_KW) ∷ (codes "skip", kind.SKIP_KW) ∷ (codes "some", kind.SOME_KW) ∷
    (codes "temp", kind.TEMP_KW) ∷ (codes "text", kind.TEXT_KW) ∷ (codes "then", kind.THEN_KW) ∷
    (codes "ties", kind.TIES_KW) ∷ (codes "time", kind.TIME_KW) ∷ (codes "trim", kind.TRIM_KW) ∷
    (codes "true", kind.TRUE_KW) ∷ (codes "type", kind.TYPE_KW) ∷ (codes "user", kind.USER_KW) ∷
    (codes "view", kind.VIEW_KW) ∷ (codes "wait", kind.WAIT_KW) ∷ (codes "when", kind.WHEN_KW) ∷
    (codes "with", kind.WITH_KW) ∷ (codes "work", kind.WORK_KW) ∷ (codes "year", kind.YEAR_KW) ∷
    (codes "zone", kind.ZONE_KW) ∷
    -- of 5 bytes
    (codes "abort", kind.ABORT_KW) ∷ (codes "admin", kind.ADMIN_KW) ∷ (codes "after", kind.AFTER_KW) ∷
    (codes "alter", kind.ALTER_KW) ∷ (codes "array", kind.ARRAY_KW) ∷ (codes "begin", kind.BEGIN_KW) ∷
    (codes "cache", kind.CACHE_KW) ∷ (codes "chain", kind.CHAIN_KW) ∷ (codes "check", kind.CHECK_KW) ∷
    (codes "class", kind.CLASS_KW) ∷ (codes "close", kind.CLOSE_KW) ∷ (codes "cross", kind.CROSS_KW) ∷
    (codes "cycle", kind.CYCLE_KW) ∷ (codes "depth", kind.DEPTH_KW) ∷ (codes "empty", kind.EMPTY_KW) ∷
    (codes "error", kind.ERROR_KW) ∷ (codes "event", kind.EVENT_KW) ∷ (codes "false", kind.FALSE_KW) ∷
    (codes "fetch", kind.FETCH_KW) ∷ (codes "first", kind.FIRST_KW) ∷ (codes "float", kind.FLOAT_KW) ∷
    (codes "force", kind.FORCE_KW) ∷ (codes "grant", kind.GRANT_KW) ∷ (codes "graph", kind.GRAPH_KW) ∷
    (codes "group", kind.GROUP_KW) ∷ (codes "ilike", kind.ILIKE_KW) ∷ (codes "index", kind.INDEX_KW) ∷
    (codes "inner", kind.INNER_KW) ∷ (codes "inout", kind.INOUT_KW) ∷ (codes "input", kind.INPUT_KW) ∷
    (codes "label", kind.LABEL_KW) ∷ (codes "large", kind.LARGE_KW) ∷ (codes "least", kind.LEAST_KW) ∷
    (codes "level", kind.LEVEL_KW) ∷ (codes "limit", kind.LIMIT_KW) ∷ (codes "local", kind.LOCAL_KW) ∷
    (codes "match", kind.MATCH_KW) ∷ (codes "merge", kind.MERGE_KW) ∷ (codes "month", kind.MONTH_KW) ∷
    (codes "names", kind.NAMES_KW) ∷ (codes "nchar", kind.NCHAR_KW) ∷ (codes "nulls", kind.NULLS_KW) ∷
    (codes "order", kind.ORDER_KW) ∷ (codes "outer", kind.OUTER_KW) ∷ (codes "owned", kind.OWNED_KW) ∷
    (codes "owner", kind.OWNER_KW) ∷ (codes "plans", kind.PLANS_KW) ∷ (codes "prior", kind.PRIOR_KW) ∷
    (codes "quote", kind.QUOTE_KW) ∷ (codes "range", kind.RANGE_KW) ∷ (codes "reset", kind.RESET_KW) ∷
    (codes "right", kind.RIGHT_KW) ∷ (codes "setof", kind.SETOF_KW) ∷ (codes "share", kind.SHARE_KW) ∷
    (codes "split", kind.SPLIT_KW) ∷ (codes "start", kind.START_KW) ∷ (codes "stdin", kind.STDIN_KW) ∷
    (codes "strip", kind.STRIP_KW) ∷ (codes "sysid", kind.SYSID_KW) ∷ (codes "table", kind.TABLE_KW) ∷
    (codes "treat", kind.TREAT_KW) ∷ (codes "types", kind.TYPES_KW) ∷ (codes "union", kind.UNION_KW) ∷
    (codes "until", kind.UNTIL_KW) ∷ (codes "using", kind.USING_KW) ∷ (codes "valid", kind.VALID_KW) ∷
    (codes "value", kind.VALUE_KW) ∷ (codes "views", kind.VIEWS_KW) ∷ (codes "where", kind.WHERE_KW) ∷
    (codes "write", kind.WRITE_KW) ∷ (codes "xmlpi", kind.XMLPI_KW) ∷
    -- of 6 bytes
    (codes "absent", kind.ABSENT_KW) ∷ (codes "access", kind.ACCESS_KW) ∷ (codes "action", kind.ACTION_KW) ∷
    (codes "always", kind.ALWAYS_KW) ∷ (codes "atomic", kind.ATOMIC_KW) ∷ (codes "attach", kind.ATTACH_KW) ∷
    (codes "before", kind.BEFORE_KW) ∷ (codes "bigint", kind.BIGINT_KW) ∷ (codes "binary", kind.BINARY_KW) ∷
    (codes "called", kind.CALLED_KW) ∷ (codes "column", kind.COLUMN_KW) ∷ (codes "commit", kind.COMMIT_KW) ∷
    (codes "create", kind.CREATE_KW) ∷ (codes "cursor", kind.CURSOR_KW) ∷ (codes "delete", kind.DELETE_KW) ∷
    (codes "detach", kind.DETACH_KW) ∷ (codes "domain", kind.DOMAIN_KW) ∷ (codes "double", kind.DOUBLE_KW) ∷
    (codes "enable", kind.ENABLE_KW) ∷ (codes "escape", kind.ESCAPE_KW) ∷ (codes "except", kind.EXCEPT_KW) ∷
    (codes "exists", kind.EXISTS_KW) ∷ (codes "family", kind.FAMILY_KW) ∷ (codes "filter", kind.FILTER_KW) ∷
    (codes "format", kind.FORMAT_KW) ∷ (codes "freeze", kind.FREEZE_KW) ∷ (codes "global", kind.GLOBAL_KW) ∷
    (codes "groups", kind.GROUPS_KW) ∷ (codes "having", kind.HAVING_KW) ∷ (codes "header", kind.HEADER_KW) ∷
    (codes "ignore", kind.IGNORE_KW) ∷ (codes "import", kind.IMPORT_KW) ∷ (codes "indent", kind.INDENT_KW) ∷
    (codes "inline", kind.INLINE_KW) ∷ (codes "insert", kind.INSERT_KW) ∷ (codes "isnull", kind.ISNULL_KW) ∷
    (codes "listen", kind.LISTEN_KW) ∷ (codes "locked", kind.LOCKED_KW) ∷ (codes "logged", kind.LOGGED_KW) ∷
    (codes "method", kind.METHOD_KW) ∷ (codes "minute", kind.MINUTE_KW) ∷ (codes "nested", kind.NESTED_KW) ∷
    (codes "notify", kind.NOTIFY_KW) ∷ (codes "nowait", kind.NOWAIT_KW) ∷ (codes "nullif", kind.NULLIF_KW) ∷
    (codes "object", kind.OBJECT_KW) ∷ (codes "offset", kind.OFFSET_KW) ∷ (codes "option", kind.OPTION_KW) ∷
    (codes "others", kind.OTHERS_KW) ∷ (codes "parser", kind.PARSER_KW) ∷ (codes "period", kind.PERIOD_KW) ∷
    (codes "policy", kind.POLICY_KW) ∷ (codes "quotes", kind.QUOTES_KW) ∷ (codes "rename", kind.RENAME_KW) ∷
    (codes "repack", kind.REPACK_KW) ∷ (codes "return", kind.RETURN_KW) ∷ (codes "revoke", kind.REVOKE_KW) ∷
    (codes "rollup", kind.ROLLUP_KW) ∷ (codes "scalar", kind.SCALAR_KW) ∷ (codes "schema", kind.SCHEMA_KW) ∷
    (codes "scroll", kind.SCROLL_KW) ∷ (codes "search", kind.SEARCH_KW) ∷ (codes "second", kind.SECOND_KW) ∷
    (codes "select", kind.SELECT_KW) ∷ (codes "server", kind.SERVER_KW) ∷ (codes "simple", kind.SIMPLE_KW) ∷
    (codes "source", kind.SOURCE_KW) ∷ (codes "stable", kind.STABLE_KW) ∷ (codes "stdout", kind.STDOUT_KW) ∷
    (codes "stored", kind.STORED_KW) ∷ (codes "strict", kind.STRICT_KW) ∷ (codes "string", kind.STRING_KW) ∷
    (codes "system", kind.SYSTEM_KW) ∷ (codes "tables", kind.TABLES_KW) ∷ (codes "target", kind.TARGET_KW) ∷
    (codes "unique", kind.UNIQUE_KW) ∷ (codes "update", kind.UPDATE_KW) ∷ (codes "vacuum", kind.VACUUM_KW) ∷
    (codes "values", kind.VALUES_KW) ∷ (codes "vertex", kind.VERTEX_KW) ∷ (codes "window", kind.WINDOW_KW) ∷
    (codes "within", kind.WITHIN_KW) ∷
    -- of 7 bytes
    (codes "analyse", kind.ANALYSE_KW) ∷ (codes "analyze", kind.ANALYZE_KW) ∷ (codes "between", kind.BETWEEN_KW) ∷
    (codes "boolean", kind.BOOLEAN_KW) ∷ (codes "breadth", kind.BREADTH_KW) ∷ (codes "cascade", kind.CASCADE_KW) ∷
    (codes "catalog", kind.CATALOG_KW) ∷ (codes "cluster", kind.CLUSTER_KW) ∷ (codes "collate", kind.COLLATE_KW) ∷
    (codes "columns", kind.COLUMNS_KW) ∷ (codes "comment", kind.COMMENT_KW) ∷ (codes "content", kind.CONTENT_KW) ∷
    (codes "current", kind.CURRENT_KW) ∷ (codes "decimal", kind.DECIMAL_KW) ∷ (codes "declare", kind.DECLARE_KW) ∷
    (codes "default", kind.DEFAULT_KW) ∷ (codes "definer", kind.DEFINER_KW) ∷ (codes "depends", kind.DEPENDS_KW) ∷
    (codes "disable", kind.DISABLE_KW) ∷ (codes "discard", kind.DISCARD_KW) ∷ (codes "exclude", kind.EXCLUDE_KW) ∷
    (codes "execute", kind.EXECUTE_KW) ∷ (codes "explain", kind.EXPLAIN_KW) ∷ (codes "extract", kind.EXTRACT_KW) ∷
    (codes "foreign", kind.FOREIGN_KW) ∷ (codes "forward", kind.FORWARD_KW) ∷ (codes "granted", kind.GRANTED_KW) ∷
    (codes "handler", kind.HANDLER_KW) ∷ (codes "include", kind.INCLUDE_KW) ∷ (codes "indexes", kind.INDEXES_KW) ∷
    (codes "inherit", kind.INHERIT_KW) ∷ (codes "instead", kind.INSTEAD_KW) ∷ (codes "integer", kind.INTEGER_KW) ∷
    (codes "invoker", kind.INVOKER_KW) ∷ (codes "lateral", kind.LATERAL_KW) ∷ (codes "leading", kind.LEADING_KW) ∷
    (codes "mapping", kind.MAPPING_KW) ∷ (codes "matched", kind.MATCHED_KW) ∷ (codes "natural", kind.NATURAL_KW) ∷
    (codes "nothing", kind.NOTHING_KW) ∷ (codes "notnull", kind.NOTNULL_KW) ∷ (codes "numeric", kind.NUMERIC_KW) ∷
    (codes "objects", kind.OBJECTS_KW) ∷ (codes "options", kind.OPTIONS_KW) ∷ (codes "overlay", kind.OVERLAY_KW) ∷
    (codes "partial", kind.PARTIAL_KW) ∷ (codes "passing", kind.PASSING_KW) ∷ (codes "placing", kind.PLACING_KW) ∷
    (codes "portion", kind.PORTION_KW) ∷ (codes "prepare", kind.PREPARE_KW) ∷ (codes "primary", kind.PRIMARY_KW) ∷
    (codes "program", kind.PROGRAM_KW) ∷ (codes "refresh", kind.REFRESH_KW) ∷ (codes "reindex", kind.REINDEX_KW) ∷
    (codes "release", kind.RELEASE_KW) ∷ (codes "replace", kind.REPLACE_KW) ∷ (codes "replica", kind.REPLICA_KW) ∷
    (codes "respect", kind.RESPECT_KW) ∷ (codes "restart", kind.RESTART_KW) ∷ (codes "returns", kind.RETURNS_KW) ∷
    (codes "routine", kind.ROUTINE_KW) ∷ (codes "schemas", kind.SCHEMAS_KW) ∷ (codes "session", kind.SESSION_KW) ∷
    (codes "similar", kind.SIMILAR_KW) ∷ (codes "storage", kind.STORAGE_KW) ∷ (codes "support", kind.SUPPORT_KW) ∷
    (codes "trigger", kind.TRIGGER_KW) ∷ (codes "trusted", kind.TRUSTED_KW) ∷ (codes "uescape", kind.UESCAPE_KW) ∷
    (codes "unknown", kind.UNKNOWN_KW) ∷ (codes "varchar", kind.VARCHAR_KW) ∷ (codes "varying", kind.VARYING_KW) ∷
    (codes "verbose", kind.VERBOSE_KW) ∷ (codes "version", kind.VERSION_KW) ∷ (codes "virtual", kind.VIRTUAL_KW) ∷
    (codes "without", kind.WITHOUT_KW) ∷ (codes "wrapper", kind.WRAPPER_KW) ∷ (codes "xmlroot", kind.XMLROOT_KW) ∷
    -- of 8 bytes
    (codes "absolute", kind.ABSOLUTE_KW) ∷ (codes "backward", kind.BACKWARD_KW) ∷
    (codes "cascaded", kind.CASCADED_KW) ∷ (codes "coalesce", kind.COALESCE_KW) ∷
    (codes "comments", kind.COMMENTS_KW) ∷ (codes "conflict", kind.CONFLICT_KW) ∷
    (codes "continue", kind.CONTINUE_KW) ∷ (codes "database", kind.DATABASE_KW) ∷
    (codes "defaults", kind.DEFAULTS_KW) ∷ (codes "deferred", kind.DEFERRED_KW) ∷
    (codes "distinct", kind.DISTINCT_KW) ∷ (codes "document", kind.DOCUMENT_KW) ∷
    (codes "encoding", kind.ENCODING_KW) ∷ (codes "enforced", kind.ENFORCED_KW) ∷
    (codes "external", kind.EXTERNAL_KW) ∷ (codes "finalize", kind.FINALIZE_KW) ∷
    (codes "function", kind.FUNCTION_KW) ∷ (codes "greatest", kind.GREATEST_KW) ∷
    (codes "grouping", kind.GROUPING_KW) ∷ (codes "identity", kind.IDENTITY_KW) ∷
    (codes "implicit", kind.IMPLICIT_KW) ∷ (codes "inherits", kind.INHERITS_KW) ∷
    (codes "interval", kind.INTERVAL_KW) ∷ (codes "language", kind.LANGUAGE_KW) ∷
    (codes "location", kind.LOCATION_KW) ∷ (codes "maxvalue", kind.MAXVALUE_KW) ∷
    (codes "minvalue", kind.MINVALUE_KW) ∷ (codes "national", kind.NATIONAL_KW) ∷
    (codes "operator", kind.OPERATOR_KW) ∷ (codes "overlaps", kind.OVERLAPS_KW) ∷
    (codes "parallel", kind.PARALLEL_KW) ∷ (codes "password", kind.PASSWORD_KW) ∷
    (codes "position", kind.POSITION_KW) ∷ (codes "prepared", kind.PREPARED_KW) ∷
    (codes "preserve", kind.PRESERVE_KW) ∷ (codes "property", kind.PROPERTY_KW) ∷
    (codes "reassign", kind.REASSIGN_KW) ∷ (codes "relative", kind.RELATIVE_KW) ∷
    (codes "restrict", kind.RESTRICT_KW) ∷ (codes "rollback", kind.ROLLBACK_KW) ∷
    (codes "routines", kind.ROUTINES_KW) ∷ (codes "security", kind.SECURITY_KW) ∷
    (codes "sequence", kind.SEQUENCE_KW) ∷ (codes "smallint", kind.SMALLINT_KW) ∷
    (codes "snapshot", kind.SNAPSHOT_KW) ∷ (codes "template", kind.TEMPLATE_KW) ∷
    (codes "trailing", kind.TRAILING_KW) ∷ (codes "truncate", kind.TRUNCATE_KW) ∷
    (codes "unlisten", kind.UNLISTEN_KW) ∷ (codes "unlogged", kind.UNLOGGED_KW) ∷
    (codes "validate", kind.VALIDATE_KW) ∷ (codes "variadic", kind.VARIADIC_KW) ∷
    (codes "volatile", kind.VOLATILE_KW) ∷ (codes "xmlparse", kind.XMLPARSE_KW) ∷
    (codes "xmltable", kind.XMLTABLE_KW) ∷
    -- of 9 bytes
    (codes "aggregate", kind.AGGREGATE_KW) ∷ (codes "assertion", kind.ASSERTION_KW) ∷
    (codes "attribute", kind.ATTRIBUTE_KW) ∷ (codes "character", kind.CHARACTER_KW) ∷
    (codes "collation", kind.COLLATION_KW) ∷ (codes "committed", kind.COMMITTED_KW) ∷
    (codes "delimiter", kind.DELIMITER_KW) ∷ (codes "encrypted", kind.ENCRYPTED_KW) ∷
    (codes "excluding", kind.EXCLUDING_KW) ∷ (codes "exclusive", kind.EXCLUSIVE_KW) ∷
    (codes "extension", kind.EXTENSION_KW) ∷ (codes "following", kind.FOLLOWING_KW) ∷
    (codes "functions", kind.FUNCTIONS_KW) ∷ (codes "generated", kind.GENERATED_KW) ∷
    (codes "immediate", kind.IMMEDIATE_KW) ∷ (codes "immutable", kind.IMMUTABLE_KW) ∷
    (codes "including", kind.INCLUDING_KW) ∷ (codes "increment", kind.INCREMENT_KW) ∷
    (codes "initially", kind.INITIALLY_KW) ∷ (codes "intersect", kind.INTERSECT_KW) ∷
    (codes "isolation", kind.ISOLATION_KW) ∷ (codes "leakproof", kind.LEAKPROOF_KW) ∷
    (codes "localtime", kind.LOCALTIME_KW) ∷ (codes "normalize", kind.NORMALIZE_KW) ∷
    (codes "parameter", kind.PARAMETER_KW) ∷ (codes "partition", kind.PARTITION_KW) ∷
    (codes "preceding", kind.PRECEDING_KW) ∷ (codes "precision", kind.PRECISION_KW) ∷
    (codes "procedure", kind.PROCEDURE_KW) ∷ (codes "recursive", kind.RECURSIVE_KW) ∷
    (codes "returning", kind.RETURNING_KW) ∷ (codes "savepoint", kind.SAVEPOINT_KW) ∷
    (codes "sequences", kind.SEQUENCES_KW) ∷ (codes "statement", kind.STATEMENT_KW) ∷
    (codes "substring", kind.SUBSTRING_KW) ∷ (codes "symmetric", kind.SYMMETRIC_KW) ∷
    (codes "temporary", kind.TEMPORARY_KW) ∷ (codes "timestamp", kind.TIMESTAMP_KW) ∷
    (codes "transform", kind.TRANSFORM_KW) ∷ (codes "unbounded", kind.UNBOUNDED_KW) ∷
    (codes "validator", kind.VALIDATOR_KW) ∷ (codes "xmlconcat", kind.XMLCONCAT_KW) ∷
    (codes "xmlexists", kind.XMLEXISTS_KW) ∷ (codes "xmlforest", kind.XMLFOREST_KW) ∷
    -- of 10 bytes
    (codes "asensitive", kind.ASENSITIVE_KW) ∷ (codes "assignment", kind.ASSIGNMENT_KW) ∷
    (codes "asymmetric", kind.ASYMMETRIC_KW) ∷ (codes "checkpoint", kind.CHECKPOINT_KW) ∷
    (codes "connection", kind.CONNECTION_KW) ∷ (codes "constraint", kind.CONSTRAINT_KW) ∷
    (codes "conversion", kind.CONVERSION_KW) ∷ (codes "deallocate", kind.DEALLOCATE_KW) ∷
    (codes "deferrable", kind.DEFERRABLE_KW) ∷ (codes "delimiters", kind.DELIMITERS_KW) ∷
    (codes "dictionary", kind.DICTIONARY_KW) ∷ (codes "expression", kind.EXPRESSION_KW) ∷
    (codes "json_array", kind.JSON_ARRAY_KW) ∷ (codes "json_query", kind.JSON_QUERY_KW) ∷
    (codes "json_table", kind.JSON_TABLE_KW) ∷ (codes "json_value", kind.JSON_VALUE_KW) ∷
    (codes "normalized", kind.NORMALIZED_KW) ∷ (codes "ordinality", kind.ORDINALITY_KW) ∷
    (codes "overriding", kind.OVERRIDING_KW) ∷ (codes "partitions", kind.PARTITIONS_KW) ∷
    (codes "privileges", kind.PRIVILEGES_KW) ∷ (codes "procedural", kind.PROCEDURAL_KW) ∷
    (codes "procedures", kind.PROCEDURES_KW) ∷ (codes "properties", kind.PROPERTIES_KW) ∷
    (codes "references", kind.REFERENCES_KW) ∷ (codes "repeatable", kind.REPEATABLE_KW) ∷
    (codes "standalone", kind.STANDALONE_KW) ∷ (codes "statistics", kind.STATISTICS_KW) ∷
    (codes "tablespace", kind.TABLESPACE_KW) ∷ (codes "whitespace", kind.WHITESPACE_KW) ∷
    (codes "xmlelement", kind.XMLELEMENT_KW) ∷
    -- of 11 bytes
    (codes "compression", kind.COMPRESSION_KW) ∷ (codes "conditional", kind.CONDITIONAL_KW) ∷
    (codes "constraints", kind.CONSTRAINTS_KW) ∷ (codes "destination", kind.DESTINATION_KW) ∷
    (codes "graph_table", kind.GRAPH_TABLE_KW) ∷ (codes "insensitive", kind.INSENSITIVE_KW) ∷
    (codes "json_exists", kind.JSON_EXISTS_KW) ∷ (codes "json_object", kind.JSON_OBJECT_KW) ∷
    (codes "json_scalar", kind.JSON_SCALAR_KW) ∷ (codes "publication", kind.PUBLICATION_KW) ∷
    (codes "referencing", kind.REFERENCING_KW) ∷ (codes "system_user", kind.SYSTEM_USER_KW) ∷
    (codes "tablesample", kind.TABLESAMPLE_KW) ∷ (codes "transaction", kind.TRANSACTION_KW) ∷
    (codes "uncommitted", kind.UNCOMMITTED_KW) ∷ (codes "unencrypted", kind.UNENCRYPTED_KW) ∷
    -- of 12 bytes
    (codes "concurrently", kind.CONCURRENTLY_KW) ∷ (codes "current_date", kind.CURRENT_DATE_KW) ∷
    (codes "current_role", kind.CURRENT_ROLE_KW) ∷ (codes "current_time", kind.CURRENT_TIME_KW) ∷
    (codes "current_user", kind.CURRENT_USER_KW) ∷ (codes "materialized", kind.MATERIALIZED_KW) ∷
    (codes "merge_action", kind.MERGE_ACTION_KW) ∷ (codes "relationship", kind.RELATIONSHIP_KW) ∷
    (codes "serializable", kind.SERIALIZABLE_KW) ∷ (codes "session_user", kind.SESSION_USER_KW) ∷
    (codes "subscription", kind.SUBSCRIPTION_KW) ∷ (codes "xmlserialize", kind.XMLSERIALIZE_KW) ∷
    -- of 13 bytes
    (codes "authorization", kind.AUTHORIZATION_KW) ∷ (codes "configuration", kind.CONFIGURATION_KW) ∷
    (codes "json_arrayagg", kind.JSON_ARRAYAGG_KW) ∷ (codes "unconditional", kind.UNCONDITIONAL_KW) ∷
    (codes "xmlattributes", kind.XMLATTRIBUTES_KW) ∷ (codes "xmlnamespaces", kind.XMLNAMESPACES_KW) ∷
    -- of 14 bytes
    (codes "current_schema", kind.CURRENT_SCHEMA_KW) ∷ (codes "json_objectagg", kind.JSON_OBJECTAGG_KW) ∷
    (codes "json_serialize", kind.JSON_SERIALIZE_KW) ∷ (codes "localtimestamp", kind.LOCALTIMESTAMP_KW) ∷
    -- of 15 bytes
    (codes "characteristics", kind.CHARACTERISTICS_KW) ∷ (codes "current_catalog", kind.CURRENT_CATALOG_KW) ∷
    -- of 17 bytes
    (codes "current_timestamp", kind.CURRENT_TIMESTAMP_KW) ∷
    []

-- the words that are keywords in the bodies of PL/pgSQL alone
unfoldable pub contextual_keywords : List (List ℕ × SyntaxKind)
contextual_keywords =
    -- of 3 bytes
    (codes "get", kind.GET_KW) ∷ (codes "log", kind.LOG_KW) ∷
    -- of 4 bytes
    (codes "dump", kind.DUMP_KW) ∷ (codes "exit", kind.EXIT_KW) ∷ (codes "hint", kind.HINT_KW) ∷
    (codes "info", kind.INFO_KW) ∷ (codes "loop", kind.LOOP_KW) ∷ (codes "open", kind.OPEN_KW) ∷
    -- of 5 bytes
    (codes "alias", kind.ALIAS_KW) ∷ (codes "debug", kind.DEBUG_KW) ∷ (codes "elsif", kind.ELSIF_KW) ∷
    (codes "query", kind.QUERY_KW) ∷ (codes "raise", kind.RAISE_KW) ∷ (codes "slice", kind.SLICE_KW) ∷
    (codes "while", kind.WHILE_KW) ∷
    -- of 6 bytes
    (codes "assert", kind.ASSERT_KW) ∷ (codes "detail", kind.DETAIL_KW) ∷ (codes "elseif", kind.ELSEIF_KW) ∷
    (codes "notice", kind.NOTICE_KW) ∷
    -- of 7 bytes
    (codes "errcode", kind.ERRCODE_KW) ∷ (codes "foreach", kind.FOREACH_KW) ∷ (codes "message", kind.MESSAGE_KW) ∷
    (codes "perform", kind.PERFORM_KW) ∷ (codes "reverse", kind.REVERSE_KW) ∷ (codes "rowtype", kind.ROWTYPE_KW) ∷
    (codes "stacked", kind.STACKED_KW) ∷ (codes "warning", kind.WARNING_KW) ∷
    -- of 8 bytes
    (codes "constant", kind.CONSTANT_KW) ∷ (codes "datatype", kind.DATATYPE_KW) ∷
    (codes "sqlstate", kind.SQLSTATE_KW) ∷
    -- of 9 bytes
    (codes "exception", kind.EXCEPTION_KW) ∷ (codes "row_count", kind.ROW_COUNT_KW) ∷
    -- of 10 bytes
    (codes "pg_context", kind.PG_CONTEXT_KW) ∷ (codes "table_name", kind.TABLE_NAME_KW) ∷
    (codes "use_column", kind.USE_COLUMN_KW) ∷
    -- of 11 bytes
    (codes "column_name", kind.COLUMN_NAME_KW) ∷ (codes "diagnostics", kind.DIAGNOSTICS_KW) ∷
    (codes "schema_name", kind.SCHEMA_NAME_KW) ∷
    -- of 12 bytes
    (codes "message_text", kind.MESSAGE_TEXT_KW) ∷ (codes "use_variable", kind.USE_VARIABLE_KW) ∷
    -- of 14 bytes
    (codes "pg_routine_oid", kind.PG_ROUTINE_OID_KW) ∷
    -- of 15 bytes
    (codes "constraint_name", kind.CONSTRAINT_NAME_KW) ∷
    -- of 16 bytes
    (codes "pg_datatype_name", kind.PG_DATATYPE_NAME_KW) ∷
    -- of 17 bytes
    (codes "pg_exception_hint", kind.PG_EXCEPTION_HINT_KW) ∷ (codes "returned_sqlstate", kind.RETURNED_SQLSTATE_KW) ∷
    (codes "variable_conflict", kind.VARIABLE_CONFLICT_KW) ∷
    -- of 19 bytes
    (codes "pg_exception_detail", kind.PG_EXCEPTION_DETAIL_KW) ∷
    (codes "print_strict_params", kind.PRINT_STRICT_PARAMS_KW) ∷
    -- of 20 bytes
    (codes "pg_exception_context", kind.PG_EXCEPTION_CONTEXT_KW) ∷
    []
