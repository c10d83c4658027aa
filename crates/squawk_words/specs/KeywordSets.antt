-- The members of the larger sets of kinds, all of keywords.
use Rattle.std.specs.Prelude.{List, [], ◌∷◌}
use Rattle.squawk_kinds.specs.declared.SyntaxKind.{SyntaxKind}
use Rattle.squawk_kinds.specs.declared.numbers.TheConstants.Number as kind

-- all keywords but the contextual ones
unfoldable pub all_keywords : List SyntaxKind
all_keywords =
    kind.ABORT_KW ∷ kind.ABSENT_KW ∷ kind.ABSOLUTE_KW ∷ kind.ACCESS_KW ∷ kind.ACTION_KW ∷ kind.ADD_KW ∷
    kind.ADMIN_KW ∷ kind.AFTER_KW ∷ kind.AGGREGATE_KW ∷ kind.ALL_KW ∷ kind.ALSO_KW ∷ kind.ALTER_KW ∷ kind.ALWAYS_KW ∷
    kind.ANALYSE_KW ∷ kind.ANALYZE_KW ∷ kind.AND_KW ∷ kind.ANY_KW ∷ kind.ARRAY_KW ∷ kind.AS_KW ∷ kind.ASC_KW ∷
    kind.ASENSITIVE_KW ∷ kind.ASSERTION_KW ∷ kind.ASSIGNMENT_KW ∷ kind.ASYMMETRIC_KW ∷ kind.AT_KW ∷ kind.ATOMIC_KW ∷
    kind.ATTACH_KW ∷ kind.ATTRIBUTE_KW ∷ kind.AUTHORIZATION_KW ∷ kind.BACKWARD_KW ∷ kind.BEFORE_KW ∷ kind.BEGIN_KW ∷
    kind.BETWEEN_KW ∷ kind.BIGINT_KW ∷ kind.BINARY_KW ∷ kind.BIT_KW ∷ kind.BOOLEAN_KW ∷ kind.BOTH_KW ∷
    kind.BREADTH_KW ∷ kind.BY_KW ∷ kind.CACHE_KW ∷ kind.CALL_KW ∷ kind.CALLED_KW ∷ kind.CASCADE_KW ∷
    kind.CASCADED_KW ∷ kind.CASE_KW ∷ kind.CAST_KW ∷ kind.CATALOG_KW ∷ kind.CHAIN_KW ∷ kind.CHAR_KW ∷
    kind.CHARACTER_KW ∷ kind.CHARACTERISTICS_KW ∷ kind.CHECK_KW ∷ kind.CHECKPOINT_KW ∷ kind.CLASS_KW ∷ kind.CLOSE_KW ∷
    kind.CLUSTER_KW ∷ kind.COALESCE_KW ∷ kind.COLLATE_KW ∷ kind.COLLATION_KW ∷ kind.COLUMN_KW ∷ kind.COLUMNS_KW ∷
    kind.COMMENT_KW ∷ kind.COMMENTS_KW ∷ kind.COMMIT_KW ∷ kind.COMMITTED_KW ∷ kind.COMPRESSION_KW ∷
    kind.CONCURRENTLY_KW ∷ kind.CONDITIONAL_KW ∷ kind.CONFIGURATION_KW ∷ kind.CONFLICT_KW ∷ kind.CONNECTION_KW ∷
    kind.CONSTRAINT_KW ∷ kind.CONSTRAINTS_KW ∷ kind.CONTENT_KW ∷ kind.CONTINUE_KW ∷ kind.CONVERSION_KW ∷
    kind.COPY_KW ∷ kind.COST_KW ∷ kind.CREATE_KW ∷ kind.CROSS_KW ∷ kind.CSV_KW ∷ kind.CUBE_KW ∷ kind.CURRENT_KW ∷
    kind.CURRENT_CATALOG_KW ∷ kind.CURRENT_DATE_KW ∷ kind.CURRENT_ROLE_KW ∷ kind.CURRENT_SCHEMA_KW ∷
    kind.CURRENT_TIME_KW ∷ kind.CURRENT_TIMESTAMP_KW ∷ kind.CURRENT_USER_KW ∷ kind.CURSOR_KW ∷ kind.CYCLE_KW ∷
    kind.DATA_KW ∷ kind.DATABASE_KW ∷ kind.DAY_KW ∷ kind.DEALLOCATE_KW ∷ kind.DEC_KW ∷ kind.DECIMAL_KW ∷
    kind.DECLARE_KW ∷ kind.DEFAULT_KW ∷ kind.DEFAULTS_KW ∷ kind.DEFERRABLE_KW ∷ kind.DEFERRED_KW ∷ kind.DEFINER_KW ∷
    kind.DELETE_KW ∷ kind.DELIMITER_KW ∷ kind.DELIMITERS_KW ∷ kind.DEPENDS_KW ∷ kind.DEPTH_KW ∷ kind.DESC_KW ∷
    kind.DESTINATION_KW ∷ kind.DETACH_KW ∷ kind.DICTIONARY_KW ∷ kind.DISABLE_KW ∷ kind.DISCARD_KW ∷ kind.DISTINCT_KW ∷
    kind.DO_KW ∷ kind.DOCUMENT_KW ∷ kind.DOMAIN_KW ∷ kind.DOUBLE_KW ∷ kind.DROP_KW ∷ kind.EACH_KW ∷ kind.EDGE_KW ∷
    kind.ELSE_KW ∷ kind.EMPTY_KW ∷ kind.ENABLE_KW ∷ kind.ENCODING_KW ∷ kind.ENCRYPTED_KW ∷ kind.END_KW ∷
    kind.ENFORCED_KW ∷ kind.ENUM_KW ∷ kind.ERROR_KW ∷ kind.ESCAPE_KW ∷ kind.EVENT_KW ∷ kind.EXCEPT_KW ∷
    kind.EXCLUDE_KW ∷ kind.EXCLUDING_KW ∷ kind.EXCLUSIVE_KW ∷ kind.EXECUTE_KW ∷ kind.EXISTS_KW ∷ kind.EXPLAIN_KW ∷
    kind.EXPRESSION_KW ∷ kind.EXTENSION_KW ∷ kind.EXTERNAL_KW ∷ kind.EXTRACT_KW ∷ kind.FALSE_KW ∷ kind.FAMILY_KW ∷
    kind.FETCH_KW ∷ kind.FILTER_KW ∷ kind.FINALIZE_KW ∷ kind.FIRST_KW ∷ kind.FLOAT_KW ∷ kind.FOLLOWING_KW ∷
    kind.FOR_KW ∷ kind.FORCE_KW ∷ kind.FOREIGN_KW ∷ kind.FORMAT_KW ∷ kind.FORWARD_KW ∷ kind.FREEZE_KW ∷ kind.FROM_KW ∷
    kind.FULL_KW ∷ kind.FUNCTION_KW ∷ kind.FUNCTIONS_KW ∷ kind.GENERATED_KW ∷ kind.GLOBAL_KW ∷ kind.GRANT_KW ∷
    kind.GRANTED_KW ∷ kind.GRAPH_KW ∷ kind.GRAPH_TABLE_KW ∷ kind.GREATEST_KW ∷ kind.GROUP_KW ∷ kind.GROUPING_KW ∷
    kind.GROUPS_KW ∷ kind.HANDLER_KW ∷ kind.HAVING_KW ∷ kind.HEADER_KW ∷ kind.HOLD_KW ∷ kind.HOUR_KW ∷
    kind.IDENTITY_KW ∷ kind.IF_KW ∷ kind.IGNORE_KW ∷ kind.ILIKE_KW ∷ kind.IMMEDIATE_KW ∷ kind.IMMUTABLE_KW ∷
    kind.IMPLICIT_KW ∷ kind.IMPORT_KW ∷ kind.IN_KW ∷ kind.INCLUDE_KW ∷ kind.INCLUDING_KW ∷ kind.INCREMENT_KW ∷
    kind.INDENT_KW ∷ kind.INDEX_KW ∷ kind.INDEXES_KW ∷ kind.INHERIT_KW ∷ kind.INHERITS_KW ∷ kind.INITIALLY_KW ∷
    kind.INLINE_KW ∷ kind.INNER_KW ∷ kind.INOUT_KW ∷ kind.INPUT_KW ∷ kind.INSENSITIVE_KW ∷ kind.INSERT_KW ∷
    kind.INSTEAD_KW ∷ kind.INT_KW ∷ kind.INTEGER_KW ∷ kind.INTERSECT_KW ∷ kind.INTERVAL_KW ∷ kind.INTO_KW ∷
    kind.INVOKER_KW ∷ kind.IS_KW ∷ kind.ISNULL_KW ∷ kind.ISOLATION_KW ∷ kind.JOIN_KW ∷ kind.JSON_KW ∷
    kind.JSON_ARRAY_KW ∷ kind.JSON_ARRAYAGG_KW ∷ kind.JSON_EXISTS_KW ∷ kind.JSON_OBJECT_KW ∷ kind.JSON_OBJECTAGG_KW ∷
    kind.JSON_QUERY_KW ∷ kind.JSON_SCALAR_KW ∷ kind.JSON_SERIALIZE_KW ∷ kind.JSON_TABLE_KW ∷ kind.JSON_VALUE_KW ∷
    kind.KEEP_KW ∷ kind.KEY_KW ∷ kind.KEYS_KW ∷ kind.LABEL_KW ∷ kind.LANGUAGE_KW ∷ kind.LARGE_KW ∷ kind.LAST_KW ∷
    kind.LATERAL_KW ∷ kind.LEADING_KW ∷ kind.LEAKPROOF_KW ∷ kind.LEAST_KW ∷ kind.LEFT_KW ∷ kind.LEVEL_KW ∷
    kind.LIKE_KW ∷ kind.LIMIT_KW ∷ kind.LISTEN_KW ∷ kind.LOAD_KW ∷ kind.LOCAL_KW ∷ kind.LOCALTIME_KW ∷
    kind.LOCALTIMESTAMP_KW ∷ kind.LOCATION_KW ∷ kind.LOCK_KW ∷ kind.LOCKED_KW ∷ kind.LOGGED_KW ∷ kind.LSN_KW ∷
    kind.MAPPING_KW ∷ kind.MATCH_KW ∷ kind.MATCHED_KW ∷ kind.MATERIALIZED_KW ∷ kind.MAXVALUE_KW ∷ kind.MERGE_KW ∷
    kind.MERGE_ACTION_KW ∷ kind.METHOD_KW ∷ kind.MINUTE_KW ∷ kind.MINVALUE_KW ∷ kind.MODE_KW ∷ kind.MONTH_KW ∷
    kind.MOVE_KW ∷ kind.NAME_KW ∷ kind.NAMES_KW ∷ kind.NATIONAL_KW ∷ kind.NATURAL_KW ∷ kind.NCHAR_KW ∷
    kind.NESTED_KW ∷ kind.NEW_KW ∷ kind.NEXT_KW ∷ kind.NFC_KW ∷ kind.NFD_KW ∷ kind.NFKC_KW ∷ kind.NFKD_KW ∷
    kind.NO_KW ∷ kind.NODE_KW ∷ kind.NONE_KW ∷ kind.NORMALIZE_KW ∷ kind.NORMALIZED_KW ∷ kind.NOT_KW ∷
    kind.NOTHING_KW ∷ kind.NOTIFY_KW ∷ kind.NOTNULL_KW ∷ kind.NOWAIT_KW ∷ kind.NULL_KW ∷ kind.NULLIF_KW ∷
    kind.NULLS_KW ∷ kind.NUMERIC_KW ∷ kind.OBJECT_KW ∷ kind.OBJECTS_KW ∷ kind.OF_KW ∷ kind.OFF_KW ∷ kind.OFFSET_KW ∷
    kind.OIDS_KW ∷ kind.OLD_KW ∷ kind.OMIT_KW ∷ kind.ON_KW ∷ kind.ONLY_KW ∷ kind.OPERATOR_KW ∷ kind.OPTION_KW ∷
    kind.OPTIONS_KW ∷ kind.OR_KW ∷ kind.ORDER_KW ∷ kind.ORDINALITY_KW ∷ kind.OTHERS_KW ∷ kind.OUT_KW ∷ kind.OUTER_KW ∷
    kind.OVER_KW ∷ kind.OVERLAPS_KW ∷ kind.OVERLAY_KW ∷ kind.OVERRIDING_KW ∷ kind.OWNED_KW ∷ kind.OWNER_KW ∷
    kind.PARALLEL_KW ∷ kind.PARAMETER_KW ∷ kind.PARSER_KW ∷ kind.PARTIAL_KW ∷ kind.PARTITION_KW ∷ kind.PARTITIONS_KW ∷
    kind.PASSING_KW ∷ kind.PASSWORD_KW ∷ kind.PATH_KW ∷ kind.PERIOD_KW ∷ kind.PLACING_KW ∷ kind.PLAN_KW ∷
    kind.PLANS_KW ∷ kind.POLICY_KW ∷ kind.PORTION_KW ∷ kind.POSITION_KW ∷ kind.PRECEDING_KW ∷ kind.PRECISION_KW ∷
    kind.PREPARE_KW ∷ kind.PREPARED_KW ∷ kind.PRESERVE_KW ∷ kind.PRIMARY_KW ∷ kind.PRIOR_KW ∷ kind.PRIVILEGES_KW ∷
    kind.PROCEDURAL_KW ∷ kind.PROCEDURE_KW ∷ kind.PROCEDURES_KW ∷ kind.PROGRAM_KW ∷ kind.PROPERTIES_KW ∷
    kind.PROPERTY_KW ∷ kind.PUBLICATION_KW ∷ kind.QUOTE_KW ∷ kind.QUOTES_KW ∷ kind.RANGE_KW ∷ kind.READ_KW ∷
    kind.REAL_KW ∷ kind.REASSIGN_KW ∷ kind.RECURSIVE_KW ∷ kind.REF_KW ∷ kind.REFERENCES_KW ∷ kind.REFERENCING_KW ∷
    kind.REFRESH_KW ∷ kind.REINDEX_KW ∷ kind.RELATIONSHIP_KW ∷ kind.RELATIVE_KW ∷ kind.RELEASE_KW ∷ kind.RENAME_KW ∷
    kind.REPACK_KW ∷ kind.REPEATABLE_KW ∷ kind.REPLACE_KW ∷ kind.REPLICA_KW ∷ kind.RESET_KW ∷ kind.RESPECT_KW ∷
    kind.RESTART_KW ∷ kind.RESTRICT_KW ∷ kind.RETURN_KW ∷ kind.RETURNING_KW ∷ kind.RETURNS_KW ∷ kind.REVOKE_KW ∷
    kind.RIGHT_KW ∷ kind.ROLE_KW ∷ kind.ROLLBACK_KW ∷ kind.ROLLUP_KW ∷ kind.ROUTINE_KW ∷ kind.ROUTINES_KW ∷
    kind.ROW_KW ∷ kind.ROWS_KW ∷ kind.RULE_KW ∷ kind.SAVEPOINT_KW ∷ kind.SCALAR_KW ∷ kind.SCHEMA_KW ∷
    kind.SCHEMAS_KW ∷ kind.SCROLL_KW ∷ kind.SEARCH_KW ∷ kind.SECOND_KW ∷ kind.SECURITY_KW ∷ kind.SELECT_KW ∷
    kind.SEQUENCE_KW ∷ kind.SEQUENCES_KW ∷ kind.SERIALIZABLE_KW ∷ kind.SERVER_KW ∷ kind.SESSION_KW ∷
    kind.SESSION_USER_KW ∷ kind.SET_KW ∷ kind.SETOF_KW ∷ kind.SETS_KW ∷ kind.SHARE_KW ∷ kind.SHOW_KW ∷
    kind.SIMILAR_KW ∷ kind.SIMPLE_KW ∷ kind.SKIP_KW ∷ kind.SMALLINT_KW ∷ kind.SNAPSHOT_KW ∷ kind.SOME_KW ∷
    kind.SOURCE_KW ∷ kind.SPLIT_KW ∷ kind.SQL_KW ∷ kind.STABLE_KW ∷ kind.STANDALONE_KW ∷ kind.START_KW ∷
    kind.STATEMENT_KW ∷ kind.STATISTICS_KW ∷ kind.STDIN_KW ∷ kind.STDOUT_KW ∷ kind.STORAGE_KW ∷ kind.STORED_KW ∷
    kind.STRICT_KW ∷ kind.STRING_KW ∷ kind.STRIP_KW ∷ kind.SUBSCRIPTION_KW ∷ kind.SUBSTRING_KW ∷ kind.SUPPORT_KW ∷
    kind.SYMMETRIC_KW ∷ kind.SYSID_KW ∷ kind.SYSTEM_KW ∷ kind.SYSTEM_USER_KW ∷ kind.TABLE_KW ∷ kind.TABLES_KW ∷
    kind.TABLESAMPLE_KW ∷ kind.TABLESPACE_KW ∷ kind.TARGET_KW ∷ kind.TEMP_KW ∷ kind.TEMPLATE_KW ∷ kind.TEMPORARY_KW ∷
    kind.TEXT_KW ∷ kind.THEN_KW ∷ kind.TIES_KW ∷ kind.TIME_KW ∷ kind.TIMESTAMP_KW ∷ kind.TO_KW ∷ kind.TRAILING_KW ∷
    kind.TRANSACTION_KW ∷ kind.TRANSFORM_KW ∷ kind.TREAT_KW ∷ kind.TRIGGER_KW ∷ kind.TRIM_KW ∷ kind.TRUE_KW ∷
    kind.TRUNCATE_KW ∷ kind.TRUSTED_KW ∷ kind.TYPE_KW ∷ kind.TYPES_KW ∷ kind.UESCAPE_KW ∷ kind.UNBOUNDED_KW ∷
    kind.UNCOMMITTED_KW ∷ kind.UNCONDITIONAL_KW ∷ kind.UNENCRYPTED_KW ∷ kind.UNION_KW ∷ kind.UNIQUE_KW ∷
    kind.UNKNOWN_KW ∷ kind.UNLISTEN_KW ∷ kind.UNLOGGED_KW ∷ kind.UNTIL_KW ∷ kind.UPDATE_KW ∷ kind.USER_KW ∷
    kind.USING_KW ∷ kind.VACUUM_KW ∷ kind.VALID_KW ∷ kind.VALIDATE_KW ∷ kind.VALIDATOR_KW ∷ kind.VALUE_KW ∷
    kind.VALUES_KW ∷ kind.VARCHAR_KW ∷ kind.VARIADIC_KW ∷ kind.VARYING_KW ∷ kind.VERBOSE_KW ∷ kind.VERSION_KW ∷
    kind.VERTEX_KW ∷ kind.VIEW_KW ∷ kind.VIEWS_KW ∷ kind.VIRTUAL_KW ∷ kind.VOLATILE_KW ∷ kind.WAIT_KW ∷ kind.WHEN_KW ∷
    kind.WHERE_KW ∷ kind.WHITESPACE_KW ∷ kind.WINDOW_KW ∷ kind.WITH_KW ∷ kind.WITHIN_KW ∷ kind.WITHOUT_KW ∷
    kind.WORK_KW ∷ kind.WRAPPER_KW ∷ kind.WRITE_KW ∷ kind.XML_KW ∷ kind.XMLATTRIBUTES_KW ∷ kind.XMLCONCAT_KW ∷
    kind.XMLELEMENT_KW ∷ kind.XMLEXISTS_KW ∷ kind.XMLFOREST_KW ∷ kind.XMLNAMESPACES_KW ∷ kind.XMLPARSE_KW ∷
    kind.XMLPI_KW ∷ kind.XMLROOT_KW ∷ kind.XMLSERIALIZE_KW ∷ kind.XMLTABLE_KW ∷ kind.YEAR_KW ∷ kind.YES_KW ∷
    kind.ZONE_KW ∷
    []

-- keywords that may name anything: in PostgreSQL's appendix C "non-reserved"
unfoldable pub unreserved_keywords : List SyntaxKind
unreserved_keywords =
    kind.ABORT_KW ∷ kind.ABSENT_KW ∷ kind.ABSOLUTE_KW ∷ kind.ACCESS_KW ∷ kind.ACTION_KW ∷ kind.ADD_KW ∷
    kind.ADMIN_KW ∷ kind.AFTER_KW ∷ kind.AGGREGATE_KW ∷ kind.ALSO_KW ∷ kind.ALTER_KW ∷ kind.ALWAYS_KW ∷
    kind.ASENSITIVE_KW ∷ kind.ASSERTION_KW ∷ kind.ASSIGNMENT_KW ∷ kind.AT_KW ∷ kind.ATOMIC_KW ∷ kind.ATTACH_KW ∷
    kind.ATTRIBUTE_KW ∷ kind.BACKWARD_KW ∷ kind.BEFORE_KW ∷ kind.BEGIN_KW ∷ kind.BREADTH_KW ∷ kind.BY_KW ∷
    kind.CACHE_KW ∷ kind.CALL_KW ∷ kind.CALLED_KW ∷ kind.CASCADE_KW ∷ kind.CASCADED_KW ∷ kind.CATALOG_KW ∷
    kind.CHAIN_KW ∷ kind.CHARACTERISTICS_KW ∷ kind.CHECKPOINT_KW ∷ kind.CLASS_KW ∷ kind.CLOSE_KW ∷ kind.CLUSTER_KW ∷
    kind.COLUMNS_KW ∷ kind.COMMENT_KW ∷ kind.COMMENTS_KW ∷ kind.COMMIT_KW ∷ kind.COMMITTED_KW ∷ kind.COMPRESSION_KW ∷
    kind.CONDITIONAL_KW ∷ kind.CONFIGURATION_KW ∷ kind.CONFLICT_KW ∷ kind.CONNECTION_KW ∷ kind.CONSTRAINTS_KW ∷
    kind.CONTENT_KW ∷ kind.CONTINUE_KW ∷ kind.CONVERSION_KW ∷ kind.COPY_KW ∷ kind.COST_KW ∷ kind.CSV_KW ∷
    kind.CUBE_KW ∷ kind.CURRENT_KW ∷ kind.CURSOR_KW ∷ kind.CYCLE_KW ∷ kind.DATA_KW ∷ kind.DATABASE_KW ∷ kind.DAY_KW ∷
    kind.DEALLOCATE_KW ∷ kind.DECLARE_KW ∷ kind.DEFAULTS_KW ∷ kind.DEFERRED_KW ∷ kind.DEFINER_KW ∷ kind.DELETE_KW ∷
    kind.DELIMITER_KW ∷ kind.DELIMITERS_KW ∷ kind.DEPENDS_KW ∷ kind.DEPTH_KW ∷ kind.DESTINATION_KW ∷ kind.DETACH_KW ∷
    kind.DICTIONARY_KW ∷ kind.DISABLE_KW ∷ kind.DISCARD_KW ∷ kind.DOCUMENT_KW ∷ kind.DOMAIN_KW ∷ kind.DOUBLE_KW ∷
    kind.DROP_KW ∷ kind.EACH_KW ∷ kind.EDGE_KW ∷ kind.EMPTY_KW ∷ kind.ENABLE_KW ∷ kind.ENCODING_KW ∷
    kind.ENCRYPTED_KW ∷ kind.ENFORCED_KW ∷ kind.ENUM_KW ∷ kind.ERROR_KW ∷ kind.ESCAPE_KW ∷ kind.EVENT_KW ∷
    kind.EXCLUDE_KW ∷ kind.EXCLUDING_KW ∷ kind.EXCLUSIVE_KW ∷ kind.EXECUTE_KW ∷ kind.EXPLAIN_KW ∷ kind.EXPRESSION_KW ∷
    kind.EXTENSION_KW ∷ kind.EXTERNAL_KW ∷ kind.FAMILY_KW ∷ kind.FILTER_KW ∷ kind.FINALIZE_KW ∷ kind.FIRST_KW ∷
    kind.FOLLOWING_KW ∷ kind.FORCE_KW ∷ kind.FORMAT_KW ∷ kind.FORWARD_KW ∷ kind.FUNCTION_KW ∷ kind.FUNCTIONS_KW ∷
    kind.GENERATED_KW ∷ kind.GLOBAL_KW ∷ kind.GRANTED_KW ∷ kind.GRAPH_KW ∷ kind.GROUPS_KW ∷ kind.HANDLER_KW ∷
    kind.HEADER_KW ∷ kind.HOLD_KW ∷ kind.HOUR_KW ∷ kind.IDENTITY_KW ∷ kind.IF_KW ∷ kind.IGNORE_KW ∷
    kind.IMMEDIATE_KW ∷ kind.IMMUTABLE_KW ∷ kind.IMPLICIT_KW ∷ kind.IMPORT_KW ∷ kind.INCLUDE_KW ∷ kind.INCLUDING_KW ∷
    kind.INCREMENT_KW ∷ kind.INDENT_KW ∷ kind.INDEX_KW ∷ kind.INDEXES_KW ∷ kind.INHERIT_KW ∷ kind.INHERITS_KW ∷
    kind.INLINE_KW ∷ kind.INPUT_KW ∷ kind.INSENSITIVE_KW ∷ kind.INSERT_KW ∷ kind.INSTEAD_KW ∷ kind.INVOKER_KW ∷
    kind.ISOLATION_KW ∷ kind.KEEP_KW ∷ kind.KEY_KW ∷ kind.KEYS_KW ∷ kind.LABEL_KW ∷ kind.LANGUAGE_KW ∷ kind.LARGE_KW ∷
    kind.LAST_KW ∷ kind.LEAKPROOF_KW ∷ kind.LEVEL_KW ∷ kind.LISTEN_KW ∷ kind.LOAD_KW ∷ kind.LOCAL_KW ∷
    kind.LOCATION_KW ∷ kind.LOCK_KW ∷ kind.LOCKED_KW ∷ kind.LOGGED_KW ∷ kind.LSN_KW ∷ kind.MAPPING_KW ∷
    kind.MATCH_KW ∷ kind.MATCHED_KW ∷ kind.MATERIALIZED_KW ∷ kind.MAXVALUE_KW ∷ kind.MERGE_KW ∷ kind.METHOD_KW ∷
    kind.MINUTE_KW ∷ kind.MINVALUE_KW ∷ kind.MODE_KW ∷ kind.MONTH_KW ∷ kind.MOVE_KW ∷ kind.NAME_KW ∷ kind.NAMES_KW ∷
    kind.NESTED_KW ∷ kind.NEW_KW ∷ kind.NEXT_KW ∷ kind.NFC_KW ∷ kind.NFD_KW ∷ kind.NFKC_KW ∷ kind.NFKD_KW ∷
    kind.NO_KW ∷ kind.NODE_KW ∷ kind.NORMALIZED_KW ∷ kind.NOTHING_KW ∷ kind.NOTIFY_KW ∷ kind.NOWAIT_KW ∷
    kind.NULLS_KW ∷ kind.OBJECT_KW ∷ kind.OBJECTS_KW ∷ kind.OF_KW ∷ kind.OFF_KW ∷ kind.OIDS_KW ∷ kind.OLD_KW ∷
    kind.OMIT_KW ∷ kind.OPERATOR_KW ∷ kind.OPTION_KW ∷ kind.OPTIONS_KW ∷ kind.ORDINALITY_KW ∷ kind.OTHERS_KW ∷
    kind.OVER_KW ∷ kind.OVERRIDING_KW ∷ kind.OWNED_KW ∷ kind.OWNER_KW ∷ kind.PARALLEL_KW ∷ kind.PARAMETER_KW ∷
    kind.PARSER_KW ∷ kind.PARTIAL_KW ∷ kind.PARTITION_KW ∷ kind.PARTITIONS_KW ∷ kind.PASSING_KW ∷ kind.PASSWORD_KW ∷
    kind.PATH_KW ∷ kind.PERIOD_KW ∷ kind.PLAN_KW ∷ kind.PLANS_KW ∷ kind.POLICY_KW ∷ kind.PORTION_KW ∷
    kind.PRECEDING_KW ∷ kind.PREPARE_KW ∷ kind.PREPARED_KW ∷ kind.PRESERVE_KW ∷ kind.PRIOR_KW ∷ kind.PRIVILEGES_KW ∷
    kind.PROCEDURAL_KW ∷ kind.PROCEDURE_KW ∷ kind.PROCEDURES_KW ∷ kind.PROGRAM_KW ∷ kind.PROPERTIES_KW ∷
    kind.PROPERTY_KW ∷ kind.PUBLICATION_KW ∷ kind.QUOTE_KW ∷ kind.QUOTES_KW ∷ kind.RANGE_KW ∷ kind.READ_KW ∷
    kind.REASSIGN_KW ∷ kind.RECURSIVE_KW ∷ kind.REF_KW ∷ kind.REFERENCING_KW ∷ kind.REFRESH_KW ∷ kind.REINDEX_KW ∷
    kind.RELATIONSHIP_KW ∷ kind.RELATIVE_KW ∷ kind.RELEASE_KW ∷ kind.RENAME_KW ∷ kind.REPACK_KW ∷ kind.REPEATABLE_KW ∷
    kind.REPLACE_KW ∷ kind.REPLICA_KW ∷ kind.RESET_KW ∷ kind.RESPECT_KW ∷ kind.RESTART_KW ∷ kind.RESTRICT_KW ∷
    kind.RETURN_KW ∷ kind.RETURNS_KW ∷ kind.REVOKE_KW ∷ kind.ROLE_KW ∷ kind.ROLLBACK_KW ∷ kind.ROLLUP_KW ∷
    kind.ROUTINE_KW ∷ kind.ROUTINES_KW ∷ kind.ROWS_KW ∷ kind.RULE_KW ∷ kind.SAVEPOINT_KW ∷ kind.SCALAR_KW ∷
    kind.SCHEMA_KW ∷ kind.SCHEMAS_KW ∷ kind.SCROLL_KW ∷ kind.SEARCH_KW ∷ kind.SECOND_KW ∷ kind.SECURITY_KW ∷
    kind.SEQUENCE_KW ∷ kind.SEQUENCES_KW ∷ kind.SERIALIZABLE_KW ∷ kind.SERVER_KW ∷ kind.SESSION_KW ∷ kind.SET_KW ∷
    kind.SETS_KW ∷ kind.SHARE_KW ∷ kind.SHOW_KW ∷ kind.SIMPLE_KW ∷ kind.SKIP_KW ∷ kind.SNAPSHOT_KW ∷ kind.SOURCE_KW ∷
    kind.SPLIT_KW ∷ kind.SQL_KW ∷ kind.STABLE_KW ∷ kind.STANDALONE_KW ∷ kind.START_KW ∷ kind.STATEMENT_KW ∷
    kind.STATISTICS_KW ∷ kind.STDIN_KW ∷ kind.STDOUT_KW ∷ kind.STORAGE_KW ∷ kind.STORED_KW ∷ kind.STRICT_KW ∷
    kind.STRING_KW ∷ kind.STRIP_KW ∷ kind.SUBSCRIPTION_KW ∷ kind.SUPPORT_KW ∷ kind.SYSID_KW ∷ kind.SYSTEM_KW ∷
    kind.TABLES_KW ∷ kind.TABLESPACE_KW ∷ kind.TARGET_KW ∷ kind.TEMP_KW ∷ kind.TEMPLATE_KW ∷ kind.TEMPORARY_KW ∷
    kind.TEXT_KW ∷ kind.TIES_KW ∷ kind.TRANSACTION_KW ∷ kind.TRANSFORM_KW ∷ kind.TRIGGER_KW ∷ kind.TRUNCATE_KW ∷
    kind.TRUSTED_KW ∷ kind.TYPE_KW ∷ kind.TYPES_KW ∷ kind.UESCAPE_KW ∷ kind.UNBOUNDED_KW ∷ kind.UNCOMMITTED_KW ∷
    kind.UNCONDITIONAL_KW ∷ kind.UNENCRYPTED_KW ∷ kind.UNKNOWN_KW ∷ kind.UNLISTEN_KW ∷ kind.UNLOGGED_KW ∷
    kind.UNTIL_KW ∷ kind.UPDATE_KW ∷ kind.VACUUM_KW ∷ kind.VALID_KW ∷ kind.VALIDATE_KW ∷ kind.VALIDATOR_KW ∷
    kind.VALUE_KW ∷ kind.VARYING_KW ∷ kind.VERSION_KW ∷ kind.VERTEX_KW ∷ kind.VIEW_KW ∷ kind.VIEWS_KW ∷
    kind.VIRTUAL_KW ∷ kind.VOLATILE_KW ∷ kind.WAIT_KW ∷ kind.WHITESPACE_KW ∷ kind.WITHIN_KW ∷ kind.WITHOUT_KW ∷
    kind.WORK_KW ∷ kind.WRAPPER_KW ∷ kind.WRITE_KW ∷ kind.XML_KW ∷ kind.YEAR_KW ∷ kind.YES_KW ∷ kind.ZONE_KW ∷
    []

-- keywords that may name a column or a table: the unreserved ones, and those that may name a column
-- or a table but no function or type
unfoldable pub column_or_table_keywords : List SyntaxKind
column_or_table_keywords =
    kind.ABORT_KW ∷ kind.ABSENT_KW ∷ kind.ABSOLUTE_KW ∷ kind.ACCESS_KW ∷ kind.ACTION_KW ∷ kind.ADD_KW ∷
    kind.ADMIN_KW ∷ kind.AFTER_KW ∷ kind.AGGREGATE_KW ∷ kind.ALSO_KW ∷ kind.ALTER_KW ∷ kind.ALWAYS_KW ∷
    kind.ASENSITIVE_KW ∷ kind.ASSERTION_KW ∷ kind.ASSIGNMENT_KW ∷ kind.AT_KW ∷ kind.ATOMIC_KW ∷ kind.ATTACH_KW ∷
    kind.ATTRIBUTE_KW ∷ kind.BACKWARD_KW ∷ kind.BEFORE_KW ∷ kind.BEGIN_KW ∷ kind.BETWEEN_KW ∷ kind.BIGINT_KW ∷
    kind.BIT_KW ∷ kind.BOOLEAN_KW ∷ kind.BREADTH_KW ∷ kind.BY_KW ∷ kind.CACHE_KW ∷ kind.CALL_KW ∷ kind.CALLED_KW ∷
    kind.CASCADE_KW ∷ kind.CASCADED_KW ∷ kind.CATALOG_KW ∷ kind.CHAIN_KW ∷ kind.CHAR_KW ∷ kind.CHARACTER_KW ∷
    kind.CHARACTERISTICS_KW ∷ kind.CHECKPOINT_KW ∷ kind.CLASS_KW ∷ kind.CLOSE_KW ∷ kind.CLUSTER_KW ∷
    kind.COALESCE_KW ∷ kind.COLUMNS_KW ∷ kind.COMMENT_KW ∷ kind.COMMENTS_KW ∷ kind.COMMIT_KW ∷ kind.COMMITTED_KW ∷
    kind.COMPRESSION_KW ∷ kind.CONDITIONAL_KW ∷ kind.CONFIGURATION_KW ∷ kind.CONFLICT_KW ∷ kind.CONNECTION_KW ∷
    kind.CONSTRAINTS_KW ∷ kind.CONTENT_KW ∷ kind.CONTINUE_KW ∷ kind.CONVERSION_KW ∷ kind.COPY_KW ∷ kind.COST_KW ∷
    kind.CSV_KW ∷ kind.CUBE_KW ∷ kind.CURRENT_KW ∷ kind.CURSOR_KW ∷ kind.CYCLE_KW ∷ kind.DATA_KW ∷ kind.DATABASE_KW ∷
    kind.DAY_KW ∷ kind.DEALLOCATE_KW ∷ kind.DEC_KW ∷ kind.DECIMAL_KW ∷ kind.DECLARE_KW ∷ kind.DEFAULTS_KW ∷
    kind.DEFERRED_KW ∷ kind.DEFINER_KW ∷ kind.DELETE_KW ∷ kind.DELIMITER_KW ∷ kind.DELIMITERS_KW ∷ kind.DEPENDS_KW ∷
    kind.DEPTH_KW ∷ kind.DESTINATION_KW ∷ kind.DETACH_KW ∷ kind.DICTIONARY_KW ∷ kind.DISABLE_KW ∷ kind.DISCARD_KW ∷
    kind.DOCUMENT_KW ∷ kind.DOMAIN_KW ∷ kind.DOUBLE_KW ∷ kind.DROP_KW ∷ kind.EACH_KW ∷ kind.EDGE_KW ∷ kind.EMPTY_KW ∷
    kind.ENABLE_KW ∷ kind.ENCODING_KW ∷ kind.ENCRYPTED_KW ∷ kind.ENFORCED_KW ∷ kind.ENUM_KW ∷ kind.ERROR_KW ∷
    kind.ESCAPE_KW ∷ kind.EVENT_KW ∷ kind.EXCLUDE_KW ∷ kind.EXCLUDING_KW ∷ kind.EXCLUSIVE_KW ∷ kind.EXECUTE_KW ∷
    kind.EXISTS_KW ∷ kind.EXPLAIN_KW ∷ kind.EXPRESSION_KW ∷ kind.EXTENSION_KW ∷ kind.EXTERNAL_KW ∷ kind.EXTRACT_KW ∷
    kind.FAMILY_KW ∷ kind.FILTER_KW ∷ kind.FINALIZE_KW ∷ kind.FIRST_KW ∷ kind.FLOAT_KW ∷ kind.FOLLOWING_KW ∷
    kind.FORCE_KW ∷ kind.FORMAT_KW ∷ kind.FORWARD_KW ∷ kind.FUNCTION_KW ∷ kind.FUNCTIONS_KW ∷ kind.GENERATED_KW ∷
    kind.GLOBAL_KW ∷ kind.GRANTED_KW ∷ kind.GRAPH_KW ∷ kind.GRAPH_TABLE_KW ∷ kind.GREATEST_KW ∷ kind.GROUPING_KW ∷
    kind.GROUPS_KW ∷ kind.HANDLER_KW ∷ kind.HEADER_KW ∷ kind.HOLD_KW ∷ kind.HOUR_KW ∷ kind.IDENTITY_KW ∷ kind.IF_KW ∷
    kind.IGNORE_KW ∷ kind.IMMEDIATE_KW ∷ kind.IMMUTABLE_KW ∷ kind.IMPLICIT_KW ∷ kind.IMPORT_KW ∷ kind.INCLUDE_KW ∷
    kind.INCLUDING_KW ∷ kind.INCREMENT_KW ∷ kind.INDENT_KW ∷ kind.INDEX_KW ∷ kind.INDEXES_KW ∷ kind.INHERIT_KW ∷
    kind.INHERITS_KW ∷ kind.INLINE_KW ∷ kind.INOUT_KW ∷ kind.INPUT_KW ∷ kind.INSENSITIVE_KW ∷ kind.INSERT_KW ∷
    kind.INSTEAD_KW ∷ kind.INT_KW ∷ kind.INTEGER_KW ∷ kind.INTERVAL_KW ∷ kind.INVOKER_KW ∷ kind.ISOLATION_KW ∷
    kind.JSON_KW ∷ kind.JSON_ARRAY_KW ∷ kind.JSON_ARRAYAGG_KW ∷ kind.JSON_EXISTS_KW ∷ kind.JSON_OBJECT_KW ∷
    kind.JSON_OBJECTAGG_KW ∷ kind.JSON_QUERY_KW ∷ kind.JSON_SCALAR_KW ∷ kind.JSON_SERIALIZE_KW ∷ kind.JSON_TABLE_KW ∷
    kind.JSON_VALUE_KW ∷ kind.KEEP_KW ∷ kind.KEY_KW ∷ kind.KEYS_KW ∷ kind.LABEL_KW ∷ kind.LANGUAGE_KW ∷
    kind.LARGE_KW ∷ kind.LAST_KW ∷ kind.LEAKPROOF_KW ∷ kind.LEAST_KW ∷ kind.LEVEL_KW ∷ kind.LISTEN_KW ∷ kind.LOAD_KW ∷
    kind.LOCAL_KW ∷ kind.LOCATION_KW ∷ kind.LOCK_KW ∷ kind.LOCKED_KW ∷ kind.LOGGED_KW ∷ kind.LSN_KW ∷
    kind.MAPPING_KW ∷ kind.MATCH_KW ∷ kind.MATCHED_KW ∷ kind.MATERIALIZED_KW ∷ kind.MAXVALUE_KW ∷ kind.MERGE_KW ∷
    kind.MERGE_ACTION_KW ∷ kind.METHOD_KW ∷ kind.MINUTE_KW ∷ kind.MINVALUE_KW ∷ kind.MODE_KW ∷ kind.MONTH_KW ∷
    kind.MOVE_KW ∷ kind.NAME_KW ∷ kind.NAMES_KW ∷ kind.NATIONAL_KW ∷ kind.NCHAR_KW ∷ kind.NESTED_KW ∷ kind.NEW_KW ∷
    kind.NEXT_KW ∷ kind.NFC_KW ∷ kind.NFD_KW ∷ kind.NFKC_KW ∷ kind.NFKD_KW ∷ kind.NO_KW ∷ kind.NODE_KW ∷
    kind.NONE_KW ∷ kind.NORMALIZE_KW ∷ kind.NORMALIZED_KW ∷ kind.NOTHING_KW ∷ kind.NOTIFY_KW ∷ kind.NOWAIT_KW ∷
    kind.NULLIF_KW ∷ kind.NULLS_KW ∷ kind.NUMERIC_KW ∷ kind.OBJECT_KW ∷ kind.OBJECTS_KW ∷ kind.OF_KW ∷ kind.OFF_KW ∷
    kind.OIDS_KW ∷ kind.OLD_KW ∷ kind.OMIT_KW ∷ kind.OPERATOR_KW ∷ kind.OPTION_KW ∷ kind.OPTIONS_KW ∷
    kind.ORDINALITY_KW ∷ kind.OTHERS_KW ∷ kind.OUT_KW ∷ kind.OVER_KW ∷ kind.OVERLAY_KW ∷ kind.OVERRIDING_KW ∷
    kind.OWNED_KW ∷ kind.OWNER_KW ∷ kind.PARALLEL_KW ∷ kind.PARAMETER_KW ∷ kind.PARSER_KW ∷ kind.PARTIAL_KW ∷
    kind.PARTITION_KW ∷ kind.PARTITIONS_KW ∷ kind.PASSING_KW ∷ kind.PASSWORD_KW ∷ kind.PATH_KW ∷ kind.PERIOD_KW ∷
    kind.PLAN_KW ∷ kind.PLANS_KW ∷ kind.POLICY_KW ∷ kind.PORTION_KW ∷ kind.POSITION_KW ∷ kind.PRECEDING_KW ∷
    kind.PRECISION_KW ∷ kind.PREPARE_KW ∷ kind.PREPARED_KW ∷ kind.PRESERVE_KW ∷ kind.PRIOR_KW ∷ kind.PRIVILEGES_KW ∷
    kind.PROCEDURAL_KW ∷ kind.PROCEDURE_KW ∷ kind.PROCEDURES_KW ∷ kind.PROGRAM_KW ∷ kind.PROPERTIES_KW ∷
    kind.PROPERTY_KW ∷ kind.PUBLICATION_KW ∷ kind.QUOTE_KW ∷ kind.QUOTES_KW ∷ kind.RANGE_KW ∷ kind.READ_KW ∷
    kind.REAL_KW ∷ kind.REASSIGN_KW ∷ kind.RECURSIVE_KW ∷ kind.REF_KW ∷ kind.REFERENCING_KW ∷ kind.REFRESH_KW ∷
    kind.REINDEX_KW ∷ kind.RELATIONSHIP_KW ∷ kind.RELATIVE_KW ∷ kind.RELEASE_KW ∷ kind.RENAME_KW ∷ kind.REPACK_KW ∷
    kind.REPEATABLE_KW ∷ kind.REPLACE_KW ∷ kind.REPLICA_KW ∷ kind.RESET_KW ∷ kind.RESPECT_KW ∷ kind.RESTART_KW ∷
    kind.RESTRICT_KW ∷ kind.RETURN_KW ∷ kind.RETURNS_KW ∷ kind.REVOKE_KW ∷ kind.ROLE_KW ∷ kind.ROLLBACK_KW ∷
    kind.ROLLUP_KW ∷ kind.ROUTINE_KW ∷ kind.ROUTINES_KW ∷ kind.ROW_KW ∷ kind.ROWS_KW ∷ kind.RULE_KW ∷
    kind.SAVEPOINT_KW ∷ kind.SCALAR_KW ∷ kind.SCHEMA_KW ∷ kind.SCHEMAS_KW ∷ kind.SCROLL_KW ∷ kind.SEARCH_KW ∷
    kind.SECOND_KW ∷ kind.SECURITY_KW ∷ kind.SEQUENCE_KW ∷ kind.SEQUENCES_KW ∷ kind.SERIALIZABLE_KW ∷ kind.SERVER_KW ∷
    kind.SESSION_KW ∷ kind.SET_KW ∷ kind.SETOF_KW ∷ kind.SETS_KW ∷ kind.SHARE_KW ∷ kind.SHOW_KW ∷ kind.SIMPLE_KW ∷
    kind.SKIP_KW ∷ kind.SMALLINT_KW ∷ kind.SNAPSHOT_KW ∷ kind.SOURCE_KW ∷ kind.SPLIT_KW ∷ kind.SQL_KW ∷
    kind.STABLE_KW ∷ kind.STANDALONE_KW ∷ kind.START_KW ∷ kind.STATEMENT_KW ∷ kind.STATISTICS_KW ∷ kind.STDIN_KW ∷
    kind.STDOUT_KW ∷ kind.STORAGE_KW ∷ kind.STORED_KW ∷ kind.STRICT_KW ∷ kind.STRING_KW ∷ kind.STRIP_KW ∷
    kind.SUBSCRIPTION_KW ∷ kind.SUBSTRING_KW ∷ kind.SUPPORT_KW ∷ kind.SYSID_KW ∷ kind.SYSTEM_KW ∷ kind.TABLES_KW ∷
    kind.TABLESPACE_KW ∷ kind.TARGET_KW ∷ kind.TEMP_KW ∷ kind.TEMPLATE_KW ∷ kind.TEMPORARY_KW ∷ kind.TEXT_KW ∷
    kind.TIES_KW ∷ kind.TIME_KW ∷ kind.TIMESTAMP_KW ∷ kind.TRANSACTION_KW ∷ kind.TRANSFORM_KW ∷ kind.TREAT_KW ∷
    kind.TRIGGER_KW ∷ kind.TRIM_KW ∷ kind.TRUNCATE_KW ∷ kind.TRUSTED_KW ∷ kind.TYPE_KW ∷ kind.TYPES_KW ∷
    kind.UESCAPE_KW ∷ kind.UNBOUNDED_KW ∷ kind.UNCOMMITTED_KW ∷ kind.UNCONDITIONAL_KW ∷ kind.UNENCRYPTED_KW ∷
    kind.UNKNOWN_KW ∷ kind.UNLISTEN_KW ∷ kind.UNLOGGED_KW ∷ kind.UNTIL_KW ∷ kind.UPDATE_KW ∷ kind.VACUUM_KW ∷
    kind.VALID_KW ∷ kind.VALIDATE_KW ∷ kind.VALIDATOR_KW ∷ kind.VALUE_KW ∷ kind.VALUES_KW ∷ kind.VARCHAR_KW ∷
    kind.VARYING_KW ∷ kind.VERSION_KW ∷ kind.VERTEX_KW ∷ kind.VIEW_KW ∷ kind.VIEWS_KW ∷ kind.VIRTUAL_KW ∷
    kind.VOLATILE_KW ∷ kind.WAIT_KW ∷ kind.WHITESPACE_KW ∷ kind.WITHIN_KW ∷ kind.WITHOUT_KW ∷ kind.WORK_KW ∷
    kind.WRAPPER_KW ∷ kind.WRITE_KW ∷ kind.XML_KW ∷ kind.XMLATTRIBUTES_KW ∷ kind.XMLCONCAT_KW ∷ kind.XMLELEMENT_KW ∷
    kind.XMLEXISTS_KW ∷ kind.XMLFOREST_KW ∷ kind.XMLNAMESPACES_KW ∷ kind.XMLPARSE_KW ∷ kind.XMLPI_KW ∷
    kind.XMLROOT_KW ∷ kind.XMLSERIALIZE_KW ∷ kind.XMLTABLE_KW ∷ kind.YEAR_KW ∷ kind.YES_KW ∷ kind.ZONE_KW ∷
    []

-- keywords that a type may begin with: all but the reserved ones
unfoldable pub type_keywords : List SyntaxKind
type_keywords =
    kind.ABORT_KW ∷ kind.ABSENT_KW ∷ kind.ABSOLUTE_KW ∷ kind.ACCESS_KW ∷ kind.ACTION_KW ∷ kind.ADD_KW ∷
    kind.ADMIN_KW ∷ kind.AFTER_KW ∷ kind.AGGREGATE_KW ∷ kind.ALSO_KW ∷ kind.ALTER_KW ∷ kind.ALWAYS_KW ∷
    kind.ASENSITIVE_KW ∷ kind.ASSERTION_KW ∷ kind.ASSIGNMENT_KW ∷ kind.AT_KW ∷ kind.ATOMIC_KW ∷ kind.ATTACH_KW ∷
    kind.ATTRIBUTE_KW ∷ kind.AUTHORIZATION_KW ∷ kind.BACKWARD_KW ∷ kind.BEFORE_KW ∷ kind.BEGIN_KW ∷ kind.BETWEEN_KW ∷
    kind.BIGINT_KW ∷ kind.BINARY_KW ∷ kind.BIT_KW ∷ kind.BOOLEAN_KW ∷ kind.BREADTH_KW ∷ kind.BY_KW ∷ kind.CACHE_KW ∷
    kind.CALL_KW ∷ kind.CALLED_KW ∷ kind.CASCADE_KW ∷ kind.CASCADED_KW ∷ kind.CATALOG_KW ∷ kind.CHAIN_KW ∷
    kind.CHAR_KW ∷ kind.CHARACTER_KW ∷ kind.CHARACTERISTICS_KW ∷ kind.CHECKPOINT_KW ∷ kind.CLASS_KW ∷ kind.CLOSE_KW ∷
    kind.CLUSTER_KW ∷ kind.COALESCE_KW ∷ kind.COLLATION_KW ∷ kind.COLUMNS_KW ∷ kind.COMMENT_KW ∷ kind.COMMENTS_KW ∷
    kind.COMMIT_KW ∷ kind.COMMITTED_KW ∷ kind.COMPRESSION_KW ∷ kind.CONCURRENTLY_KW ∷ kind.CONDITIONAL_KW ∷
    kind.CONFIGURATION_KW ∷ kind.CONFLICT_KW ∷ kind.CONNECTION_KW ∷ kind.CONSTRAINTS_KW ∷ kind.CONTENT_KW ∷
    kind.CONTINUE_KW ∷ kind.CONVERSION_KW ∷ kind.COPY_KW ∷ kind.COST_KW ∷ kind.CROSS_KW ∷ kind.CSV_KW ∷ kind.CUBE_KW ∷
    kind.CURRENT_KW ∷ kind.CURRENT_SCHEMA_KW ∷ kind.CURSOR_KW ∷ kind.CYCLE_KW ∷ kind.DATA_KW ∷ kind.DATABASE_KW ∷
    kind.DAY_KW ∷ kind.DEALLOCATE_KW ∷ kind.DEC_KW ∷ kind.DECIMAL_KW ∷ kind.DECLARE_KW ∷ kind.DEFAULTS_KW ∷
    kind.DEFERRED_KW ∷ kind.DEFINER_KW ∷ kind.DELETE_KW ∷ kind.DELIMITER_KW ∷ kind.DELIMITERS_KW ∷ kind.DEPENDS_KW ∷
    kind.DEPTH_KW ∷ kind.DESTINATION_KW ∷ kind.DETACH_KW ∷ kind.DICTIONARY_KW ∷ kind.DISABLE_KW ∷ kind.DISCARD_KW ∷
    kind.DOCUMENT_KW ∷ kind.DOMAIN_KW ∷ kind.DOUBLE_KW ∷ kind.DROP_KW ∷ kind.EACH_KW ∷ kind.EDGE_KW ∷ kind.EMPTY_KW ∷
    kind.ENABLE_KW ∷ kind.ENCODING_KW ∷ kind.ENCRYPTED_KW ∷ kind.ENFORCED_KW ∷ kind.ENUM_KW ∷ kind.ERROR_KW ∷
    kind.ESCAPE_KW ∷ kind.EVENT_KW ∷ kind.EXCLUDE_KW ∷ kind.EXCLUDING_KW ∷ kind.EXCLUSIVE_KW ∷ kind.EXECUTE_KW ∷
    kind.EXISTS_KW ∷ kind.EXPLAIN_KW ∷ kind.EXPRESSION_KW ∷ kind.EXTENSION_KW ∷ kind.EXTERNAL_KW ∷ kind.EXTRACT_KW ∷
    kind.FAMILY_KW ∷ kind.FILTER_KW ∷ kind.FINALIZE_KW ∷ kind.FIRST_KW ∷ kind.FLOAT_KW ∷ kind.FOLLOWING_KW ∷
    kind.FORCE_KW ∷ kind.FORMAT_KW ∷ kind.FORWARD_KW ∷ kind.FREEZE_KW ∷ kind.FULL_KW ∷ kind.FUNCTION_KW ∷
    kind.FUNCTIONS_KW ∷ kind.GENERATED_KW ∷ kind.GLOBAL_KW ∷ kind.GRANTED_KW ∷ kind.GRAPH_KW ∷ kind.GRAPH_TABLE_KW ∷
    kind.GREATEST_KW ∷ kind.GROUPING_KW ∷ kind.GROUPS_KW ∷ kind.HANDLER_KW ∷ kind.HEADER_KW ∷ kind.HOLD_KW ∷
    kind.HOUR_KW ∷ kind.IDENTITY_KW ∷ kind.IF_KW ∷ kind.IGNORE_KW ∷ kind.ILIKE_KW ∷ kind.IMMEDIATE_KW ∷
    kind.IMMUTABLE_KW ∷ kind.IMPLICIT_KW ∷ kind.IMPORT_KW ∷ kind.INCLUDE_KW ∷ kind.INCLUDING_KW ∷ kind.INCREMENT_KW ∷
    kind.INDENT_KW ∷ kind.INDEX_KW ∷ kind.INDEXES_KW ∷ kind.INHERIT_KW ∷ kind.INHERITS_KW ∷ kind.INLINE_KW ∷
    kind.INNER_KW ∷ kind.INOUT_KW ∷ kind.INPUT_KW ∷ kind.INSENSITIVE_KW ∷ kind.INSERT_KW ∷ kind.INSTEAD_KW ∷
    kind.INT_KW ∷ kind.INTEGER_KW ∷ kind.INTERVAL_KW ∷ kind.INVOKER_KW ∷ kind.IS_KW ∷ kind.ISNULL_KW ∷
    kind.ISOLATION_KW ∷ kind.JOIN_KW ∷ kind.JSON_KW ∷ kind.JSON_ARRAY_KW ∷ kind.JSON_ARRAYAGG_KW ∷
    kind.JSON_EXISTS_KW ∷ kind.JSON_OBJECT_KW ∷ kind.JSON_OBJECTAGG_KW ∷ kind.JSON_QUERY_KW ∷ kind.JSON_SCALAR_KW ∷
    kind.JSON_SERIALIZE_KW ∷ kind.JSON_TABLE_KW ∷ kind.JSON_VALUE_KW ∷ kind.KEEP_KW ∷ kind.KEY_KW ∷ kind.KEYS_KW ∷
    kind.LABEL_KW ∷ kind.LANGUAGE_KW ∷ kind.LARGE_KW ∷ kind.LAST_KW ∷ kind.LEAKPROOF_KW ∷ kind.LEAST_KW ∷
    kind.LEFT_KW ∷ kind.LEVEL_KW ∷ kind.LIKE_KW ∷ kind.LISTEN_KW ∷ kind.LOAD_KW ∷ kind.LOCAL_KW ∷ kind.LOCATION_KW ∷
    kind.LOCK_KW ∷ kind.LOCKED_KW ∷ kind.LOGGED_KW ∷ kind.LSN_KW ∷ kind.MAPPING_KW ∷ kind.MATCH_KW ∷ kind.MATCHED_KW ∷
    kind.MATERIALIZED_KW ∷ kind.MAXVALUE_KW ∷ kind.MERGE_KW ∷ kind.MERGE_ACTION_KW ∷ kind.METHOD_KW ∷ kind.MINUTE_KW ∷
    kind.MINVALUE_KW ∷ kind.MODE_KW ∷ kind.MONTH_KW ∷ kind.MOVE_KW ∷ kind.NAME_KW ∷ kind.NAMES_KW ∷ kind.NATIONAL_KW ∷
    kind.NATURAL_KW ∷ kind.NCHAR_KW ∷ kind.NESTED_KW ∷ kind.NEW_KW ∷ kind.NEXT_KW ∷ kind.NFC_KW ∷ kind.NFD_KW ∷
    kind.NFKC_KW ∷ kind.NFKD_KW ∷ kind.NO_KW ∷ kind.NODE_KW ∷ kind.NONE_KW ∷ kind.NORMALIZE_KW ∷ kind.NORMALIZED_KW ∷
    kind.NOTHING_KW ∷ kind.NOTIFY_KW ∷ kind.NOTNULL_KW ∷ kind.NOWAIT_KW ∷ kind.NULLIF_KW ∷ kind.NULLS_KW ∷
    kind.NUMERIC_KW ∷ kind.OBJECT_KW ∷ kind.OBJECTS_KW ∷ kind.OF_KW ∷ kind.OFF_KW ∷ kind.OIDS_KW ∷ kind.OLD_KW ∷
    kind.OMIT_KW ∷ kind.OPERATOR_KW ∷ kind.OPTION_KW ∷ kind.OPTIONS_KW ∷ kind.ORDINALITY_KW ∷ kind.OTHERS_KW ∷
    kind.OUT_KW ∷ kind.OUTER_KW ∷ kind.OVER_KW ∷ kind.OVERLAPS_KW ∷ kind.OVERLAY_KW ∷ kind.OVERRIDING_KW ∷
    kind.OWNED_KW ∷ kind.OWNER_KW ∷ kind.PARALLEL_KW ∷ kind.PARAMETER_KW ∷ kind.PARSER_KW ∷ kind.PARTIAL_KW ∷
    kind.PARTITION_KW ∷ kind.PARTITIONS_KW ∷ kind.PASSING_KW ∷ kind.PASSWORD_KW ∷ kind.PATH_KW ∷ kind.PERIOD_KW ∷
    kind.PLAN_KW ∷ kind.PLANS_KW ∷ kind.POLICY_KW ∷ kind.PORTION_KW ∷ kind.POSITION_KW ∷ kind.PRECEDING_KW ∷
    kind.PRECISION_KW ∷ kind.PREPARE_KW ∷ kind.PREPARED_KW ∷ kind.PRESERVE_KW ∷ kind.PRIOR_KW ∷ kind.PRIVILEGES_KW ∷
    kind.PROCEDURAL_KW ∷ kind.PROCEDURE_KW ∷ kind.PROCEDURES_KW ∷ kind.PROGRAM_KW ∷ kind.PROPERTIES_KW ∷
    kind.PROPERTY_KW ∷ kind.PUBLICATION_KW ∷ kind.QUOTE_KW ∷ kind.QUOTES_KW ∷ kind.RANGE_KW ∷ kind.READ_KW ∷
    kind.REAL_KW ∷ kind.REASSIGN_KW ∷ kind.RECURSIVE_KW ∷ kind.REF_KW ∷ kind.REFERENCING_KW ∷ kind.REFRESH_KW ∷
    kind.REINDEX_KW ∷ kind.RELATIONSHIP_KW ∷ kind.RELATIVE_KW ∷ kind.RELEASE_KW ∷ kind.RENAME_KW ∷ kind.REPACK_KW ∷
    kind.REPEATABLE_KW ∷ kind.REPLACE_KW ∷ kind.REPLICA_KW ∷ kind.RESET_KW ∷ kind.RESPECT_KW ∷ kind.RESTART_KW ∷
    kind.RESTRICT_KW ∷ kind.RETURN_KW ∷ kind.RETURNS_KW ∷ kind.REVOKE_KW ∷ kind.RIGHT_KW ∷ kind.ROLE_KW ∷
    kind.ROLLBACK_KW ∷ kind.ROLLUP_KW ∷ kind.ROUTINE_KW ∷ kind.ROUTINES_KW ∷ kind.ROW_KW ∷ kind.ROWS_KW ∷
    kind.RULE_KW ∷ kind.SAVEPOINT_KW ∷ kind.SCALAR_KW ∷ kind.SCHEMA_KW ∷ kind.SCHEMAS_KW ∷ kind.SCROLL_KW ∷
    kind.SEARCH_KW ∷ kind.SECOND_KW ∷ kind.SECURITY_KW ∷ kind.SEQUENCE_KW ∷ kind.SEQUENCES_KW ∷ kind.SERIALIZABLE_KW ∷
    kind.SERVER_KW ∷ kind.SESSION_KW ∷ kind.SET_KW ∷ kind.SETOF_KW ∷ kind.SETS_KW ∷ kind.SHARE_KW ∷ kind.SHOW_KW ∷
    kind.SIMILAR_KW ∷ kind.SIMPLE_KW ∷ kind.SKIP_KW ∷ kind.SMALLINT_KW ∷ kind.SNAPSHOT_KW ∷ kind.SOURCE_KW ∷
    kind.SPLIT_KW ∷ kind.SQL_KW ∷ kind.STABLE_KW ∷ kind.STANDALONE_KW ∷ kind.START_KW ∷ kind.STATEMENT_KW ∷
    kind.STATISTICS_KW ∷ kind.STDIN_KW ∷ kind.STDOUT_KW ∷ kind.STORAGE_KW ∷ kind.STORED_KW ∷ kind.STRICT_KW ∷
    kind.STRING_KW ∷ kind.STRIP_KW ∷ kind.SUBSCRIPTION_KW ∷ kind.SUBSTRING_KW ∷ kind.SUPPORT_KW ∷ kind.SYSID_KW ∷
    kind.SYSTEM_KW ∷ kind.TABLES_KW ∷ kind.TABLESAMPLE_KW ∷ kind.TABLESPACE_KW ∷ kind.TARGET_KW ∷ kind.TEMP_KW ∷
    kind.TEMPLATE_KW ∷ kind.TEMPORARY_KW ∷ kind.TEXT_KW ∷ kind.TIES_KW ∷ kind.TIME_KW ∷ kind.TIMESTAMP_KW ∷
    kind.TRANSACTION_KW ∷ kind.TRANSFORM_KW ∷ kind.TREAT_KW ∷ kind.TRIGGER_KW ∷ kind.TRIM_KW ∷ kind.TRUNCATE_KW ∷
    kind.TRUSTED_KW ∷ kind.TYPE_KW ∷ kind.TYPES_KW ∷ kind.UESCAPE_KW ∷ kind.UNBOUNDED_KW ∷ kind.UNCOMMITTED_KW ∷
    kind.UNCONDITIONAL_KW ∷ kind.UNENCRYPTED_KW ∷ kind.UNKNOWN_KW ∷ kind.UNLISTEN_KW ∷ kind.UNLOGGED_KW ∷
    kind.UNTIL_KW ∷ kind.UPDATE_KW ∷ kind.VACUUM_KW ∷ kind.VALID_KW ∷ kind.VALIDATE_KW ∷ kind.VALIDATOR_KW ∷
    kind.VALUE_KW ∷ kind.VALUES_KW ∷ kind.VARCHAR_KW ∷ kind.VARYING_KW ∷ kind.VERBOSE_KW ∷ kind.VERSION_KW ∷
    kind.VERTEX_KW ∷ kind.VIEW_KW ∷ kind.VIEWS_KW ∷ kind.VIRTUAL_KW ∷ kind.VOLATILE_KW ∷ kind.WAIT_KW ∷
    kind.WHITESPACE_KW ∷ kind.WITHIN_KW ∷ kind.WITHOUT_KW ∷ kind.WORK_KW ∷ kind.WRAPPER_KW ∷ kind.WRITE_KW ∷
    kind.XML_KW ∷ kind.XMLATTRIBUTES_KW ∷ kind.XMLCONCAT_KW ∷ kind.XMLELEMENT_KW ∷ kind.XMLEXISTS_KW ∷
    kind.XMLFOREST_KW ∷ kind.XMLNAMESPACES_KW ∷ kind.XMLPARSE_KW ∷ kind.XMLPI_KW ∷ kind.XMLROOT_KW ∷
    kind.XMLSERIALIZE_KW ∷ kind.XMLTABLE_KW ∷ kind.YEAR_KW ∷ kind.YES_KW ∷ kind.ZONE_KW ∷
    []

-- keywords that may be a column label without `AS`: all but those that PostgreSQL's appendix C
-- marks "requires `AS`"
unfoldable pub bare_label_keywords : List SyntaxKind
bare_label_keywords =
    kind.ABORT_KW ∷ kind.ABSENT_KW ∷ kind.ABSOLUTE_KW ∷ kind.ACCESS_KW ∷ kind.ACTION_KW ∷ kind.ADD_KW ∷
    kind.ADMIN_KW ∷ kind.AFTER_KW ∷ kind.AGGREGATE_KW ∷ kind.ALL_KW ∷ kind.ALSO_KW ∷ kind.ALTER_KW ∷ kind.ALWAYS_KW ∷
    kind.ANALYSE_KW ∷ kind.ANALYZE_KW ∷ kind.AND_KW ∷ kind.ANY_KW ∷ kind.ASC_KW ∷ kind.ASENSITIVE_KW ∷
    kind.ASSERTION_KW ∷ kind.ASSIGNMENT_KW ∷ kind.ASYMMETRIC_KW ∷ kind.AT_KW ∷ kind.ATOMIC_KW ∷ kind.ATTACH_KW ∷
    kind.ATTRIBUTE_KW ∷ kind.AUTHORIZATION_KW ∷ kind.BACKWARD_KW ∷ kind.BEFORE_KW ∷ kind.BEGIN_KW ∷ kind.BETWEEN_KW ∷
    kind.BIGINT_KW ∷ kind.BINARY_KW ∷ kind.BIT_KW ∷ kind.BOOLEAN_KW ∷ kind.BOTH_KW ∷ kind.BREADTH_KW ∷ kind.BY_KW ∷
    kind.CACHE_KW ∷ kind.CALL_KW ∷ kind.CALLED_KW ∷ kind.CASCADE_KW ∷ kind.CASCADED_KW ∷ kind.CASE_KW ∷ kind.CAST_KW ∷
    kind.CATALOG_KW ∷ kind.CHAIN_KW ∷ kind.CHARACTERISTICS_KW ∷ kind.CHECK_KW ∷ kind.CHECKPOINT_KW ∷ kind.CLASS_KW ∷
    kind.CLOSE_KW ∷ kind.CLUSTER_KW ∷ kind.COALESCE_KW ∷ kind.COLLATE_KW ∷ kind.COLLATION_KW ∷ kind.COLUMN_KW ∷
    kind.COLUMNS_KW ∷ kind.COMMENT_KW ∷ kind.COMMENTS_KW ∷ kind.COMMIT_KW ∷ kind.COMMITTED_KW ∷ kind.COMPRESSION_KW ∷
    kind.CONCURRENTLY_KW ∷ kind.CONDITIONAL_KW ∷ kind.CONFIGURATION_KW ∷ kind.CONFLICT_KW ∷ kind.CONNECTION_KW ∷
    kind.CONSTRAINT_KW ∷ kind.CONSTRAINTS_KW ∷ kind.CONTENT_KW ∷ kind.CONTINUE_KW ∷ kind.CONVERSION_KW ∷
    kind.COPY_KW ∷ kind.COST_KW ∷ kind.CROSS_KW ∷ kind.CSV_KW ∷ kind.CUBE_KW ∷ kind.CURRENT_KW ∷
    kind.CURRENT_CATALOG_KW ∷ kind.CURRENT_DATE_KW ∷ kind.CURRENT_ROLE_KW ∷ kind.CURRENT_SCHEMA_KW ∷
    kind.CURRENT_TIME_KW ∷ kind.CURRENT_TIMESTAMP_KW ∷ kind.CURRENT_USER_KW ∷ kind.CURSOR_KW ∷ kind.CYCLE_KW ∷
    kind.DATA_KW ∷ kind.DATABASE_KW ∷ kind.DEALLOCATE_KW ∷ kind.DEC_KW ∷ kind.DECIMAL_KW ∷ kind.DECLARE_KW ∷
    kind.DEFAULT_KW ∷ kind.DEFAULTS_KW ∷ kind.DEFERRABLE_KW ∷ kind.DEFERRED_KW ∷ kind.DEFINER_KW ∷ kind.DELETE_KW ∷
    kind.DELIMITER_KW ∷ kind.DELIMITERS_KW ∷ kind.DEPENDS_KW ∷ kind.DEPTH_KW ∷ kind.DESC_KW ∷ kind.DESTINATION_KW ∷
    kind.DETACH_KW ∷ kind.DICTIONARY_KW ∷ kind.DISABLE_KW ∷ kind.DISCARD_KW ∷ kind.DISTINCT_KW ∷ kind.DO_KW ∷
    kind.DOCUMENT_KW ∷ kind.DOMAIN_KW ∷ kind.DOUBLE_KW ∷ kind.DROP_KW ∷ kind.EACH_KW ∷ kind.EDGE_KW ∷ kind.ELSE_KW ∷
    kind.EMPTY_KW ∷ kind.ENABLE_KW ∷ kind.ENCODING_KW ∷ kind.ENCRYPTED_KW ∷ kind.END_KW ∷ kind.ENFORCED_KW ∷
    kind.ENUM_KW ∷ kind.ERROR_KW ∷ kind.ESCAPE_KW ∷ kind.EVENT_KW ∷ kind.EXCLUDE_KW ∷ kind.EXCLUDING_KW ∷
    kind.EXCLUSIVE_KW ∷ kind.EXECUTE_KW ∷ kind.EXISTS_KW ∷ kind.EXPLAIN_KW ∷ kind.EXPRESSION_KW ∷ kind.EXTENSION_KW ∷
    kind.EXTERNAL_KW ∷ kind.EXTRACT_KW ∷ kind.FALSE_KW ∷ kind.FAMILY_KW ∷ kind.FINALIZE_KW ∷ kind.FIRST_KW ∷
    kind.FLOAT_KW ∷ kind.FOLLOWING_KW ∷ kind.FORCE_KW ∷ kind.FOREIGN_KW ∷ kind.FORMAT_KW ∷ kind.FORWARD_KW ∷
    kind.FREEZE_KW ∷ kind.FULL_KW ∷ kind.FUNCTION_KW ∷ kind.FUNCTIONS_KW ∷ kind.GENERATED_KW ∷ kind.GLOBAL_KW ∷
    kind.GRANTED_KW ∷ kind.GRAPH_KW ∷ kind.GRAPH_TABLE_KW ∷ kind.GREATEST_KW ∷ kind.GROUPING_KW ∷ kind.GROUPS_KW ∷
    kind.HANDLER_KW ∷ kind.HEADER_KW ∷ kind.HOLD_KW ∷ kind.IDENTITY_KW ∷ kind.IF_KW ∷ kind.ILIKE_KW ∷
    kind.IMMEDIATE_KW ∷ kind.IMMUTABLE_KW ∷ kind.IMPLICIT_KW ∷ kind.IMPORT_KW ∷ kind.IN_KW ∷ kind.INCLUDE_KW ∷
    kind.INCLUDING_KW ∷ kind.INCREMENT_KW ∷ kind.INDENT_KW ∷ kind.INDEX_KW ∷ kind.INDEXES_KW ∷ kind.INHERIT_KW ∷
    kind.INHERITS_KW ∷ kind.INITIALLY_KW ∷ kind.INLINE_KW ∷ kind.INNER_KW ∷ kind.INOUT_KW ∷ kind.INPUT_KW ∷
    kind.INSENSITIVE_KW ∷ kind.INSERT_KW ∷ kind.INSTEAD_KW ∷ kind.INT_KW ∷ kind.INTEGER_KW ∷ kind.INTERVAL_KW ∷
    kind.INVOKER_KW ∷ kind.IS_KW ∷ kind.ISOLATION_KW ∷ kind.JOIN_KW ∷ kind.JSON_KW ∷ kind.JSON_ARRAY_KW ∷
    kind.JSON_ARRAYAGG_KW ∷ kind.JSON_EXISTS_KW ∷ kind.JSON_OBJECT_KW ∷ kind.JSON_OBJECTAGG_KW ∷ kind.JSON_QUERY_KW ∷
    kind.JSON_SCALAR_KW ∷ kind.JSON_SERIALIZE_KW ∷ kind.JSON_TABLE_KW ∷ kind.JSON_VALUE_KW ∷ kind.KEEP_KW ∷
    kind.KEY_KW ∷ kind.KEYS_KW ∷ kind.LABEL_KW ∷ kind.LANGUAGE_KW ∷ kind.LARGE_KW ∷ kind.LAST_KW ∷ kind.LATERAL_KW ∷
    kind.LEADING_KW ∷ kind.LEAKPROOF_KW ∷ kind.LEAST_KW ∷ kind.LEFT_KW ∷ kind.LEVEL_KW ∷ kind.LIKE_KW ∷
    kind.LISTEN_KW ∷ kind.LOAD_KW ∷ kind.LOCAL_KW ∷ kind.LOCALTIME_KW ∷ kind.LOCALTIMESTAMP_KW ∷ kind.LOCATION_KW ∷
    kind.LOCK_KW ∷ kind.LOCKED_KW ∷ kind.LOGGED_KW ∷ kind.LSN_KW ∷ kind.MAPPING_KW ∷ kind.MATCH_KW ∷ kind.MATCHED_KW ∷
    kind.MATERIALIZED_KW ∷ kind.MAXVALUE_KW ∷ kind.MERGE_KW ∷ kind.MERGE_ACTION_KW ∷ kind.METHOD_KW ∷
    kind.MINVALUE_KW ∷ kind.MODE_KW ∷ kind.MOVE_KW ∷ kind.NAME_KW ∷ kind.NAMES_KW ∷ kind.NATIONAL_KW ∷
    kind.NATURAL_KW ∷ kind.NCHAR_KW ∷ kind.NESTED_KW ∷ kind.NEW_KW ∷ kind.NEXT_KW ∷ kind.NFC_KW ∷ kind.NFD_KW ∷
    kind.NFKC_KW ∷ kind.NFKD_KW ∷ kind.NO_KW ∷ kind.NODE_KW ∷ kind.NONE_KW ∷ kind.NORMALIZE_KW ∷ kind.NORMALIZED_KW ∷
    kind.NOT_KW ∷ kind.NOTHING_KW ∷ kind.NOTIFY_KW ∷ kind.NOWAIT_KW ∷ kind.NULL_KW ∷ kind.NULLIF_KW ∷ kind.NULLS_KW ∷
    kind.NUMERIC_KW ∷ kind.OBJECT_KW ∷ kind.OBJECTS_KW ∷ kind.OF_KW ∷ kind.OFF_KW ∷ kind.OIDS_KW ∷ kind.OLD_KW ∷
    kind.OMIT_KW ∷ kind.ONLY_KW ∷ kind.OPERATOR_KW ∷ kind.OPTION_KW ∷ kind.OPTIONS_KW ∷ kind.OR_KW ∷
    kind.ORDINALITY_KW ∷ kind.OTHERS_KW ∷ kind.OUT_KW ∷ kind.OUTER_KW ∷ kind.OVERLAY_KW ∷ kind.OVERRIDING_KW ∷
    kind.OWNED_KW ∷ kind.OWNER_KW ∷ kind.PARALLEL_KW ∷ kind.PARAMETER_KW ∷ kind.PARSER_KW ∷ kind.PARTIAL_KW ∷
    kind.PARTITION_KW ∷ kind.PARTITIONS_KW ∷ kind.PASSING_KW ∷ kind.PASSWORD_KW ∷ kind.PATH_KW ∷ kind.PERIOD_KW ∷
    kind.PLACING_KW ∷ kind.PLAN_KW ∷ kind.PLANS_KW ∷ kind.POLICY_KW ∷ kind.PORTION_KW ∷ kind.POSITION_KW ∷
    kind.PRECEDING_KW ∷ kind.PREPARE_KW ∷ kind.PREPARED_KW ∷ kind.PRESERVE_KW ∷ kind.PRIMARY_KW ∷ kind.PRIOR_KW ∷
    kind.PRIVILEGES_KW ∷ kind.PROCEDURAL_KW ∷ kind.PROCEDURE_KW ∷ kind.PROCEDURES_KW ∷ kind.PROGRAM_KW ∷
    kind.PROPERTIES_KW ∷ kind.PROPERTY_KW ∷ kind.PUBLICATION_KW ∷ kind.QUOTE_KW ∷ kind.QUOTES_KW ∷ kind.RANGE_KW ∷
    kind.READ_KW ∷ kind.REAL_KW ∷ kind.REASSIGN_KW ∷ kind.RECURSIVE_KW ∷ kind.REF_KW ∷ kind.REFERENCES_KW ∷
    kind.REFERENCING_KW ∷ kind.REFRESH_KW ∷ kind.REINDEX_KW ∷ kind.RELATIONSHIP_KW ∷ kind.RELATIVE_KW ∷
    kind.RELEASE_KW ∷ kind.RENAME_KW ∷ kind.REPACK_KW ∷ kind.REPEATABLE_KW ∷ kind.REPLACE_KW ∷ kind.REPLICA_KW ∷
    kind.RESET_KW ∷ kind.RESTART_KW ∷ kind.RESTRICT_KW ∷ kind.RETURN_KW ∷ kind.RETURNS_KW ∷ kind.REVOKE_KW ∷
    kind.RIGHT_KW ∷ kind.ROLE_KW ∷ kind.ROLLBACK_KW ∷ kind.ROLLUP_KW ∷ kind.ROUTINE_KW ∷ kind.ROUTINES_KW ∷
    kind.ROW_KW ∷ kind.ROWS_KW ∷ kind.RULE_KW ∷ kind.SAVEPOINT_KW ∷ kind.SCALAR_KW ∷ kind.SCHEMA_KW ∷
    kind.SCHEMAS_KW ∷ kind.SCROLL_KW ∷ kind.SEARCH_KW ∷ kind.SECURITY_KW ∷ kind.SELECT_KW ∷ kind.SEQUENCE_KW ∷
    kind.SEQUENCES_KW ∷ kind.SERIALIZABLE_KW ∷ kind.SERVER_KW ∷ kind.SESSION_KW ∷ kind.SESSION_USER_KW ∷ kind.SET_KW ∷
    kind.SETOF_KW ∷ kind.SETS_KW ∷ kind.SHARE_KW ∷ kind.SHOW_KW ∷ kind.SIMILAR_KW ∷ kind.SIMPLE_KW ∷ kind.SKIP_KW ∷
    kind.SMALLINT_KW ∷ kind.SNAPSHOT_KW ∷ kind.SOME_KW ∷ kind.SOURCE_KW ∷ kind.SPLIT_KW ∷ kind.SQL_KW ∷
    kind.STABLE_KW ∷ kind.STANDALONE_KW ∷ kind.START_KW ∷ kind.STATEMENT_KW ∷ kind.STATISTICS_KW ∷ kind.STDIN_KW ∷
    kind.STDOUT_KW ∷ kind.STORAGE_KW ∷ kind.STORED_KW ∷ kind.STRICT_KW ∷ kind.STRING_KW ∷ kind.STRIP_KW ∷
    kind.SUBSCRIPTION_KW ∷ kind.SUBSTRING_KW ∷ kind.SUPPORT_KW ∷ kind.SYMMETRIC_KW ∷ kind.SYSID_KW ∷ kind.SYSTEM_KW ∷
    kind.SYSTEM_USER_KW ∷ kind.TABLE_KW ∷ kind.TABLES_KW ∷ kind.TABLESAMPLE_KW ∷ kind.TABLESPACE_KW ∷ kind.TARGET_KW ∷
    kind.TEMP_KW ∷ kind.TEMPLATE_KW ∷ kind.TEMPORARY_KW ∷ kind.TEXT_KW ∷ kind.THEN_KW ∷ kind.TIES_KW ∷ kind.TIME_KW ∷
    kind.TIMESTAMP_KW ∷ kind.TRAILING_KW ∷ kind.TRANSACTION_KW ∷ kind.TRANSFORM_KW ∷ kind.TREAT_KW ∷ kind.TRIGGER_KW ∷
    kind.TRIM_KW ∷ kind.TRUE_KW ∷ kind.TRUNCATE_KW ∷ kind.TRUSTED_KW ∷ kind.TYPE_KW ∷ kind.TYPES_KW ∷
    kind.UESCAPE_KW ∷ kind.UNBOUNDED_KW ∷ kind.UNCOMMITTED_KW ∷ kind.UNCONDITIONAL_KW ∷ kind.UNENCRYPTED_KW ∷
    kind.UNIQUE_KW ∷ kind.UNKNOWN_KW ∷ kind.UNLISTEN_KW ∷ kind.UNLOGGED_KW ∷ kind.UNTIL_KW ∷ kind.UPDATE_KW ∷
    kind.USER_KW ∷ kind.USING_KW ∷ kind.VACUUM_KW ∷ kind.VALID_KW ∷ kind.VALIDATE_KW ∷ kind.VALIDATOR_KW ∷
    kind.VALUE_KW ∷ kind.VALUES_KW ∷ kind.VARCHAR_KW ∷ kind.VARIADIC_KW ∷ kind.VERBOSE_KW ∷ kind.VERSION_KW ∷
    kind.VERTEX_KW ∷ kind.VIEW_KW ∷ kind.VIEWS_KW ∷ kind.VIRTUAL_KW ∷ kind.VOLATILE_KW ∷ kind.WAIT_KW ∷ kind.WHEN_KW ∷
    kind.WHITESPACE_KW ∷ kind.WORK_KW ∷ kind.WRAPPER_KW ∷ kind.WRITE_KW ∷ kind.XML_KW ∷ kind.XMLATTRIBUTES_KW ∷
    kind.XMLCONCAT_KW ∷ kind.XMLELEMENT_KW ∷ kind.XMLEXISTS_KW ∷ kind.XMLFOREST_KW ∷ kind.XMLNAMESPACES_KW ∷
    kind.XMLPARSE_KW ∷ kind.XMLPI_KW ∷ kind.XMLROOT_KW ∷ kind.XMLSERIALIZE_KW ∷ kind.XMLTABLE_KW ∷ kind.YES_KW ∷
    kind.ZONE_KW ∷
    []
