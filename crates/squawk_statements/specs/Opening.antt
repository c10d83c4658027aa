-- The node of a statement, by the kinds that it begins with.
use Rattle.std.specs.Prelude.{ℕ, ◌==◌, ◌&&◌, nat_lt, Bool, true, false, List, [], ◌∷◌, ◌++◌, length, drop, Option, Some, None, option_map, unwrap_or, if◌then◌else◌}
use Rattle.std.specs.List.{list_any, prefix_len}
use Rattle.squawk_kinds.specs.declared.numbers.TheConstants.Number as kind

-- a row of the table: the kinds that a statement begins with, and its node
abbrev pub Row : Type 0
Row = List ℕ × ℕ

-- the kinds of `TEXT SEARCH` and of an object
abbrev pub text_search : ℕ → List ℕ
text_search object = kind.TEXT_KW ∷ kind.SEARCH_KW ∷ object ∷ []

-- the kinds of `FOREIGN DATA WRAPPER`
abbrev pub foreign_data_wrapper : List ℕ
foreign_data_wrapper = kind.FOREIGN_KW ∷ kind.DATA_KW ∷ kind.WRAPPER_KW ∷ []

-- the rows with any other first kind
unfoldable pub other_rows : List Row
other_rows =
    (kind.SELECT_KW ∷ [], kind.SELECT) ∷
    (kind.INSERT_KW ∷ [], kind.INSERT) ∷
    (kind.UPDATE_KW ∷ [], kind.UPDATE) ∷
    (kind.DELETE_KW ∷ [], kind.DELETE) ∷
    (kind.WITH_KW ∷ [], kind.SELECT) ∷
    (kind.VALUES_KW ∷ [], kind.VALUES) ∷
    (kind.TABLE_KW ∷ [], kind.TABLE) ∷
    (kind.MERGE_KW ∷ [], kind.MERGE) ∷
    (kind.COPY_KW ∷ [], kind.COPY) ∷
    (kind.CALL_KW ∷ [], kind.CALL) ∷
    (kind.DO_KW ∷ [], kind.DO) ∷
    (kind.EXECUTE_KW ∷ [], kind.EXECUTE) ∷
    (kind.EXPLAIN_KW ∷ [], kind.EXPLAIN) ∷
    (kind.FETCH_KW ∷ [], kind.FETCH) ∷
    (kind.MOVE_KW ∷ [], kind.MOVE) ∷
    (kind.CLOSE_KW ∷ [], kind.CLOSE) ∷
    (kind.DECLARE_KW ∷ [], kind.DECLARE) ∷
    (kind.LISTEN_KW ∷ [], kind.LISTEN) ∷
    (kind.NOTIFY_KW ∷ [], kind.NOTIFY) ∷
    (kind.UNLISTEN_KW ∷ [], kind.UNLISTEN) ∷
    (kind.LOAD_KW ∷ [], kind.LOAD) ∷
    (kind.LOCK_KW ∷ [], kind.LOCK) ∷
    (kind.SHOW_KW ∷ [], kind.SHOW) ∷
    (kind.VACUUM_KW ∷ [], kind.VACUUM) ∷
    (kind.ANALYZE_KW ∷ [], kind.ANALYZE) ∷
    (kind.CLUSTER_KW ∷ [], kind.CLUSTER) ∷
    (kind.REINDEX_KW ∷ [], kind.REINDEX) ∷
    (kind.REPACK_KW ∷ [], kind.REPACK) ∷
    (kind.REFRESH_KW ∷ [], kind.REFRESH) ∷
    (kind.DISCARD_KW ∷ [], kind.DISCARD) ∷
    (kind.DEALLOCATE_KW ∷ [], kind.DEALLOCATE) ∷
    (kind.CHECKPOINT_KW ∷ [], kind.CHECKPOINT) ∷
    (kind.TRUNCATE_KW ∷ [], kind.TRUNCATE) ∷
    (kind.GRANT_KW ∷ [], kind.GRANT) ∷
    (kind.REVOKE_KW ∷ [], kind.REVOKE) ∷
    (kind.REASSIGN_KW ∷ [], kind.REASSIGN) ∷
    (kind.BEGIN_KW ∷ [], kind.BEGIN) ∷
    (kind.PREPARE_KW ∷ kind.TRANSACTION_KW ∷ [], kind.PREPARE_TRANSACTION) ∷
    (kind.PREPARE_KW ∷ [], kind.PREPARE) ∷
    (kind.SET_KW ∷ kind.SESSION_KW ∷ kind.AUTHORIZATION_KW ∷ [], kind.SET_SESSION_AUTH) ∷
    (kind.SET_KW ∷ kind.CONSTRAINTS_KW ∷ [], kind.SET_CONSTRAINTS) ∷
    (kind.SET_KW ∷ kind.ROLE_KW ∷ [], kind.SET_ROLE) ∷
    (kind.SET_KW ∷ kind.TRANSACTION_KW ∷ [], kind.SET_TRANSACTION) ∷
    (kind.SET_KW ∷ [], kind.SET) ∷
    (kind.RESET_KW ∷ [], kind.RESET) ∷
    (kind.L_PAREN ∷ [], kind.PAREN_SELECT) ∷
    (kind.ANALYSE_KW ∷ [], kind.ANALYZE) ∷
    (kind.COMMIT_KW ∷ kind.PREPARED_KW ∷ [], kind.COMMIT_PREPARED) ∷
    (kind.COMMIT_KW ∷ [], kind.COMMIT_TRANSACTION) ∷
    (kind.END_KW ∷ [], kind.COMMIT_TRANSACTION) ∷
    (kind.ABORT_KW ∷ [], kind.ROLLBACK_TRANSACTION) ∷
    (kind.ROLLBACK_KW ∷ kind.PREPARED_KW ∷ [], kind.ROLLBACK_PREPARED) ∷
    (kind.ROLLBACK_KW ∷ kind.TO_KW ∷ [], kind.ROLLBACK_TO_SAVEPOINT) ∷
    (kind.ROLLBACK_KW ∷ [], kind.ROLLBACK_TRANSACTION) ∷
    (kind.SAVEPOINT_KW ∷ [], kind.SAVEPOINT_CREATE) ∷
    (kind.RELEASE_KW ∷ [], kind.RELEASE_SAVEPOINT) ∷
    (kind.COMMENT_KW ∷ [], kind.COMMENT_ON) ∷
    (kind.START_KW ∷ kind.TRANSACTION_KW ∷ [], kind.BEGIN) ∷
    (kind.SECURITY_KW ∷ kind.LABEL_KW ∷ [], kind.SECURITY_LABEL) ∷
    (kind.IMPORT_KW ∷ kind.FOREIGN_KW ∷ kind.SCHEMA_KW ∷ [], kind.IMPORT_FOREIGN_SCHEMA) ∷
    []

-- the rows of `CREATE`
unfoldable pub create_rows : List Row
create_rows =
    (kind.CREATE_KW ∷ kind.DEFAULT_KW ∷ kind.CONVERSION_KW ∷ [], kind.CREATE_CONVERSION) ∷
    (kind.CREATE_KW ∷ kind.AGGREGATE_KW ∷ [], kind.CREATE_AGGREGATE) ∷
    (kind.CREATE_KW ∷ kind.COLLATION_KW ∷ [], kind.CREATE_COLLATION) ∷
    (kind.CREATE_KW ∷ kind.CONVERSION_KW ∷ [], kind.CREATE_CONVERSION) ∷
    (kind.CREATE_KW ∷ kind.DATABASE_KW ∷ [], kind.CREATE_DATABASE) ∷
    (kind.CREATE_KW ∷ kind.DOMAIN_KW ∷ [], kind.CREATE_DOMAIN) ∷
    (kind.CREATE_KW ∷ kind.EVENT_KW ∷ kind.TRIGGER_KW ∷ [], kind.CREATE_EVENT_TRIGGER) ∷
    (kind.CREATE_KW ∷ kind.EXTENSION_KW ∷ [], kind.CREATE_EXTENSION) ∷
    (kind.CREATE_KW ∷ foreign_data_wrapper, kind.CREATE_FOREIGN_DATA_WRAPPER) ∷
    (kind.CREATE_KW ∷ kind.FOREIGN_KW ∷ kind.TABLE_KW ∷ [], kind.CREATE_FOREIGN_TABLE) ∷
    (kind.CREATE_KW ∷ kind.FUNCTION_KW ∷ [], kind.CREATE_FUNCTION) ∷
    (kind.CREATE_KW ∷ kind.GROUP_KW ∷ [], kind.CREATE_GROUP) ∷
    (kind.CREATE_KW ∷ kind.INDEX_KW ∷ [], kind.CREATE_INDEX) ∷
    (kind.CREATE_KW ∷ kind.LANGUAGE_KW ∷ [], kind.CREATE_LANGUAGE) ∷
    (kind.CREATE_KW ∷ kind.MATERIALIZED_KW ∷ kind.VIEW_KW ∷ [], kind.CREATE_MATERIALIZED_VIEW) ∷
    (kind.CREATE_KW ∷ kind.OPERATOR_KW ∷ kind.CLASS_KW ∷ [], kind.CREATE_OPERATOR_CLASS) ∷
    (kind.CREATE_KW ∷ kind.OPERATOR_KW ∷ kind.FAMILY_KW ∷ [], kind.CREATE_OPERATOR_FAMILY) ∷
    (kind.CREATE_KW ∷ kind.OPERATOR_KW ∷ [], kind.CREATE_OPERATOR) ∷
    (kind.CREATE_KW ∷ kind.POLICY_KW ∷ [], kind.CREATE_POLICY) ∷
    (kind.CREATE_KW ∷ kind.PROCEDURE_KW ∷ [], kind.CREATE_PROCEDURE) ∷
    (kind.CREATE_KW ∷ kind.PROPERTY_KW ∷ kind.GRAPH_KW ∷ [], kind.CREATE_PROPERTY_GRAPH) ∷
    (kind.CREATE_KW ∷ kind.PUBLICATION_KW ∷ [], kind.CREATE_PUBLICATION) ∷
    (kind.CREATE_KW ∷ kind.ROLE_KW ∷ [], kind.CREATE_ROLE) ∷
    (kind.CREATE_KW ∷ kind.RULE_KW ∷ [], kind.CREATE_RULE) ∷
    (kind.CREATE_KW ∷ kind.SCHEMA_KW ∷ [], kind.CREATE_SCHEMA) ∷
    (kind.CREATE_KW ∷ kind.SEQUENCE_KW ∷ [], kind.CREATE_SEQUENCE) ∷
    (kind.CREATE_KW ∷ kind.SERVER_KW ∷ [], kind.CREATE_SERVER) ∷
    (kind.CREATE_KW ∷ kind.STATISTICS_KW ∷ [], kind.CREATE_STATISTICS) ∷
    (kind.CREATE_KW ∷ kind.SUBSCRIPTION_KW ∷ [], kind.CREATE_SUBSCRIPTION) ∷
    (kind.CREATE_KW ∷ kind.TABLE_KW ∷ [], kind.CREATE_TABLE) ∷
    (kind.CREATE_KW ∷ kind.TABLESPACE_KW ∷ [], kind.CREATE_TABLESPACE) ∷
    (kind.CREATE_KW ∷ kind.TRIGGER_KW ∷ [], kind.CREATE_TRIGGER) ∷
    (kind.CREATE_KW ∷ kind.TYPE_KW ∷ [], kind.CREATE_TYPE) ∷
    (kind.CREATE_KW ∷ kind.USER_KW ∷ kind.MAPPING_KW ∷ [], kind.CREATE_USER_MAPPING) ∷
    (kind.CREATE_KW ∷ kind.USER_KW ∷ [], kind.CREATE_USER) ∷
    (kind.CREATE_KW ∷ kind.VIEW_KW ∷ [], kind.CREATE_VIEW) ∷
    (kind.CREATE_KW ∷ text_search kind.CONFIGURATION_KW, kind.CREATE_TEXT_SEARCH_CONFIGURATION) ∷
    (kind.CREATE_KW ∷ text_search kind.DICTIONARY_KW, kind.CREATE_TEXT_SEARCH_DICTIONARY) ∷
    (kind.CREATE_KW ∷ text_search kind.PARSER_KW, kind.CREATE_TEXT_SEARCH_PARSER) ∷
    (kind.CREATE_KW ∷ text_search kind.TEMPLATE_KW, kind.CREATE_TEXT_SEARCH_TEMPLATE) ∷
    (kind.CREATE_KW ∷ kind.ACCESS_KW ∷ kind.METHOD_KW ∷ [], kind.CREATE_ACCESS_METHOD) ∷
    (kind.CREATE_KW ∷ kind.CAST_KW ∷ [], kind.CREATE_CAST) ∷
    (kind.CREATE_KW ∷ kind.TRANSFORM_KW ∷ [], kind.CREATE_TRANSFORM) ∷
    []

-- the rows of `ALTER`
unfoldable pub alter_rows : List Row
alter_rows =
    (kind.ALTER_KW ∷ kind.PROCEDURAL_KW ∷ kind.LANGUAGE_KW ∷ [], kind.ALTER_LANGUAGE) ∷
    (kind.ALTER_KW ∷ kind.AGGREGATE_KW ∷ [], kind.ALTER_AGGREGATE) ∷
    (kind.ALTER_KW ∷ kind.COLLATION_KW ∷ [], kind.ALTER_COLLATION) ∷
    (kind.ALTER_KW ∷ kind.CONVERSION_KW ∷ [], kind.ALTER_CONVERSION) ∷
    (kind.ALTER_KW ∷ kind.DATABASE_KW ∷ [], kind.ALTER_DATABASE) ∷
    (kind.ALTER_KW ∷ kind.DOMAIN_KW ∷ [], kind.ALTER_DOMAIN) ∷
    (kind.ALTER_KW ∷ kind.EVENT_KW ∷ kind.TRIGGER_KW ∷ [], kind.ALTER_EVENT_TRIGGER) ∷
    (kind.ALTER_KW ∷ kind.EXTENSION_KW ∷ [], kind.ALTER_EXTENSION) ∷
    (kind.ALTER_KW ∷ foreign_data_wrapper, kind.ALTER_FOREIGN_DATA_WRAPPER) ∷
    (kind.ALTER_KW ∷ kind.FOREIGN_KW ∷ kind.TABLE_KW ∷ [], kind.ALTER_FOREIGN_TABLE) ∷
    (kind.ALTER_KW ∷ kind.FUNCTION_KW ∷ [], kind.ALTER_FUNCTION) ∷
    (kind.ALTER_KW ∷ kind.GROUP_KW ∷ [], kind.ALTER_GROUP) ∷
    (kind.ALTER_KW ∷ kind.INDEX_KW ∷ [], kind.ALTER_INDEX) ∷
    (kind.ALTER_KW ∷ kind.LANGUAGE_KW ∷ [], kind.ALTER_LANGUAGE) ∷
    (kind.ALTER_KW ∷ kind.MATERIALIZED_KW ∷ kind.VIEW_KW ∷ [], kind.ALTER_MATERIALIZED_VIEW) ∷
    (kind.ALTER_KW ∷ kind.OPERATOR_KW ∷ kind.CLASS_KW ∷ [], kind.ALTER_OPERATOR_CLASS) ∷
    (kind.ALTER_KW ∷ kind.OPERATOR_KW ∷ kind.FAMILY_KW ∷ [], kind.ALTER_OPERATOR_FAMILY) ∷
    (kind.ALTER_KW ∷ kind.OPERATOR_KW ∷ [], kind.ALTER_OPERATOR) ∷
    (kind.ALTER_KW ∷ kind.POLICY_KW ∷ [], kind.ALTER_POLICY) ∷
    (kind.ALTER_KW ∷ kind.PROCEDURE_KW ∷ [], kind.ALTER_PROCEDURE) ∷
    (kind.ALTER_KW ∷ kind.PROPERTY_KW ∷ kind.GRAPH_KW ∷ [], kind.ALTER_PROPERTY_GRAPH) ∷
    (kind.ALTER_KW ∷ kind.PUBLICATION_KW ∷ [], kind.ALTER_PUBLICATION) ∷
    (kind.ALTER_KW ∷ kind.ROLE_KW ∷ [], kind.ALTER_ROLE) ∷
    (kind.ALTER_KW ∷ kind.RULE_KW ∷ [], kind.ALTER_RULE) ∷
    (kind.ALTER_KW ∷ kind.SCHEMA_KW ∷ [], kind.ALTER_SCHEMA) ∷
    (kind.ALTER_KW ∷ kind.SEQUENCE_KW ∷ [], kind.ALTER_SEQUENCE) ∷
    (kind.ALTER_KW ∷ kind.SERVER_KW ∷ [], kind.ALTER_SERVER) ∷
    (kind.ALTER_KW ∷ kind.STATISTICS_KW ∷ [], kind.ALTER_STATISTICS) ∷
    (kind.ALTER_KW ∷ kind.SUBSCRIPTION_KW ∷ [], kind.ALTER_SUBSCRIPTION) ∷
    (kind.ALTER_KW ∷ kind.TABLE_KW ∷ [], kind.ALTER_TABLE) ∷
    (kind.ALTER_KW ∷ kind.TABLESPACE_KW ∷ [], kind.ALTER_TABLESPACE) ∷
    (kind.ALTER_KW ∷ kind.TRIGGER_KW ∷ [], kind.ALTER_TRIGGER) ∷
    (kind.ALTER_KW ∷ kind.TYPE_KW ∷ [], kind.ALTER_TYPE) ∷
    (kind.ALTER_KW ∷ kind.USER_KW ∷ kind.MAPPING_KW ∷ [], kind.ALTER_USER_MAPPING) ∷
    (kind.ALTER_KW ∷ kind.USER_KW ∷ [], kind.ALTER_USER) ∷
    (kind.ALTER_KW ∷ kind.VIEW_KW ∷ [], kind.ALTER_VIEW) ∷
    (kind.ALTER_KW ∷ text_search kind.CONFIGURATION_KW, kind.ALTER_TEXT_SEARCH_CONFIGURATION) ∷
    (kind.ALTER_KW ∷ text_search kind.DICTIONARY_KW, kind.ALTER_TEXT_SEARCH_DICTIONARY) ∷
    (kind.ALTER_KW ∷ text_search kind.PARSER_KW, kind.ALTER_TEXT_SEARCH_PARSER) ∷
    (kind.ALTER_KW ∷ text_search kind.TEMPLATE_KW, kind.ALTER_TEXT_SEARCH_TEMPLATE) ∷
    (kind.ALTER_KW ∷ kind.DEFAULT_KW ∷ kind.PRIVILEGES_KW ∷ [], kind.ALTER_DEFAULT_PRIVILEGES) ∷
    (kind.ALTER_KW ∷ kind.LARGE_KW ∷ kind.OBJECT_KW ∷ [], kind.ALTER_LARGE_OBJECT) ∷
    (kind.ALTER_KW ∷ kind.ROUTINE_KW ∷ [], kind.ALTER_ROUTINE) ∷
    (kind.ALTER_KW ∷ kind.SYSTEM_KW ∷ [], kind.ALTER_SYSTEM) ∷
    []

-- the rows of `DROP`
unfoldable pub drop_rows : List Row
drop_rows =
    (kind.DROP_KW ∷ kind.PROCEDURAL_KW ∷ kind.LANGUAGE_KW ∷ [], kind.DROP_LANGUAGE) ∷
    (kind.DROP_KW ∷ kind.AGGREGATE_KW ∷ [], kind.DROP_AGGREGATE) ∷
    (kind.DROP_KW ∷ kind.COLLATION_KW ∷ [], kind.DROP_COLLATION) ∷
    (kind.DROP_KW ∷ kind.CONVERSION_KW ∷ [], kind.DROP_CONVERSION) ∷
    (kind.DROP_KW ∷ kind.DATABASE_KW ∷ [], kind.DROP_DATABASE) ∷
    (kind.DROP_KW ∷ kind.DOMAIN_KW ∷ [], kind.DROP_DOMAIN) ∷
    (kind.DROP_KW ∷ kind.EVENT_KW ∷ kind.TRIGGER_KW ∷ [], kind.DROP_EVENT_TRIGGER) ∷
    (kind.DROP_KW ∷ kind.EXTENSION_KW ∷ [], kind.DROP_EXTENSION) ∷
    (kind.DROP_KW ∷ foreign_data_wrapper, kind.DROP_FOREIGN_DATA_WRAPPER) ∷
    (kind.DROP_KW ∷ kind.FOREIGN_KW ∷ kind.TABLE_KW ∷ [], kind.DROP_FOREIGN_TABLE) ∷
    (kind.DROP_KW ∷ kind.FUNCTION_KW ∷ [], kind.DROP_FUNCTION) ∷
    (kind.DROP_KW ∷ kind.GROUP_KW ∷ [], kind.DROP_GROUP) ∷
    (kind.DROP_KW ∷ kind.INDEX_KW ∷ [], kind.DROP_INDEX) ∷
    (kind.DROP_KW ∷ kind.LANGUAGE_KW ∷ [], kind.DROP_LANGUAGE) ∷
    (kind.DROP_KW ∷ kind.MATERIALIZED_KW ∷ kind.VIEW_KW ∷ [], kind.DROP_MATERIALIZED_VIEW) ∷
    (kind.DROP_KW ∷ kind.OPERATOR_KW ∷ kind.CLASS_KW ∷ [], kind.DROP_OPERATOR_CLASS) ∷
    (kind.DROP_KW ∷ kind.OPERATOR_KW ∷ kind.FAMILY_KW ∷ [], kind.DROP_OPERATOR_FAMILY) ∷
    (kind.DROP_KW ∷ kind.OPERATOR_KW ∷ [], kind.DROP_OPERATOR) ∷
    (kind.DROP_KW ∷ kind.POLICY_KW ∷ [], kind.DROP_POLICY) ∷
    (kind.DROP_KW ∷ kind.PROCEDURE_KW ∷ [], kind.DROP_PROCEDURE) ∷
    (kind.DROP_KW ∷ kind.PROPERTY_KW ∷ kind.GRAPH_KW ∷ [], kind.DROP_PROPERTY_GRAPH) ∷
    (kind.DROP_KW ∷ kind.PUBLICATION_KW ∷ [], kind.DROP_PUBLICATION) ∷
    (kind.DROP_KW ∷ kind.ROLE_KW ∷ [], kind.DROP_ROLE) ∷
    (kind.DROP_KW ∷ kind.RULE_KW ∷ [], kind.DROP_RULE) ∷
    (kind.DROP_KW ∷ kind.SCHEMA_KW ∷ [], kind.DROP_SCHEMA) ∷
    (kind.DROP_KW ∷ kind.SEQUENCE_KW ∷ [], kind.DROP_SEQUENCE) ∷
    (kind.DROP_KW ∷ kind.SERVER_KW ∷ [], kind.DROP_SERVER) ∷
    (kind.DROP_KW ∷ kind.STATISTICS_KW ∷ [], kind.DROP_STATISTICS) ∷
    (kind.DROP_KW ∷ kind.SUBSCRIPTION_KW ∷ [], kind.DROP_SUBSCRIPTION) ∷
    (kind.DROP_KW ∷ kind.TABLE_KW ∷ [], kind.DROP_TABLE) ∷
    (kind.DROP_KW ∷ kind.TABLESPACE_KW ∷ [], kind.DROP_TABLESPACE) ∷
    (kind.DROP_KW ∷ kind.TRIGGER_KW ∷ [], kind.DROP_TRIGGER) ∷
    (kind.DROP_KW ∷ kind.TYPE_KW ∷ [], kind.DROP_TYPE) ∷
    (kind.DROP_KW ∷ kind.USER_KW ∷ kind.MAPPING_KW ∷ [], kind.DROP_USER_MAPPING) ∷
    (kind.DROP_KW ∷ kind.USER_KW ∷ [], kind.DROP_USER) ∷
    (kind.DROP_KW ∷ kind.VIEW_KW ∷ [], kind.DROP_VIEW) ∷
    (kind.DROP_KW ∷ text_search kind.CONFIGURATION_KW, kind.DROP_TEXT_SEARCH_CONFIG) ∷
    (kind.DROP_KW ∷ text_search kind.DICTIONARY_KW, kind.DROP_TEXT_SEARCH_DICT) ∷
    (kind.DROP_KW ∷ text_search kind.PARSER_KW, kind.DROP_TEXT_SEARCH_PARSER) ∷
    (kind.DROP_KW ∷ text_search kind.TEMPLATE_KW, kind.DROP_TEXT_SEARCH_TEMPLATE) ∷
    (kind.DROP_KW ∷ kind.ACCESS_KW ∷ kind.METHOD_KW ∷ [], kind.DROP_ACCESS_METHOD) ∷
    (kind.DROP_KW ∷ kind.CAST_KW ∷ [], kind.DROP_CAST) ∷
    (kind.DROP_KW ∷ kind.TRANSFORM_KW ∷ [], kind.DROP_TRANSFORM) ∷
    (kind.DROP_KW ∷ kind.OWNED_KW ∷ [], kind.DROP_OWNED) ∷
    (kind.DROP_KW ∷ kind.ROUTINE_KW ∷ [], kind.DROP_ROUTINE) ∷
    []

-- the whole table
unfoldable pub rows : List Row
rows = other_rows ++ create_rows ++ alter_rows ++ drop_rows

-- the kinds that may stand between `CREATE` and the kind of object that is created
unfoldable pub modifiers : List ℕ
modifiers =
    kind.OR_KW ∷ kind.REPLACE_KW ∷ kind.TEMP_KW ∷ kind.TEMPORARY_KW ∷ kind.GLOBAL_KW ∷
    kind.LOCAL_KW ∷ kind.UNLOGGED_KW ∷ kind.UNIQUE_KW ∷ kind.TRUSTED_KW ∷ kind.PROCEDURAL_KW ∷
    kind.RECURSIVE_KW ∷ kind.CONSTRAINT_KW ∷ []

-- whether a kind is one of these
unfoldable pub is_modifier : ℕ → Bool
is_modifier k = list_any (λ m. k == m) modifiers

-- the kinds that decide: without the longest run of modifiers after a first `CREATE`
abbrev pub key : List ℕ → List ℕ
key [] = []
key (k ∷ ks) = k ∷ (if k == kind.CREATE_KW then drop (prefix_len is_modifier ks) ks else ks)

-- whether the second list begins with the first
abbrev pub is_prefix : List ℕ → List ℕ → Bool
is_prefix [] ks = true
is_prefix (r ∷ rs) [] = false
is_prefix (r ∷ rs) (k ∷ ks) = r == k && is_prefix rs ks

-- the longer of two rows; the first if they are equally long
abbrev pub longer : Option Row → Option Row → Option Row
longer None other = other
longer (Some row) None = Some row
longer (Some row) (Some other) = if nat_lt (length row.0) (length other.0) then Some other
    else Some row

-- the longest of some rows that is a prefix of the kinds
abbrev pub longest : List Row → List ℕ → Option Row
longest [] ks = None
longest (row ∷ others) ks =
    longer (if is_prefix row.0 ks then Some row else None) (longest others ks)

-- whether a row of the table is a prefix of the key of these kinds
abbrev pub has_row : List ℕ → Bool
has_row ks = list_any (λ (row : Row). is_prefix row.0 (key ks)) rows

-- the node of a statement of these kinds, without trivia; none if no row is a prefix of its key
unfoldable pub opening_of : List ℕ → Option ℕ
opening_of ks = option_map (λ (row : Row). row.1) (longest rows (key ks))

-- the node of a statement of these kinds, without trivia; `ERROR` if no row is a prefix of its key
abbrev pub statement_node : List ℕ → ℕ
statement_node ks = unwrap_or (opening_of ks) kind.ERROR
