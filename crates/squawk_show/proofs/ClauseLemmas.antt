-- The tree with clauses, by the tree without them.
use Rattle.std.proofs.Common.{◌≡◌, ap, sym, ◌∙◌, refl, Bool, true, false, List, [], ◌∷◌, ℕ, map, if◌then◌else◌}
use Rattle.std.specs.Str.{chars}
use Rattle.squawk_clauses.specs.Clauses.{is_clause_node}
use Rattle.squawk_clauses.specs.Laws.{TreeWithoutClauses, ErrorsStay, RootChildrenStay, clause_parse}
use Rattle.squawk_clauses.specs.TreeWithout.{tree_without_clauses, tree_without_from}
use Rattle.squawk_events.specs.declared.steps.StrStep.{StrStep}
use Rattle.squawk_events.specs.declared.steps.StrStep.TheVariants.{Enter, Token, Exit, Error}
use Rattle.squawk_lexer.specs.Cut.{tokens, token_ends}
use Rattle.squawk_lexer.specs.declared.token.Strings.{Strings}
use Rattle.squawk_show.specs.Forms.{clause_parse_under, parse_under}
use Rattle.squawk_show.specs.Run.{AddsClauses, ChildrenAreStatements, IsParsedBy, IsText, LeavesAreTokens}
use Rattle.squawk_show.specs.declared.options.Reading.{Reading}
use Rattle.squawk_statements.specs.Children.{children}
use Rattle.squawk_statements.specs.declared.division.Division.{Division}
use Rattle.squawk_tree.specs.ParseOf.{parse_of, roles_of, tokens_of}
use Rattle.squawk_tree.specs.Steps.{leaves, ranges_through, root_children, root_child}
use Rattle.squawk_tree.specs.Tree.{Tree}

-- steps without the nodes of clauses have the same leaves
leaves_stay : (nodes : List Bool) (xs : List StrStep)
    → leaves (tree_without_from nodes xs) ≡ leaves xs
leaves_stay nodes [] = refl
leaves_stay nodes (Enter kind ∷ xs) = by (is_clause_node kind)
    (leaves_stay (true ∷ nodes) xs) (leaves_stay (false ∷ nodes) xs)
  where
    by : (b : Bool) → leaves (tree_without_from (true ∷ nodes) xs) ≡ leaves xs
        → leaves (tree_without_from (false ∷ nodes) xs) ≡ leaves xs
        → leaves (if b then tree_without_from (true ∷ nodes) xs
        else Enter kind ∷ tree_without_from (false ∷ nodes) xs) ≡ leaves xs
    by true inside outside = inside
    by false inside outside = outside
leaves_stay nodes (Token kind start end ∷ xs) =
    ap (λ rest. (start, end) ∷ rest) (leaves_stay nodes xs)
leaves_stay [] (Exit ∷ xs) = leaves_stay [] xs
leaves_stay (true ∷ nodes) (Exit ∷ xs) = leaves_stay nodes xs
leaves_stay (false ∷ nodes) (Exit ∷ xs) = leaves_stay nodes xs
leaves_stay nodes (Error number at ∷ xs) = leaves_stay nodes xs

-- the tree with clauses is the tree of the text but for the nodes of clauses
pub adds_clauses : TreeWithoutClauses → ErrorsStay → (reading : Reading) (text : List ℕ)
    (tree : Tree) → tree ≡ clause_parse_under reading text → AddsClauses reading text tree
unfolding parse_under clause_parse_under
adds_clauses steps errors reading text tree is = record {
  steps = ap (λ (t : Tree). tree_without_clauses t.steps) is
      ∙ steps reading.division (tokens_of reading.strings text);
  errors = ap (λ (t : Tree). t.errors) is
      ∙ errors reading.division (tokens_of reading.strings text);
}

-- a parse of a text has the tokens of the text
module _ (leaves_are : (strings : Strings) (division : Division) (text : List ℕ)
    → leaves (parse_of strings division text).steps
    ≡ ranges_through 0 (token_ends 0 (tokens strings (chars text))))
    (children_are : (strings : Strings) (division : Division) (text : List ℕ)
    → root_children (parse_of strings division text).steps
    ≡ map root_child (children division (roles_of (tokens strings (chars text)))))
    (without : TreeWithoutClauses) (children_stay : RootChildrenStay) where
  -- the tree with clauses of bytes that are a text
  pub is_clause_parse : (reading : Reading) (text : List ℕ) (tree : Tree) → IsText text
      → tree ≡ clause_parse reading.division (tokens_of reading.strings text)
      → IsParsedBy clause_parse_under reading text tree
  unfolding clause_parse_under LeavesAreTokens ChildrenAreStatements
  is_clause_parse reading text tree valid is = record {
    text = valid;
    parsed = is;
    leaves = ap (λ (t : Tree). leaves t.steps) is
        ∙ sym (leaves_stay [] (clause_parse_under reading text).steps)
        ∙ ap leaves (without reading.division (tokens_of reading.strings text))
        ∙ leaves_are reading.strings reading.division text;
    children = ap (λ (t : Tree). root_children t.steps) is
        ∙ children_stay reading.division (tokens_of reading.strings text)
        ∙ children_are reading.strings reading.division text;
  }
