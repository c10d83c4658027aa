-- What parses of texts and of tokens return: the facts that each call hands on to its caller.
use Rattle.std.specs.Prelude.{◌≡◌, ℕ, ◌<◌, ◌↔◌, List, Result, IfOk, IfErr, IsErrOf, length, map}
use Rattle.std.specs.Str.{chars}
use Rattle.squawk_events.specs.Limit.{limit}
use Rattle.squawk_events.specs.Refusals.{MayRefuse}
use Rattle.squawk_events.specs.declared.error.FrontError.{FrontError}
use Rattle.squawk_events.specs.declared.error.FrontError.TheVariants.{TooLong}
use Rattle.squawk_events.specs.declared.steps.Step.{Step}
use Rattle.squawk_lexed.specs.LexedText.{LexedText}
use Rattle.squawk_lexer.specs.Cut.{tokens, token_ends}
use Rattle.squawk_lexer.specs.declared.token.Strings.{Strings}
use Rattle.squawk_statements.specs.Children.{children}
use Rattle.squawk_statements.specs.declared.division.Division.{Division}
use Rattle.squawk_tree.specs.Join.{children_of, join}
use Rattle.squawk_tree.specs.ParseOf.{roles_of, token_steps, parse_by, parse_of}
use Rattle.squawk_tree.specs.Steps.{leaves, only_tokens, ranges_through, root_children, root_child}
use Rattle.squawk_tree.specs.Tree.{Tree, IsTree}

-- the result of a parse of a text with its tokens, by a grammar whose output for a list of kinds is
-- `told`
pub record ParsesTokens (told : List ℕ → List Step) (lexed : LexedText)
    (result : Result Tree FrontError) : Type 0 where
  -- the tree and its errors are those of the grammar's output over the tokens
  pub tree : IfOk result (λ parse. parse ≡ parse_by told lexed.tokens)
  -- it is balanced, its tokens cover the text, and its errors lie in it
  pub lawful : IfOk result IsTree
  -- its leaves are the tokens, with their kinds and ranges
  pub leaves : IfOk result (λ parse. only_tokens parse.steps ≡ token_steps 0 lexed.tokens)
  -- its length is that of the text
  pub len : IfOk result (λ parse. parse.len ≡ length lexed.text)

-- the result of a parse of a text into statements
pub record ParsesText (strings : Strings) (division : Division) (text : List ℕ)
    (result : Result Tree FrontError) : Type 0 where
  -- the tree and its errors are those that the text has
  pub tree : IfOk result (λ tree. tree ≡ parse_of strings division text)
  -- each child of the root is built from its own tokens alone
  pub joined : IfOk result (λ tree. tree ≡ join (children_of strings division text))
  -- it is balanced, its tokens cover the text, and its errors lie in it
  pub lawful : IfOk result IsTree
  -- its leaves are the tokens of the text
  pub leaves : IfOk result (λ tree. leaves tree.steps
      ≡ ranges_through 0 (token_ends 0 (tokens strings (chars text))))
  -- its root's children are those of the division of the tokens
  pub children : IfOk result (λ tree. root_children tree.steps
      ≡ map root_child (children division (roles_of (tokens strings (chars text)))))
  -- its length is that of the text
  pub len : IfOk result (λ tree. tree.len ≡ length text)
  -- exactly a text above the limit is refused as too long
  pub too_long : IsErrOf result TooLong ↔ (limit < length text)
  -- nothing else is refused, but for lack of memory
  pub refusals : IfErr result (MayRefuse text)
