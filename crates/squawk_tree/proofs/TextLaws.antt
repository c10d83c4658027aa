-- The parse of a text: its leaves are the tokens of the text, and its root's children those of the
-- division of their roles.
use Rattle.std.proofs.Common.{◌≡◌, ℕ, ◌+◌, ◌<◌, List, [], ◌∷◌, length, map, ap, refl, sym, subst, ◌∙◌}
use Rattle.std.specs.Prelude.{Result, Ok, Err, IfOk, IfErr, IsErrOf, IsTrue, ◌↔◌, slice_range}
use Rattle.std.specs.Str.{chars}
use Rattle.squawk_events.specs.Limit.{limit}
use Rattle.squawk_events.specs.Refusals.{IsOutOfMemory, MayRefuse}
use Rattle.squawk_events.specs.declared.error.FrontError.{FrontError}
use Rattle.squawk_events.specs.declared.error.FrontError.TheVariants.{TooLong, OutOfMemory, BadRange}
use Rattle.squawk_kinds.specs.Role.{role}
use Rattle.squawk_lexed.specs.Leaf.{leaf_kind, token_role}
use Rattle.squawk_lexed.specs.LexedText.{LexedText, are_sound, lexed_text, lexed_tokens}
use Rattle.squawk_lexed.specs.LexedToken.{LexedToken, lexed_role}
use Rattle.squawk_lexer.specs.Cut.{tokens, token_ends}
use Rattle.squawk_lexer.specs.declared.token.Strings.{Strings}
use Rattle.squawk_lexer.specs.declared.token.Token as lexer
use Rattle.squawk_lexer.specs.declared.token.TokenKind.{TokenKind}
use Rattle.squawk_statements.specs.Children.{children, parts}
use Rattle.squawk_statements.specs.Plain.{plain}
use Rattle.squawk_statements.specs.declared.division.Division.{Division}
use Rattle.squawk_tree.specs.Join.{child_of, children_of, join}
use Rattle.squawk_tree.specs.Parses.{ParsesText, ParsesTokens}
use Rattle.squawk_tree.specs.ParseOf.{roles_of, token_steps, tokens_of, parse_of_tokens}
use Rattle.squawk_tree.specs.Steps.{leaves, only_tokens, ranges_through, root_children, root_child}
use Rattle.squawk_tree.specs.Tree.{Tree}
use Rattle.squawk_tree.proofs.TreeLaws.{leaves_only_tokens}

-- a property of the parse holds of a result that is equal to it
pub on_parse : {E : Type 0} (r : Result Tree E) (parse : Tree) (P : Tree → Type 0)
    → IfOk r (λ t. t ≡ parse) → P parse → IfOk r P
on_parse (Ok t) parse P is h = subst P (sym is) h
on_parse (Err e) parse P is h = tt

-- the ranges of the `Token` steps are those of the tokens that the lexer cuts
leaves_token_steps : (text : List ℕ) (at : ℕ) (ts : List lexer.Token)
    → leaves (token_steps at (lexed_tokens text at ts)) ≡ ranges_through at (token_ends at ts)
leaves_token_steps text at [] = refl
leaves_token_steps text at (t ∷ ts) =
    ap (λ rs. (at, at + t.len) ∷ rs) (leaves_token_steps text (at + t.len) ts)

-- the leaves of the parse of a text are the tokens of the text
pub leaves_of_text : {E : Type 0} (r : Result Tree E) (strings : Strings) (text : List ℕ)
    (ts : List LexedToken) → ts ≡ tokens_of strings text
    → IfOk r (λ tree. only_tokens tree.steps ≡ token_steps 0 ts)
    → IfOk r (λ tree. leaves tree.steps
    ≡ ranges_through 0 (token_ends 0 (tokens strings (chars text))))
leaves_of_text (Ok tree) strings text ts ts_are is = sym (leaves_only_tokens tree.steps)
    ∙ ap leaves is ∙ ap (λ us. leaves (token_steps 0 us)) ts_are
    ∙ leaves_token_steps text 0 (tokens strings (chars text))
leaves_of_text (Err e) strings text ts ts_are is = tt

-- a result that can only be out of memory is not too long
never_too_long : (r : Result Tree FrontError) → IfErr r IsOutOfMemory → r ≡ Err TooLong → ⊥
never_too_long (Ok t) h is = cc
never_too_long (Err TooLong) h is = h
never_too_long (Err OutOfMemory) h is = cc
never_too_long (Err BadRange) h is = h

may_refuse : (text : List ℕ) (r : Result Tree FrontError) → IfErr r IsOutOfMemory
    → IfErr r (MayRefuse text)
may_refuse text (Ok t) h = tt
may_refuse text (Err TooLong) h = absurd h
may_refuse text (Err OutOfMemory) h = tt
may_refuse text (Err BadRange) h = absurd h

-- if cutting the text into tokens succeeded, the text is not too long, and neither is the result
still_too_long : {A : Type 0} (l : A) (text : List ℕ) (r : Result Tree FrontError)
    → (IsErrOf {T = A} (Ok l) TooLong ↔ (limit < length text)) → IfErr r IsOutOfMemory
    → (IsErrOf r TooLong ↔ (limit < length text))
still_too_long l text r cut h = (
  λ is. absurd (never_too_long r h is),
  λ long. absurd (no l (cut.1 long)),
)
  where
    no : {A : Type 0} (l : A) → IsErrOf {T = A} (Ok l) TooLong → ⊥
    no l is = cc

-- a token keeps its role as a leaf
module _ (keep : (token : TokenKind) (text : List ℕ) → role (leaf_kind token text)
    ≡ token_role token) where
  roles_lexed : (text : List ℕ) (at : ℕ) (ts : List lexer.Token)
      → map lexed_role (lexed_tokens text at ts) ≡ roles_of ts
  roles_lexed text at [] = refl
  roles_lexed text at (t ∷ ts) =
      ap (λ r. r ∷ map lexed_role (lexed_tokens text (at + t.len) ts))
      (keep t.kind (slice_range text at (at + t.len)))
      ∙ ap (λ rs. token_role t.kind ∷ rs) (roles_lexed text (at + t.len) ts)

  pub children_of_text : {E : Type 0} (r : Result Tree E) (strings : Strings) (division : Division)
      (text : List ℕ) (ts : List LexedToken) → ts ≡ tokens_of strings text
      → ((division : Division) (ts : List LexedToken)
      → root_children (parse_of_tokens division ts).steps
      ≡ map root_child (children division (map lexed_role ts)))
      → IfOk r (λ tree. tree ≡ parse_of_tokens division ts)
      → IfOk r (λ tree. root_children tree.steps
      ≡ map root_child (children division (roles_of (tokens strings (chars text)))))
  children_of_text (Ok tree) strings division text ts ts_are law is =
      ap (λ (t : Tree). root_children t.steps) is ∙ law division ts
      ∙ ap (λ us. map root_child (children division (map lexed_role us))) ts_are
      ∙ ap (λ rs. map root_child (children division rs))
      (roles_lexed text 0 (tokens strings (chars text)))
  children_of_text (Err e) strings division text ts ts_are law is = tt

  -- the parse of the tokens of a text is that of the text
  pub parses_text : (r : Result Tree FrontError) (strings : Strings) (division : Division)
      (text : List ℕ) (lexed : LexedText) → lexed ≡ lexed_text strings text
      → ((division : Division) (ts : List LexedToken)
      → root_children (parse_of_tokens division ts).steps
      ≡ map root_child (children division (map lexed_role ts)))
      → ((division : Division) (ts : List LexedToken) → IsTrue (are_sound ts)
      → parse_of_tokens division ts ≡ join (map (child_of division) (parts lexed_role division ts)))
      → ParsesTokens (plain division) lexed r → IsTrue (are_sound lexed.tokens)
      → (IsErrOf {T = LexedText} (Ok lexed) TooLong ↔ (limit < length text))
      → IfErr r IsOutOfMemory → ParsesText strings division text r
  parses_text r strings division text lexed is law join_law parsed sound cut h =
      let ts_are = ap (λ (l : LexedText). l.tokens) is in
      let tree = subst (λ (l : LexedText). IfOk r (λ t. t ≡ parse_of_tokens division l.tokens)) is
      parsed.tree in
      record {
        tree = tree;
        joined = on_parse r (parse_of_tokens division (tokens_of strings text)) (λ t. t
            ≡ join (children_of strings division text)) tree (join_law division
            (tokens_of strings text) (subst (λ (l : LexedText). IsTrue (are_sound l.tokens)) is
            sound));
        lawful = parsed.lawful;
        leaves = leaves_of_text r strings text lexed.tokens ts_are parsed.leaves;
        children =
            children_of_text r strings division text lexed.tokens ts_are law parsed.tree;
        len = subst (λ (l : LexedText). IfOk r (λ t. t.len ≡ length l.text)) is parsed.len;
        too_long = still_too_long lexed text r cut h;
        refusals = may_refuse text r h;
      }
