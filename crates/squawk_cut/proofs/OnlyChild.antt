-- The only child of a parse of the tokens of a first child.
use Rattle.std.proofs.Common.{◌≡◌, ℕ, zero, suc, ◌+◌, ◌<◌, ◌≤◌, true, List, [], ◌∷◌, ◌++◌, length, take, drop, map, refl, sym, ap, subst, ◌∙◌, arith}
use Rattle.std.proofs.lemmas.List.{append-nil, length-map, length-take-le, take-map}
use Rattle.std.specs.Prelude.{Bool, Option}
use Rattle.squawk_cut.specs.ChildValue.{child_of_tree, steps_in_root}
use Rattle.squawk_cut.specs.Children.{text_tokens}
use Rattle.squawk_cut.specs.PlainTells.{lexed_of, kinds_of, plain_child}
use Rattle.squawk_cut.specs.Tells.{TextToken}
use Rattle.squawk_events.specs.declared.steps.ParseError.{ParseError}
use Rattle.squawk_events.specs.declared.steps.StrStep.{StrStep}
use Rattle.squawk_events.specs.declared.steps.StrStep.TheVariants.{Enter, Token, Exit, Error}
use Rattle.squawk_kinds.specs.declared.numbers.TheConstants.Number.{SOURCE_FILE}
use Rattle.squawk_lexed.specs.LexedText.{CutTokensAreSound, EndAtBoundaries, are_sound}
use Rattle.squawk_lexed.specs.LexedToken.{LexedToken, lexed_role}
use Rattle.squawk_lexer.specs.Flags.{AreCut}
use Rattle.squawk_lexer.specs.declared.token.Token as lexer
use Rattle.squawk_statements.specs.Children.{first_child}
use Rattle.squawk_statements.specs.First.{first_shape, child_node}
use Rattle.squawk_statements.specs.declared.division.Division.{Division}
use Rattle.squawk_statements.specs.declared.first.ChildShape.{ChildShape}
use Rattle.squawk_tree.specs.Children.{ChildrenAreTrees, IsChildOf, node_of_steps, own_tokens}
use Rattle.squawk_tree.specs.Join.{ChildTree, child_of, join, shifted_step, shifted_error}
use Rattle.squawk_tree.specs.ParseOf.{parse_of_tokens}
use Rattle.squawk_tree.specs.Steps.{leaves, root_children}
use Rattle.squawk_tree.specs.Tree.{Tree}
use Rattle.squawk_cut.proofs.LexedLemmas.{lexed_same, take_text_tokens, length_text_tokens, roles_same, kinds_same}
use Rattle.squawk_cut.proofs.RootChild.{child_by, inside, leaves_before_exit, one_root_child}

-- ---- the only child of a joined tree

-- a shift by nothing changes no step, and no error
steps_unshifted : (xs : List StrStep) → map (shifted_step 0) xs ≡ xs
steps_unshifted [] = refl
steps_unshifted (Enter kind ∷ xs) = ap (λ ys. Enter kind ∷ ys) (steps_unshifted xs)
steps_unshifted (Token kind start end ∷ xs) =
    ap (λ m. Token kind m (end + 0) ∷ map (shifted_step 0) xs)
    (let e : start + 0 ≡ start = omega arith in e)
    ∙ ap (λ m. Token kind start m ∷ map (shifted_step 0) xs)
    (let e : end + 0 ≡ end = omega arith in e)
    ∙ ap (λ ys. Token kind start end ∷ ys) (steps_unshifted xs)
steps_unshifted (Exit ∷ xs) = ap (λ ys. Exit ∷ ys) (steps_unshifted xs)
steps_unshifted (Error number at ∷ xs) =
    ap (λ m. Error number m ∷ map (shifted_step 0) xs) (let e : at + 0 ≡ at = omega arith in e)
    ∙ ap (λ ys. Error number at ∷ ys) (steps_unshifted xs)

errors_unshifted : (es : List ParseError) → map (shifted_error 0) es ≡ es
errors_unshifted [] = refl
errors_unshifted (e ∷ es) =
    ap (λ m. record { start = m; end = e.end + 0; number = e.number }
    ∷ map (shifted_error 0) es) (let p : e.start + 0 ≡ e.start = omega arith in p)
    ∙ ap (λ m. record { start = e.start; end = m; number = e.number }
    ∷ map (shifted_error 0) es) (let p : e.end + 0 ≡ e.end = omega arith in p)
    ∙ ap (λ ys. e ∷ ys) (errors_unshifted es)

-- a tree of one child: its steps under a root, and its errors
abbrev alone_in_tree : ChildTree → Tree
alone_in_tree child = record {
  steps = Enter SOURCE_FILE ∷ child.steps ++ Exit ∷ [];
  errors = child.errors;
  len = child.len;
}

-- the join of one child is that tree
join_of_one : (child : ChildTree) → join (child ∷ []) ≡ alone_in_tree child
join_of_one child =
    let steps : map (shifted_step 0) child.steps ++ [] ≡ child.steps =
    append-nil (map (shifted_step 0) child.steps) ∙ steps_unshifted child.steps in
    let errors : map (shifted_error 0) child.errors ++ [] ≡ child.errors =
    append-nil (map (shifted_error 0) child.errors) ∙ errors_unshifted child.errors in
    ap (λ xs. around xs (map (shifted_error 0) child.errors ++ []) (child.len + 0)) steps
    ∙ ap (λ es. around child.steps es (child.len + 0)) errors
    ∙ ap (around child.steps child.errors) (let e : child.len + 0 ≡ child.len = omega arith in e)
  where
    around : List StrStep → List ParseError → ℕ → Tree
    around xs es n = alone_in_tree (record { steps = xs; errors = es; len = n })

-- a child alone in a tree is the only child of that tree
only_of_alone : (child : ChildTree) (closed : Bool) (count : ℕ) (kind : Option ℕ)
    → length (leaves child.steps) ≡ count → node_of_steps child.steps ≡ kind
    → child_of_tree (alone_in_tree child) closed
    ≡ child_by count child.len kind closed child.steps child.errors
only_of_alone child closed count kind count_is node_is =
    let all = Enter SOURCE_FILE ∷ child.steps ++ Exit ∷ [] in
    let own : steps_in_root all ≡ child.steps = inside SOURCE_FILE child.steps in
    ap (λ n. child_by n child.len (node_of_steps (steps_in_root all)) closed (steps_in_root all)
    child.errors) (ap length (leaves_before_exit child.steps) ∙ count_is)
    ∙ ap (λ xs. child_by count child.len (node_of_steps xs) closed xs child.errors) own
    ∙ ap (λ k. child_by count child.len k closed child.steps child.errors) node_is

-- ---- the parse of the tokens of a first child

-- the law that such a parse is that child under a root
abbrev pub ChildrenStandAlone : Type 0
ChildrenStandAlone = (division : Division) (token : LexedToken) (tokens : List LexedToken)
    → are_sound (own_tokens division (token ∷ tokens)) ≡ true
    → parse_of_tokens division (own_tokens division (token ∷ tokens))
    ≡ join (child_of division (own_tokens division (token ∷ tokens)) ∷ [])

-- the tokens of the first child, as a parser reads them
own_same : (d : Division) (xs : List TextToken)
    → map lexed_of (take (first_shape d (kinds_of xs)).tokens xs)
    ≡ own_tokens d (map lexed_of xs)
own_same d xs =
    ap (λ roles. map lexed_of (take (first_child d roles).tokens xs)) (sym (roles_same xs))
    ∙ sym (take-map lexed_of (first_child d (map lexed_role (map lexed_of xs))).tokens xs)

-- the parse has one root child, which is the first child of tokens
pub record IsFirst (d : Division) (xs : List TextToken) (closed : Bool) (parse : Tree) : Type 0
  where
    pub one : length (root_children parse.steps) ≡ 1
    pub value : child_of_tree parse closed ≡ plain_child d xs

-- the parse of the tokens of a first child is that child under a root
first_by : ChildrenStandAlone → ChildrenAreTrees
    → (d : Division) (x : TextToken) (xs : List TextToken)
    (shape : ChildShape) (parse : Tree) → shape ≡ first_shape d (kinds_of (x ∷ xs))
    → parse ≡ parse_of_tokens d (map lexed_of (take shape.tokens (x ∷ xs)))
    → are_sound (own_tokens d (map lexed_of (x ∷ xs))) ≡ true
    → length (take shape.tokens (x ∷ xs)) ≡ shape.tokens → IsFirst d (x ∷ xs) shape.closed parse
first_by alone trees d x xs shape parse shape_is parse_is sound size =
    let all = x ∷ xs in
    let first = first_shape d (kinds_of all) in
    let own = map lexed_of (take first.tokens all) in
    let child = child_of d own in
    let same : own ≡ own_tokens d (map lexed_of all) = own_same d all in
    let tree : parse ≡ alone_in_tree child =
    parse_is
    ∙ ap (λ (s : ChildShape). parse_of_tokens d (map lexed_of (take s.tokens all))) shape_is
    ∙ ap (parse_of_tokens d) same ∙ alone d (lexed_of x) (map lexed_of xs) sound
    ∙ ap (λ ts. join (child_of d ts ∷ [])) (sym same) ∙ join_of_one child in
    let is_child : IsChildOf own child =
    subst (λ ts. IsChildOf ts (child_of d ts)) (sym same)
    (trees d (lexed_of x) (map lexed_of xs) sound) in
    let count : length own ≡ first.tokens =
    length-map (take first.tokens all) lexed_of
    ∙ subst (λ (s : ChildShape). length (take s.tokens all) ≡ s.tokens) shape_is size in
    let node : node_of_steps child.steps ≡ first.node =
    is_child.node ∙ ap child_node (kinds_same (take first.tokens all)
    ∙ sym (take-map (λ (y : TextToken). (lexed_of y).kind) first.tokens all)) in
    record {
      one = ap (λ (t : Tree). length (root_children t.steps)) tree
          ∙ one_root_child child.steps is_child.tree.leaf_or_node;
      value = ap (λ t. child_of_tree t shape.closed) tree
          ∙ only_of_alone child shape.closed first.tokens first.node (is_child.tokens ∙ count) node
          ∙ ap (λ (s : ChildShape). child_by first.tokens child.len first.node s.closed child.steps
          child.errors) shape_is;
    }

-- the first n of tokens that the lexer cut, and that end at character boundaries
pub take_cut : (n : ℕ) (ts : List lexer.Token) → AreCut ts → AreCut (take n ts)
take_cut zero ts cut = tt
take_cut (suc n) [] cut = tt
take_cut (suc n) (t ∷ ts) cut = (cut.0, take_cut n ts cut.1)

pub take_laid : (text : List ℕ) (at n : ℕ) (ts : List lexer.Token) → EndAtBoundaries text at ts
    → EndAtBoundaries text at (take n ts)
take_laid text at zero ts laid = tt
take_laid text at (suc n) [] laid = tt
take_laid text at (suc n) (t ∷ ts) laid = (laid.0, take_laid text (at + t.len) n ts laid.1)

-- the same of tokens that the lexer cut, as they stand in a text
pub first_of_tokens : ChildrenStandAlone → ChildrenAreTrees → CutTokensAreSound → (d : Division)
    (text : List ℕ) (at : ℕ) (tokens : List lexer.Token) (shape : ChildShape) (parse : Tree)
    → 0 < length tokens → AreCut tokens → shape.tokens ≤ length tokens
    → shape ≡ first_shape d (kinds_of (text_tokens (drop at text) tokens))
    → parse ≡ parse_of_tokens d
    (map lexed_of (text_tokens (drop at text) (take shape.tokens tokens)))
    → IsFirst d (text_tokens (drop at text) tokens) shape.closed parse
first_of_tokens alone trees law d text at [] shape parse some cut le shape_is parse_is =
    absurd (omega arith)
first_of_tokens alone trees law d text at (t ∷ ts) shape parse some cut le shape_is parse_is =
    let u = drop at text in
    let own = take shape.tokens (t ∷ ts) in
    let own_text_tokens : text_tokens u own ≡ take shape.tokens (text_tokens u (t ∷ ts)) =
    take_text_tokens u shape.tokens (t ∷ ts) in
    let count : length (text_tokens u (t ∷ ts)) ≡ length (t ∷ ts) = length_text_tokens u (t ∷ ts) in
    let read : map lexed_of (text_tokens u own)
    ≡ own_tokens d (map lexed_of (text_tokens u (t ∷ ts))) =
    ap (map lexed_of) own_text_tokens
    ∙ ap (λ (s : ChildShape). map lexed_of (take s.tokens (text_tokens u (t ∷ ts)))) shape_is
    ∙ own_same d (text_tokens u (t ∷ ts)) in
    let cut_own : AreCut own = take_cut shape.tokens (t ∷ ts) cut in
    let sound : are_sound (own_tokens d (map lexed_of (text_tokens u (t ∷ ts)))) ≡ true =
    ap are_sound (sym read) ∙ ap are_sound (sym (lexed_same text at own)) ∙ law text at own cut_own
    in
    first_by alone trees d (record { token = t; text = take t.len u })
    (text_tokens (drop t.len u) ts)
    shape parse shape_is
    (parse_is ∙ ap (λ xs. parse_of_tokens d (map lexed_of xs)) own_text_tokens) sound
    (length-take-le shape.tokens (text_tokens u (t ∷ ts)) (omega (arith, le, count)))
