-- The children that a plain front tells are those of the parse.
use Rattle.std.proofs.Common.{◌≡◌, ℕ, zero, suc, ◌-◌, true, List, [], ◌∷◌, take, map, refl, sym, ap, ◌∙◌}
use Rattle.std.proofs.lemmas.List.{take-map}
use Rattle.std.specs.Str.{chars, IsUtf8}
use Rattle.squawk_cut.specs.ChildValue.{child_tree}
use Rattle.squawk_cut.specs.Children.{text_tokens, children_from, children_of}
use Rattle.squawk_cut.specs.Join.{join_of}
use Rattle.squawk_cut.specs.PlainTells.{lexed_of, plain_child, plain_tells}
use Rattle.squawk_cut.specs.Tells.{TextToken}
use Rattle.squawk_cut.specs.Tokens.{tokens_of}
use Rattle.squawk_lexed.specs.LexedText.{CutTokensAreSound, are_sound}
use Rattle.squawk_lexed.specs.LexedToken.{LexedToken, lexed_role}
use Rattle.squawk_lexer.specs.Cut.{tokens}
use Rattle.squawk_lexer.specs.Flags.{TokensAreCut}
use Rattle.squawk_lexer.specs.LookAhead.{TextsProgress, TextsRestart}
use Rattle.squawk_lexer.specs.declared.token.Strings.{Strings}
use Rattle.squawk_statements.specs.Children.{first_child, parts, parts_from}
use Rattle.squawk_statements.specs.declared.division.Division.{Division}
use Rattle.squawk_tree.specs.Join as tree
use Rattle.squawk_tree.specs.ParseOf as parse
use Rattle.squawk_cut.proofs.LexedLemmas.{lexed_same, roles_same}
use Rattle.squawk_cut.proofs.PlainTokens.{plain_tokens}

-- children of tokens, the first `inside` of which belong to a child before them
children_same : (strings : Strings) (d : Division) (inside : ℕ) (xs : List TextToken)
    → map child_tree (children_from (plain_tells strings d) inside xs)
    ≡ map (tree.child_of d) (parts_from lexed_role inside d (map lexed_of xs))
children_same strings d inside [] = refl
children_same strings d (suc inside) (x ∷ xs) = children_same strings d inside xs
children_same strings d zero (x ∷ xs) =
    let all = x ∷ xs in
    let n = (plain_child d all).tokens in
    let m = (first_child d (map lexed_role (map lexed_of all))).tokens in
    let same : n ≡ m = ap (λ roles. (first_child d roles).tokens) (sym (roles_same all)) in
    ap (λ k. tree.child_of d (map lexed_of (take k all))
    ∷ map child_tree (children_from (plain_tells strings d) (k - 1) xs)) same
    ∙ ap (λ own. tree.child_of d own
    ∷ map child_tree (children_from (plain_tells strings d) (m - 1) xs))
    (sym (take-map lexed_of m all))
    ∙ ap (λ cs. tree.child_of d (take m (map lexed_of all)) ∷ cs)
    (children_same strings d (m - 1) xs)

-- the law that the parse of tokens is the join of its children
abbrev pub ChildrenJoin : Type 0
ChildrenJoin = (d : Division) (ts : List LexedToken) → are_sound ts ≡ true
    → parse.parse_of_tokens d ts ≡ tree.join (map (tree.child_of d) (parts lexed_role d ts))

-- the join of the children that a plain front tells is the parse of the text
pub children_join : TextsProgress → TextsRestart → TokensAreCut → CutTokensAreSound → ChildrenJoin
    → (strings : Strings) (d : Division) (text : List ℕ) → IsUtf8 text
    → join_of (children_of (plain_tells strings d) text) ≡ parse.parse_of strings d text
children_join progress restart cut sound joins strings d text utf8 =
    let ts = tokens strings (chars text) in
    let told : tokens_of (plain_tells strings d) text ≡ ts =
    plain_tokens progress restart strings d true text utf8 in
    let read : parse.tokens_of strings text ≡ map lexed_of (text_tokens text ts) =
    lexed_same text 0 ts in
    ap (λ us. tree.join (map child_tree (children_from (plain_tells strings d) 0
    (text_tokens text us)))) told
    ∙ ap tree.join (children_same strings d 0 (text_tokens text ts))
    ∙ ap (λ us. tree.join (map (tree.child_of d) (parts lexed_role d us))) (sym read)
    ∙ sym (joins d (parse.tokens_of strings text) (sound text 0 ts (cut strings (chars text))))
