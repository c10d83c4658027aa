-- The root children of a list of tokens, as a front tells them.
use Rattle.std.specs.Prelude.{ℕ, zero, suc, ◌-◌, List, [], ◌∷◌, take, drop}
use Rattle.squawk_lexer.specs.declared.token.Token.{Token}
use Rattle.squawk_cut.specs.ChildValue.{ChildValue}
use Rattle.squawk_cut.specs.Tells.{Tells, TextToken}
use Rattle.squawk_cut.specs.Tokens.{tokens_of}

-- tokens that follow one another from the start of a text, with their texts
abbrev pub text_tokens : List ℕ → List Token → List TextToken
text_tokens text [] = []
text_tokens text (t ∷ ts) =
    record { token = t; text = take t.len text } ∷ text_tokens (drop t.len text) ts

-- the children of tokens, the first `inside` of which belong to a child that began before them
abbrev pub children_from : Tells → ℕ → List TextToken → List ChildValue
children_from t inside [] = []
children_from t zero (x ∷ xs) =
    t.child_at (x ∷ xs) ∷ children_from t ((t.child_at (x ∷ xs)).tokens - 1) xs
children_from t (suc inside) (x ∷ xs) = children_from t inside xs

-- the root children of a text
abbrev pub children_of : Tells → List ℕ → List ChildValue
children_of t text = children_from t 0 (text_tokens text (tokens_of t text))
