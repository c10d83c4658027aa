-- The tokens of a text, as a front tells them.
use Rattle.std.specs.Prelude.{ℕ, zero, suc, ◌-◌, Bool, true, false, List, [], ◌∷◌}
use Rattle.squawk_lexer.specs.declared.token.Token.{Token}
use Rattle.squawk_cut.specs.Tells.{Tells}

-- The tokens of a text whose first `inside` bytes belong to a token that began before it; `start`
-- says that the whole text begins here.
abbrev pub tokens_from : Tells → ℕ → Bool → List ℕ → List Token
tokens_from t inside start [] = []
tokens_from t zero start (b ∷ bs) = t.token_at start (b ∷ bs)
    ∷ tokens_from t ((t.token_at start (b ∷ bs)).len - 1) false bs
tokens_from t (suc inside) start (b ∷ bs) = tokens_from t inside start bs

-- the tokens of a text
abbrev pub tokens_of : Tells → List ℕ → List Token
tokens_of t text = tokens_from t 0 true text
