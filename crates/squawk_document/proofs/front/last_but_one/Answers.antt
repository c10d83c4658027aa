use Rattle.std.proofs.Common.{ℕ, length, sym, ◌∙◌, ap, List, ◌++◌}
use Rattle.std.specs.Char.{encode_utf8}
use Rattle.squawk_document.proofs.FrontSteps.{limit_none, limit_one, limit_two}
use Rattle.squawk_document.proofs.front.last_but_one.Goals as goal

pub returns-in-None : goal.returns-in-None
returns-in-None c = limit_none c.args.text.now (ap length (sym c.chars-chars.ensures.rest)
    ∙ c.in-None.ensures.steps.0)

pub returns-in-None-next_back : goal.returns-in-None-next_back
returns-in-None-next_back c =
    limit_one c.args.text.now _ _ c.utf8.text
    (sym c.chars-chars.ensures.rest ∙ c.in-Some.ensures.steps) c.in-None-next_back.ensures.steps.0

pub returns-in-Some-next_back : goal.returns-in-Some-next_back
returns-in-Some-next_back c =
    limit_two c.args.text.now _ c.as_str.result.now _ _ c.utf8.text c.as_str.utf8
    (sym c.chars-chars.ensures.rest ∙ c.in-Some.ensures.steps)
    (c.in-Some-next_back.ensures.steps
    ∙ ap (λ (w : List ℕ). w ++ encode_utf8 c.in-Some-next_back.field-0) (sym c.as_str.ensures))
