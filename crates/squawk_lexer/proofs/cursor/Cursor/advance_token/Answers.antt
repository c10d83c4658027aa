use Rattle.std.proofs.Common.{sym, ◌∙◌}
use Rattle.squawk_lexer.specs.declared.forms.TokenForm.TheVariants.{String}
use Rattle.squawk_lexer.proofs.Steps.{after_within}
use Rattle.squawk_lexer.proofs.FormSteps.{form_lexeme}
use Rattle.squawk_lexer.proofs.cursor.Cursor.advance_token.Goals as goal

pub returns-in-String-clause-lexeme : goal.returns-in-String-clause-lexeme
returns-in-String-clause-lexeme c =
    let is_row = form_lexeme c.args.strings c.args.self.now.text String (sym c.in-String.is
    ∙ c.next_token_form.ensures) in
    rw (
      c.literal.ensures,
      c.quoted_text-terminated.ensures.terminated,
      c.quoted_text-terminated.ensures.at,
      c.has_escapes.ensures,
      c.bump-in-String.ensures.text,
      c.bump-in-String.ensures.at,
      c.requires.at,
      after_within c.args.self.now.text 0 c.requires.not_empty,
    ) (sym is_row)
