use Rattle.squawk_squeeze.proofs.TokenLaws as laws
use Rattle.squawk_squeeze.proofs.laws.text_tokens_are_the_tokens.Goals as goal

pub returns-clause-lexer : goal.returns-clause-lexer
returns-clause-lexer c = laws.are_lexer_tokens

pub returns-clause-texts : goal.returns-clause-texts
returns-clause-texts c = laws.texts_add_up c.tokens_progress.ensures.some
