use Rattle.squawk_lexer.proofs.AheadTokens.{lexemes_look_ahead, tokens_look_ahead}
use Rattle.squawk_lexer.proofs.AheadBytes.{texts_look_ahead}
use Rattle.squawk_lexer.proofs.laws.tokens_look_ahead.Goals as goal

pub returns-clause-lexemes : goal.returns-clause-lexemes
returns-clause-lexemes c = lexemes_look_ahead

pub returns-clause-tokens : goal.returns-clause-tokens
returns-clause-tokens c = tokens_look_ahead

pub returns-clause-texts : goal.returns-clause-texts
returns-clause-texts c = texts_look_ahead
