use Rattle.squawk_lexer.proofs.UnknownLaws.{unknown_is_control, unknown_is_one_character}
use Rattle.squawk_lexer.proofs.laws.unknown_is_control.Goals as goal

pub returns-clause-exactly : goal.returns-clause-exactly
returns-clause-exactly c = unknown_is_control

pub returns-clause-one : goal.returns-clause-one
returns-clause-one c = unknown_is_one_character
