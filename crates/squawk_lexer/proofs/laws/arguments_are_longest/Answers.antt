use Rattle.squawk_lexer.proofs.PsqlArgumentLaws.{arguments_are_longest, arguments_are_one, argument_is_longest, argument_is_one}
use Rattle.squawk_lexer.proofs.laws.arguments_are_longest.Goals as goal

pub returns-clause-all : goal.returns-clause-all
returns-clause-all c = arguments_are_longest

pub returns-clause-only : goal.returns-clause-only
returns-clause-only c = arguments_are_one

pub returns-clause-one : goal.returns-clause-one
returns-clause-one c = argument_is_longest

pub returns-clause-only_one : goal.returns-clause-only_one
returns-clause-only_one c = argument_is_one
