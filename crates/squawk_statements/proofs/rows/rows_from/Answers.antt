use Rattle.std.proofs.Common.{sym, subst, arith}
use Rattle.squawk_statements.specs.Opening.{other_rows, create_rows, alter_rows, drop_rows}
use Rattle.squawk_statements.specs.Rows.{FirstMatchIsLongest}
use Rattle.squawk_statements.proofs.Tables.{decide_create, decide_alter, decide_drop, decide_other}
use Rattle.squawk_statements.proofs.rows.rows_from.Goals as goal

pub returns-in-119 : goal.returns-in-119
unfolding create_rows
returns-in-119 c = subst (λ k. FirstMatchIsLongest k create_rows) (sym c.in-119.is) decide_create

pub returns-in-51 : goal.returns-in-51
unfolding alter_rows
returns-in-51 c = subst (λ k. FirstMatchIsLongest k alter_rows) (sym c.in-51.is) decide_alter

pub returns-in-161 : goal.returns-in-161
unfolding drop_rows
returns-in-161 c = subst (λ k. FirstMatchIsLongest k drop_rows) (sym c.in-161.is) decide_drop

pub returns-in_default : goal.returns-in_default
unfolding other_rows
returns-in_default c = decide_other c.args.first (λ is. omega arith) (λ is. omega arith) (λ is.
    omega arith)
