use Rattle.squawk_script.proofs.FormLaws as laws
use Rattle.squawk_script.proofs.laws.records_have_their_form.Goals as goal

pub returns-clause-begin : goal.returns-clause-begin
returns-clause-begin c = laws.records_begin_bytes

pub returns-clause-alone : goal.returns-clause-alone
returns-clause-alone c = laws.records_stand_alone
