use Rattle.mp_wcnf.proofs.Public.{found, found_only, found_unrefused, failed, failed_only, failed_so, denoted_formula}
use Rattle.mp_wcnf.proofs.reading.read.Goals as goal

pub returns-in_err-reader-clause-refused : goal.returns-in_err-reader-clause-refused
returns-in_err-reader-clause-refused c = failed c.args.limits.now c.args.text.now c.in_err-reader.field-0.0 c.from_residual.result c.from_residual.ensures.1 c.in_err-reader.ensures

pub returns-in_err-reader-clause-accepts : goal.returns-in_err-reader-clause-accepts
returns-in_err-reader-clause-accepts c = failed_only c.args.limits.now c.args.text.now c.in_err-reader.field-0.0 c.from_residual.result c.from_residual.ensures.1 c.in_err-reader.ensures

pub returns-in_err-reader-clause-refuses : goal.returns-in_err-reader-clause-refuses
returns-in_err-reader-clause-refuses c = failed_so c.args.limits.now c.args.text.now c.in_err-reader.field-0.0 c.from_residual.result c.from_residual.ensures.1 c.in_err-reader.ensures

pub invariant_of-result : goal.invariant_of-result
invariant_of-result c = denoted_formula c.args.text.now _ (found c.args.limits.now c.args.text.now c.in_ok-reader.reader c.in_ok-reader.ensures).0

pub returns-clause-found : goal.returns-clause-found
returns-clause-found c = found c.args.limits.now c.args.text.now c.in_ok-reader.reader c.in_ok-reader.ensures

pub returns-clause-accepts : goal.returns-clause-accepts
returns-clause-accepts c = found_only c.args.limits.now c.args.text.now c.in_ok-reader.reader c.in_ok-reader.ensures

pub returns-clause-refuses : goal.returns-clause-refuses
returns-clause-refuses c = found_unrefused c.args.limits.now c.args.text.now c.in_ok-reader.reader c.in_ok-reader.ensures
