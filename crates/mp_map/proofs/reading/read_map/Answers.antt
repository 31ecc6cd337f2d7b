use Rattle.mp_map.proofs.WholeTexts.{found_clause, refused_clause}
use Rattle.mp_map.proofs.reading.read_map.Goals as goal

pub returns-clause-found : goal.returns-clause-found
returns-clause-found c = found_clause c.args.text.now c.read.result c.read.ensures

pub returns-clause-refused : goal.returns-clause-refused
returns-clause-refused c = refused_clause c.args.text.now c.read.result c.read.ensures
