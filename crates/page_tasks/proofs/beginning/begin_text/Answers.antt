use Rattle.page_ground.specs.Ground.{ground_of}
use Rattle.page_tasks.proofs.Beginnings.{text_begins}
use Rattle.page_tasks.proofs.beginning.begin_text.Goals as goal

pub begin_expansion-requires-clause-names : goal.begin_expansion-requires-clause-names
begin_expansion-requires-clause-names c = rw c.as_slice.ensures at c.in_ok-check_names.ensures

pub begin_expansion-requires-clause-held : goal.begin_expansion-requires-clause-held
begin_expansion-requires-clause-held c = tt

pub returns : goal.returns
returns c = text_begins (ground_of c.args.around.now) c.in_ok-marked.marked _ c.args.scene c.begin_expansion.result c.in_ok-marked.ensures c.begin_expansion.ensures
