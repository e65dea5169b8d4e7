use Rattle.page_ground.specs.Ground.{ground_of}
use Rattle.page_tasks.proofs.Beginnings.{template_begins}
use Rattle.page_tasks.proofs.beginning.begin_template.Goals as goal

pub begin_expansion-requires-clause-held : goal.begin_expansion-requires-clause-held
begin_expansion-requires-clause-held c = c.requires

pub returns : goal.returns
returns c = template_begins (ground_of c.args.around.now) c.args.title (record { title = c.args.scene.title; args = c.args.args; chain = c.args.scene.chain }) c.begin_expansion.result c.begin_expansion.ensures
