use Rattle.lua_print.proofs.LayoutLaws.{items_ok, same_ok, again_ok}
use Rattle.lua_print.proofs.layouts.layout.Goals as goal

pub returns-in-Ok-clause-items : goal.returns-in-Ok-clause-items
returns-in-Ok-clause-items c = items_ok c.args.text.now c.arranged.result c.in-Ok.ensures c.arranged.ensures

pub returns-in-Ok-clause-same : goal.returns-in-Ok-clause-same
returns-in-Ok-clause-same c = same_ok c.args.text.now c.arranged.result c.arranged.ensures

pub returns-in-Ok-clause-again : goal.returns-in-Ok-clause-again
returns-in-Ok-clause-again c = again_ok c.args.text.now c.arranged.result c.in-Ok.ensures c.arranged.ensures
