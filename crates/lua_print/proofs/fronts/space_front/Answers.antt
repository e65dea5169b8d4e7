use Rattle.lua_print.proofs.FrontLemmas.{space_front}
use Rattle.lua_print.proofs.fronts.space_front.Goals as goal

pub returns : goal.returns
returns c = space_front c.args.left.now _ c.requires c.space_run.ensures.size
