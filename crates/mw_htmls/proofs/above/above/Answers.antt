use Rattle.std.proofs.Common.{ap}
use Rattle.lua_strings.specs.LuaMeaningHtml.{found_or}
use Rattle.mw_htmls.proofs.above.above.Goals as goal

pub returns-in-Some-clause-above : goal.returns-in-Some-clause-above
returns-in-Some-clause-above c = ap (found_or c.args.id.at) c.in-Some.ensures.parent

pub returns-in-None-clause-above : goal.returns-in-None-clause-above
returns-in-None-clause-above c = ap (found_or c.args.id.at) c.in-None.ensures.parent
