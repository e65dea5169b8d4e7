use Rattle.std.proofs.Common.{refl, sym, ap}
use Rattle.lua_strings.specs.LuaMeaningHtml.{found_or}
use Rattle.mw_htmls.proofs.Changed.{object_given}
use Rattle.mw_htmls.proofs.above.all_done.Goals as goal

pub returns-clause-answer : goal.returns-clause-answer
returns-clause-answer c = object_given c.args.store.now.heap c.args.store.now _ c.in_ok-object.object c.in_ok-values.values refl (sym (ap (found_or c.args.id.at) c.in_ok-object.ensures.root)) c.in_ok-values.ensures

pub returns-clause-of : goal.returns-clause-of
returns-clause-of c = rw c.in_ok-values.ensures (c.in_ok-object.ensures.of, tt)
