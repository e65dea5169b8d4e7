use Rattle.std.proofs.Common.{refl}
use Rattle.lua_strings.specs.LuaHeapValue.{Markup}
use Rattle.mw_htmls.proofs.Changed.{object_given}
use Rattle.mw_htmls.proofs.classes.give_object.Goals as goal

pub returns-clause-answer : goal.returns-clause-answer
returns-clause-answer c = object_given c.args.store.now.heap c.args.store.now (Markup c.args.id.at) c.args.id c.in_ok-values.values refl refl c.in_ok-values.ensures

pub returns-clause-of : goal.returns-clause-of
returns-clause-of c = rw c.in_ok-values.ensures (c.requires, tt)
