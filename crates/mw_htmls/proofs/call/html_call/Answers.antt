use Rattle.std.proofs.Common.{subst, sym}
use Rattle.lua_strings.specs.LuaBasicSeen.{values_seen, Paid}
use Rattle.lua_strings.proofs.LuaBasicFound.{for_nothing}
use Rattle.mw_htmls.specs.Table.{answer_of}
use Rattle.mw_htmls.proofs.call.html_call.Goals as goal

pub returns-in-Create-clause-answer : goal.returns-in-Create-clause-answer
returns-in-Create-clause-answer c =
    let s = c.args.store.now in
    let l = c.args.left.now in
    subst (λ w. Paid (answer_of w (values_seen s.texts c.args.args.now) s.heap) s l c.create.new.store l c.create.result) (sym c.in-Create.is) (for_nothing _ s c.create.new.store l c.create.result c.create.ensures.answer)
