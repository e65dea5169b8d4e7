use Rattle.std.proofs.Common.{◌∙◌, ap, sym, subst, Option}
use Rattle.lua_code.specs.LuaSlotsCode.{CModule}
use Rattle.lua_arms.specs.LuaSlotsCalls.{code_of}
use Rattle.lua_code.specs.Held.{modules_seen}
use Rattle.lua_state.specs.Worlds.{IsCode}
use Rattle.lua_state.proofs.codes.first_code.Goals as goal

pub returns-in-Some : goal.returns-in-Some
returns-in-Some c =
    let e = rw c.in-Some.is at c.in_ok-found.ensures in
    subst (λ (o : Option CModule). IsCode (code_of o) c.code_in.result) (e ∙ ap (modules_seen c.args.modules.now) c.bytes-text.ensures) c.code_in.ensures

pub returns-in-None : goal.returns-in-None
returns-in-None c =
    let e = rw c.in-None.is at c.in_ok-found.ensures in
    sym (ap code_of (e ∙ ap (modules_seen c.args.modules.now) c.bytes-text.ensures))
