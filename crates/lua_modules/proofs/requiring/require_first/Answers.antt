use Rattle.std.proofs.Common.{◌∙◌, ap, subst, None, Option}
use Rattle.lua_code.specs.Held.{modules_seen}
use Rattle.lua_code.specs.LuaSlotsCode.{CModule}
use Rattle.lua_code.specs.LuaSlotsModules.{require_as}
use Rattle.lua_state.specs.Makes.{Makes}
use Rattle.lua_state.specs.Seen.{slots_of, frames_of}
use Rattle.lua_modules.proofs.requiring.require_first.Goals as goal

pub returns-in-Some : goal.returns-in-Some
returns-in-Some c =
    let e = rw c.in-Some.is at c.in_ok-found.ensures in
    subst (λ (o : Option CModule). Makes c.args.store.now c.args.state.now c.args.left.now c.run_module.new.store c.run_module.new.state c.run_module.new.left
    (require_as c.args.text.now c.args.title.now None o c.args.line (frames_of c.args.store.now c.args.state.now) (slots_of c.args.store.now c.args.state.now)) c.in_ok-turn-in-Some.turn)
    (e ∙ ap (modules_seen c.args.state.now.codes.world.modules.now) (c.as_slice-written.ensures ∙ c.in_ok-name.ensures)) c.in_ok-turn-in-Some.ensures

pub returns : goal.returns
returns c =
    let e = rw c.in-None.is at c.in_ok-found.ensures in
    subst (λ (o : Option CModule). Makes c.args.store.now c.args.state.now c.args.left.now c.lacks_module.new.store c.args.state.now c.lacks_module.new.left
    (require_as c.args.text.now c.args.title.now None o c.args.line (frames_of c.args.store.now c.args.state.now) (slots_of c.args.store.now c.args.state.now)) c.in_ok-turn-in-None.turn)
    (e ∙ ap (modules_seen c.args.state.now.codes.world.modules.now) (c.as_slice-written.ensures ∙ c.in_ok-name.ensures)) c.in_ok-turn-in-None.ensures
