use Rattle.std.proofs.Common.{◌∙◌}
use Rattle.std.specs.Prelude.{None, []}
use Rattle.lua_state.specs.LuaSlotsCalls.{text_of_module}
use Rattle.lua_state.specs.LuaSlotsPoints.{Now, Starts, BodyS}
use Rattle.lua_modules.proofs.Parts.{named}
use Rattle.lua_modules.proofs.GivenModules.{text_begins}
use Rattle.lua_modules.proofs.running.begin_text.Goals as goal

pub returns : goal.returns
returns c = λ l.
    rw c.new-arguments.ensures
    (named c.args.store.now c.text-2.new.self c.text-2.new.self c.args.state.now c.args.state.now l l _ _ c.in_ok-source.source.at _ (λ b fs s. Now (Starts (BodyS (text_of_module b) [] None) fs) s)
    c.requires c.in_ok-source.ensures.later c.in_ok-source.ensures.added (c.in_ok-source.ensures.there ∙ c.as_slice-text.ensures ∙ c.in_ok-name.ensures)
    (text_begins c.args.store.now c.text-2.new.self c.args.state.now l c.in_ok-source.source c.requires c.in_ok-source.ensures.later c.in_ok-source.ensures.of))
