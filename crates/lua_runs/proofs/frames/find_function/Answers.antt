use Rattle.std.proofs.Common.{◌∙◌, subst, ◌∷◌}
use Rattle.std.specs.Prelude.{None}
use Rattle.lua_code.specs.LuaHeapValue as kind
use Rattle.lua_store.specs.Seen.{seen, text_at}
use Rattle.lua_store.proofs.Later.{seen-later}
use Rattle.lua_modules.specs.LuaSlotsPoints.{FunctionFound}
use Rattle.lua_code.specs.LuaSlotsIndex.{index_table}
use Rattle.lua_modules.specs.LuaStateSeen.{slots_of, frames_of}
use Rattle.lua_modules.specs.LuaStateMakes.{Makes}
use Rattle.lua_modules.proofs.LuaStateStaying.{state_later}
use Rattle.lua_runs.proofs.Parts.{named}
use Rattle.lua_runs.proofs.frames.find_function.Goals as goal

pub find_at-requires-clause-state : goal.find_at-requires-clause-state
find_at-requires-clause-state c = state_later c.args.store.now c.text.new.self c.in_ok-key.ensures.later c.args.state.now c.requires.state

pub returns : goal.returns
returns c =
    named c.args.store.now c.text.new.self c.find_at.new.store c.args.state.now c.find_at.new.state c.args.left.now c.find_at.new.left _ _ c.in_ok-key.key.at c.args.name
    (λ b fs s. index_table c.args.found.at (kind.Text b) None (FunctionFound c.args.name (seen c.args.store.now.texts c.args.frame) ∷ fs) s)
    c.requires.state c.in_ok-key.ensures.later c.in_ok-key.ensures.added (c.in_ok-key.ensures.there ∙ c.as_slice-text.ensures)
    (subst (λ o. Makes c.text.new.self c.args.state.now c.args.left.now c.find_at.new.store c.find_at.new.state c.find_at.new.left
    (index_table c.args.found.at (kind.Text (text_at c.text.new.self.texts c.in_ok-key.key.at)) None (FunctionFound c.args.name o ∷ frames_of c.text.new.self c.args.state.now) (slots_of c.text.new.self c.args.state.now)) c.in_ok-turn.turn)
    (seen-later c.args.store.now c.text.new.self c.in_ok-key.ensures.later c.args.frame c.requires.frame) c.in_ok-turn.ensures)
