use Rattle.std.proofs.Common.{◌∙◌, ap, subst, [], ◌∷◌}
use Rattle.lua_code.specs.LuaHeapValue.{Value}
use Rattle.lua_code.specs.LuaMeaningActs.{Finished}
use Rattle.lua_code.specs.LuaMeaningModules.{value_or_true}
use Rattle.lua_state.specs.LuaSlotsErrors.{gives}
use Rattle.lua_code.specs.LuaSlotsModules.{with_module}
use Rattle.lua_state.specs.LuaStoreSeen.{seen}
use Rattle.lua_state.specs.LuaStackLists.{given_values}
use Rattle.lua_state.proofs.LuaStackOpenings.{first_of, first_seen}
use Rattle.lua_state.specs.Makes.{Makes}
use Rattle.lua_state.specs.Of.{OutcomeOf}
use Rattle.lua_state.specs.Seen.{slots_of, frames_of}
use Rattle.lua_modules.proofs.requiring.module_answer.Goals as goal

pub keep_module-requires-clause-value : goal.keep_module-requires-clause-value
keep_module-requires-clause-value c =
    c.kept_value-value.ensures.of c.args.store.now (first_of c.args.store.now (given_values c.in-Goes.values) c.first-first.result c.first-first.ensures (subst (OutcomeOf c.args.store.now) c.in-Goes.is c.requires.outcome))

pub forget_module-requires-clause-jump : goal.forget_module-requires-clause-jump
forget_module-requires-clause-jump c = subst (OutcomeOf c.args.store.now) c.in-Jumps.is c.requires.outcome

pub returns-in-Goes : goal.returns-in-Goes
returns-in-Goes c =
    let texts = c.args.store.now.texts in
    rw c.in-Goes.is
    (subst (λ (v : Value). Makes c.args.store.now c.args.state.now c.args.left.now c.args.store.now c.keep_module.new.state c.args.left.now
    (gives (v ∷ []) (frames_of c.args.store.now c.args.state.now) (with_module c.args.title (Finished v) (slots_of c.args.store.now c.args.state.now))) c.in_ok-turn-in-Goes.turn)
    (c.kept_value-value.ensures.seen texts ∙ ap value_or_true (ap (seen texts) c.first-first.ensures ∙ first_seen texts (given_values c.in-Goes.values)))
    (c.in_ok-turn-in-Goes.ensures c.args.left.now))

pub returns : goal.returns
returns c = rw c.in-Jumps.is (c.in_ok-turn-in-Jumps.ensures c.args.left.now)
