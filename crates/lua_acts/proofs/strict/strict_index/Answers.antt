use Rattle.std.proofs.Common.{◌∙◌, ap, subst}
use Rattle.lua_code.specs.LuaMeaningCallBacks.{text_of}
use Rattle.lua_state.specs.LuaMeaningMessages.{undeclared_variable}
use Rattle.lua_code.specs.LuaMeaningValues.{second}
use Rattle.lua_state.specs.LuaStackSeen.{values_seen}
use Rattle.lua_state.specs.LuaSlotsErrors.{fails_quoting}
use Rattle.lua_state.specs.Makes.{Makes}
use Rattle.lua_state.specs.Seen.{slots_of, frames_of}
use Rattle.lua_acts.proofs.strict.strict_index.Goals as goal

pub undeclared_variable-requires : goal.undeclared_variable-requires
undeclared_variable-requires c = c.second-name.ensures.of c.args.store.now (rw (c.as_slice.ensures ∙ c.into_list-list.ensures) c.requires.arguments)

pub returns : goal.returns
returns c =
    let texts = c.args.store.now.texts in
    let given = c.second-name.ensures.value texts ∙ ap (λ vs. second (values_seen texts vs)) (c.as_slice.ensures ∙ c.into_list-list.ensures) in
    subst (λ b. Makes c.args.store.now c.args.state.now c.args.left.now c.fail_quoting.new.store c.args.state.now c.fail_quoting.new.left (fails_quoting c.args.line b (frames_of c.args.store.now c.args.state.now) (slots_of c.args.store.now c.args.state.now)) c.in_ok-turn.turn)
    (c.as_slice-said.ensures.value ∙ c.in_ok-message.ensures ∙ ap (λ v. undeclared_variable (text_of v)) given) c.in_ok-turn.ensures.makes
