use Rattle.std.proofs.Common.{◌∙◌, sym, ap, subst, Some}
use Rattle.std.specs.Prelude.{IfOk}
use Rattle.std.specs.Option.{option_map}
use Rattle.lua_libs.specs.LuaBasicArguments.{text_bytes}
use Rattle.lua_code.specs.LuaSlotsCallBacks.{string_given}
use Rattle.lua_state.specs.Seen.{slots_of, frames_of}
use Rattle.lua_state.specs.Makes.{Makes}
use Rattle.lua_acts.proofs.strings.string_given.Goals as goal

pub returns-in_ok-turn-in-Some : goal.returns-in_ok-turn-in-Some
returns-in_ok-turn-in-Some c =
    let given = ap Some c.as_slice.ensures ∙ sym (ap (option_map text_bytes) c.in-Some.is) ∙ c.in_ok-given.ensures in
    subst (λ o. Makes c.args.store.now c.args.state.now c.args.left.now c.give_text.new.store c.args.state.now c.give_text.new.left (string_given o c.args.line (frames_of c.args.store.now c.args.state.now) (slots_of c.args.store.now c.args.state.now)) c.in_ok-turn-in-Some.turn)
    given c.in_ok-turn-in-Some.ensures

pub returns-in-None : goal.returns-in-None
returns-in-None c =
    let none = sym (ap (option_map text_bytes) c.in-None.is) ∙ c.in_ok-given.ensures in
    subst (λ o. IfOk c.fail.result (λ r. Makes c.args.store.now c.args.state.now c.args.left.now c.fail.new.store c.args.state.now c.fail.new.left (string_given o c.args.line (frames_of c.args.store.now c.args.state.now) (slots_of c.args.store.now c.args.state.now)) r))
    none c.fail.ensures.makes
