use Rattle.std.proofs.Common.{◌∙◌, sym, subst}
use Rattle.std.specs.Prelude.{IfOk}
use Rattle.lua_state.specs.LuaStoreParts.{IsOf}
use Rattle.lua_state.specs.Makes.{Makes}
use Rattle.lua_state.specs.Seen.{slots_of, frames_of}
use Rattle.mw_html_texts.proofs.LuaBasicMarkup.{object_is}
use Rattle.lua_acts.proofs.Objects.{no_object}
use Rattle.lua_acts.proofs.strings.string_of.Goals as goal

pub give_object-requires-clause-id : goal.give_object-requires-clause-id
give_object-requires-clause-id c = subst (IsOf c.args.store.now) (object_is c.args.value c.in-Some.id (sym c.object.ensures ∙ c.in-Some.is)) c.requires.value

pub returns-in-Some : goal.returns-in-Some
returns-in-Some c = rw (object_is c.args.value c.in-Some.id (sym c.object.ensures ∙ c.in-Some.is)) c.give_object.ensures

pub returns-in-None : goal.returns-in-None
returns-in-None c =
    let s = c.args.store.now in
    let m = c.args.state.now in
    subst (λ mv. IfOk c.string_by.result (λ r. Makes s m c.args.left.now c.string_by.new.store c.string_by.new.state c.string_by.new.left mv r))
    (sym (no_object s.texts c.args.value c.args.line (frames_of s m) (slots_of s m) (sym c.object.ensures ∙ c.in-None.is))) c.string_by.ensures
