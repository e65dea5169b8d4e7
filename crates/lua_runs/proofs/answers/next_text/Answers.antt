use Rattle.std.proofs.Common.{◌∙◌, sym, subst}
use Rattle.std.specs.Prelude.{IfOk}
use Rattle.lua_store.specs.Parts.{IsOf}
use Rattle.lua_modules.specs.LuaStackSeen.{values_seen, joined_seen}
use Rattle.lua_modules.specs.LuaStateMakes.{Makes}
use Rattle.lua_modules.specs.LuaStateSeen.{slots_of, frames_of}
use Rattle.mw_html_texts.proofs.LuaBasicMarkup.{object_is}
use Rattle.lua_runs.proofs.Objects.{no_object}
use Rattle.lua_runs.proofs.answers.next_text.Goals as goal

pub object_next-requires-clause-id : goal.object_next-requires-clause-id
object_next-requires-clause-id c = subst (IsOf c.args.store.now) (object_is c.args.value c.in-Some.id (sym c.object.ensures ∙ c.in-Some.is)) c.requires.value

pub returns-in-Some : goal.returns-in-Some
returns-in-Some c = rw (object_is c.args.value c.in-Some.id (sym c.object.ensures ∙ c.in-Some.is)) c.object_next.ensures

pub returns-in-None : goal.returns-in-None
returns-in-None c =
    let s = c.args.store.now in
    let m = c.args.state.now in
    subst (λ mv. IfOk c.text_by.result (λ r. Makes s m c.args.left.now c.text_by.new.store c.text_by.new.state c.text_by.new.left mv r))
    (sym (no_object s.texts c.args.value (values_seen s.texts c.args.values) (joined_seen s.texts c.args.before) (frames_of s m) (slots_of s m) (sym c.object.ensures ∙ c.in-None.is))) c.text_by.ensures
