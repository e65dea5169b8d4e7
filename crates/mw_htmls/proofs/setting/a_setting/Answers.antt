use Rattle.std.proofs.Common.{◌≡◌, sym, subst, Ok}
use Rattle.std.specs.Result.{IfOk, IfErr}
use Rattle.lua_strings.specs.LuaMeaningValues.{rest}
use Rattle.lua_strings.specs.LuaMeaningHtml.{set_read, text_if_any}
use Rattle.lua_strings.specs.LuaBasicSeen.{values_seen, Refuses}
use Rattle.mw_htmls.specs.Setters.{setter_of, set_by}
use Rattle.mw_htmls.proofs.Given.{name_refused}
use Rattle.mw_htmls.proofs.setting.a_setting.Goals as goal

pub with_name-requires : goal.with_name-requires
with_name-requires c = rw c.in-Ok.ensures.same c.requires

pub returns-in-Ok-clause-found : goal.returns-in-Ok-clause-found
returns-in-Ok-clause-found c =
    let s = c.args.store.now in
    let value = text_if_any 3 (setter_of c.args.setter).function (rest (values_seen s.texts c.args.given.now)) in
    let found = rw c.in-Ok.ensures.same at c.with_name.ensures.found in
    subst (λ a. IfOk c.with_name.result (λ x. (n : _) → set_read (setter_of c.args.setter) n a value ≡ Ok (set_by c.args.setter x n))) (sym c.in-Ok.ensures.found) found

pub returns-in-Ok-clause-same : goal.returns-in-Ok-clause-same
returns-in-Ok-clause-same c = rw c.in-Ok.ensures.same at c.with_name.ensures.same

pub returns-in-Ok-clause-refused : goal.returns-in-Ok-clause-refused
returns-in-Ok-clause-refused c =
    let s = c.args.store.now in
    let value = text_if_any 3 (setter_of c.args.setter).function (rest (values_seen s.texts c.args.given.now)) in
    let none = rw c.in-Ok.ensures.same at c.with_name.ensures.refused in
    subst (λ a. IfErr c.with_name.result (λ e. (n : _) → Refuses (set_read (setter_of c.args.setter) n a value) s c.with_name.new.store e)) (sym c.in-Ok.ensures.found) none

pub returns-in-Err-clause-refused : goal.returns-in-Err-clause-refused
returns-in-Err-clause-refused c = λ n.
    let s = c.args.store.now in
    name_refused (setter_of c.args.setter) n _ (text_if_any 3 (setter_of c.args.setter).function (rest (values_seen s.texts c.args.given.now))) s c.a_name.new.store _ c.in-Err.ensures.refused
