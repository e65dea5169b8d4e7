use Rattle.std.proofs.Common.{◌≡◌, sym, subst, refl, Ok}
use Rattle.std.specs.Result.{IfOk, IfErr}
use Rattle.lua_strings.specs.LuaMeaningHtml.{tested_name}
use Rattle.lua_strings.specs.LuaBasicArguments.{text_bytes}
use Rattle.lua_strings.specs.LuaBasicSeen.{Refuses}
use Rattle.mw_htmls.specs.Setters.{setter_of}
use Rattle.mw_htmls.proofs.Given.{refuses_through}
use Rattle.mw_htmls.proofs.setting.a_name.Goals as goal

pub returns-in-Ok-clause-found : goal.returns-in-Ok-clause-found
returns-in-Ok-clause-found c =
    let found = rw c.method_of.ensures at c.in-Ok.ensures.found in
    subst (λ a. IfOk c.a_taken.result (λ made. tested_name (setter_of c.args.setter).takes a ≡ Ok (text_bytes made))) (sym found) c.a_taken.ensures.found

pub returns-in-Ok-clause-same : goal.returns-in-Ok-clause-same
returns-in-Ok-clause-same c = rw c.in-Ok.ensures.same at c.a_taken.ensures.same

pub returns-in-Ok-clause-refused : goal.returns-in-Ok-clause-refused
returns-in-Ok-clause-refused c =
    let found = rw c.method_of.ensures at c.in-Ok.ensures.found in
    let none = rw c.in-Ok.ensures.same at c.a_taken.ensures.refused in
    subst (λ a. IfErr c.a_taken.result (Refuses (tested_name (setter_of c.args.setter).takes a) c.args.store.now c.a_taken.new.store)) (sym found) none

pub returns-in-Err-clause-refused : goal.returns-in-Err-clause-refused
returns-in-Err-clause-refused c =
    let none = rw c.method_of.ensures at c.in-Err.ensures.refused in
    refuses_through (tested_name (setter_of c.args.setter).takes) (λ m. refl) _ c.args.store.now c.a_text.new.store _ none
