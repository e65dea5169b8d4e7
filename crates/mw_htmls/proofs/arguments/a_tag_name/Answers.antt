use Rattle.std.proofs.Common.{◌≡◌, sym, subst, refl, Ok}
use Rattle.std.specs.Result.{IfOk, IfErr}
use Rattle.lua_strings.specs.LuaBasicArguments.{text_bytes}
use Rattle.lua_strings.specs.LuaBasicSeen.{Refuses}
use Rattle.lua_strings.specs.LuaMeaningHtml.{tested_name, is_tag}
use Rattle.mw_htmls.proofs.Given.{refuses_through}
use Rattle.mw_htmls.proofs.arguments.a_tag_name.Goals as goal

pub returns-in-Ok-clause-found : goal.returns-in-Ok-clause-found
returns-in-Ok-clause-found c =
    subst (λ a. IfOk c.a_tag.result (λ made. tested_name is_tag a ≡ Ok (text_bytes made))) (sym c.in-Ok.ensures.found) c.a_tag.ensures.found

pub returns-in-Ok-clause-same : goal.returns-in-Ok-clause-same
returns-in-Ok-clause-same c = rw c.in-Ok.ensures.same at c.a_tag.ensures.same

pub returns-in-Ok-clause-refused : goal.returns-in-Ok-clause-refused
returns-in-Ok-clause-refused c =
    let none = rw c.in-Ok.ensures.same at c.a_tag.ensures.refused in
    subst (λ a. IfErr c.a_tag.result (Refuses (tested_name is_tag a) c.args.store.now c.a_tag.new.store)) (sym c.in-Ok.ensures.found) none

pub returns-in-Err-clause-refused : goal.returns-in-Err-clause-refused
returns-in-Err-clause-refused c = refuses_through (tested_name is_tag) (λ m. refl) _ c.args.store.now c.text_or_empty.new.store _ c.in-Err.ensures.refused
