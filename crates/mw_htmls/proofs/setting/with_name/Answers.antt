use Rattle.std.proofs.Common.{ap, refl, Ok}
use Rattle.lua_strings.specs.LuaMeaningHtml.{set_read}
use Rattle.lua_strings.specs.LuaBasicArguments.{text_bytes}
use Rattle.mw_htmls.specs.Setters.{setter_of}
use Rattle.mw_htmls.proofs.Given.{refuses_through}
use Rattle.mw_htmls.proofs.setting.with_name.Goals as goal

pub text_if_any-requires : goal.text_if_any-requires
text_if_any-requires c = c.rest.ensures.of c.args.store.now c.requires

pub returns-in-Ok-clause-found : goal.returns-in-Ok-clause-found
returns-in-Ok-clause-found c = λ n.
    let s = c.args.store.now in
    let named = rw c.method_of.ensures at c.in-Ok.ensures.found in
    let found = rw (c.rest.ensures.values s.texts) at named in
    ap (set_read (setter_of c.args.setter) n (Ok (text_bytes c.args.name))) found

pub returns-clause-refused : goal.returns-clause-refused
returns-clause-refused c = λ n.
    let s = c.args.store.now in
    let named = rw c.method_of.ensures at c.in-Err.ensures.refused in
    let none = rw (c.rest.ensures.values s.texts) at named in
    refuses_through (set_read (setter_of c.args.setter) n (Ok (text_bytes c.args.name))) (λ m. refl) _ s c.text_if_any.new.store _ none
