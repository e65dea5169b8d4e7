use Rattle.std.proofs.Common.{ap, refl}
use Rattle.lua_strings.specs.LuaMeaningHtml.{as_child}
use Rattle.mw_htmls.proofs.Given.{refuses_through}
use Rattle.mw_htmls.proofs.children.a_text_child.Goals as goal

pub returns-in-Ok-clause-found : goal.returns-in-Ok-clause-found
returns-in-Ok-clause-found c = ap as_child c.in-Ok.ensures.found

pub returns-in-Err-clause-refused : goal.returns-in-Err-clause-refused
returns-in-Err-clause-refused c = refuses_through as_child (λ m. refl) _ c.args.store.now c.a_text.new.store _ c.in-Err.ensures.refused
