use Rattle.std.proofs.Common.{◌≡◌, rules, subst, w64, to_z, of_z}
use Rattle.mw_html.specs.LuaHeapHeap.{no_markup}
use Rattle.lua_strings.specs.LuaMeaningHtml.{set_one}
use Rattle.lua_strings.specs.LuaBasicSeen.{Refuses, StopOf}
use Rattle.mw_htmls.specs.Setters.{setter_of}
use Rattle.mw_htmls.proofs.Tables.{refused_with, never_spent}
use Rattle.mw_htmls.proofs.tabled.wrong.Goals as goal

pub returns-in-Raised-clause-read : goal.returns-in-Raised-clause-read
returns-in-Raised-clause-read c = λ which given s t none n.
    let whole : to_z w64 (of_z w64 c.in-Raised.level) ≡ c.in-Raised.level = search rules in
    rw whole (refused_with (set_one (setter_of which) given n) s t c.in-Raised.error c.in-Raised.level (subst (Refuses (set_one (setter_of which) given n) s t) c.in-Raised.is (none n)))

pub returns-in-Raised-clause-of : goal.returns-in-Raised-clause-of
returns-in-Raised-clause-of c = λ t of. subst (StopOf t) c.in-Raised.is of

pub returns-in-Spent-clause-read : goal.returns-in-Spent-clause-read
returns-in-Spent-clause-read c = λ which given s t none. never_spent (set_one (setter_of which) given no_markup) s t (subst (Refuses (set_one (setter_of which) given no_markup) s t) c.in-Spent.is (none no_markup))
