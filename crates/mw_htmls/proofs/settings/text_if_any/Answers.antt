use Rattle.std.proofs.Common.{◌∙◌, ap, sym, Some}
use Rattle.lua_strings.specs.LuaStoreSeen.{StoreView}
use Rattle.mw_htmls.specs.Nodes.{bytes_in}
use Rattle.mw_htmls.proofs.settings.text_if_any.Goals as goal

pub returns-in_ok-text-in-Some-clause-there : goal.returns-in_ok-text-in-Some-clause-there
returns-in_ok-text-in-Some-clause-there c = ap Some c.in_ok-text-in-Some.ensures.there ∙ ap bytes_in (sym c.in-Some.is)

pub returns-in_ok-text-in-Some-clause-heap : goal.returns-in_ok-text-in-Some-clause-heap
returns-in_ok-text-in-Some-clause-heap c = ap (λ (s : StoreView). s.heap) c.in_ok-text-in-Some.ensures.added
