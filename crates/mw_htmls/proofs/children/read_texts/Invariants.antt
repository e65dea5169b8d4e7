use Rattle.std.proofs.Common.{◌≡◌, length, map}
use Rattle.lua_strings.specs.LuaMeaningHtml.{texts_from}
use Rattle.lua_strings.specs.LuaBasicArguments.{text_bytes}
use Rattle.lua_strings.specs.LuaBasicSeen.{values_seen, AllOf}
use Rattle.lua_strings.proofs.Numbered.{behind}
use Rattle.mw_htmls.proofs.children.read_texts.Given as goal

abbrev pub invariant-values : goal.invariant-values
invariant-values l = AllOf l.store l.rest × (behind (map text_bytes l.texts) (texts_from l.n (values_seen l.store.texts l.rest)) ≡ texts_from 2 (values_seen l.store.texts l.given))

abbrev pub decreases-values : goal.decreases-values
decreases-values l = length l.rest
