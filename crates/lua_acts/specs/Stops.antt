-- WHAT FOLLOWS WHERE A FUNCTION OF THE LIBRARY STOPS, called from this line: it raises a value at a level, whose place is put before it,
-- or an allowance is spent. Where memory is wanting nothing follows.
use Rattle.std.specs.Prelude.{◌≡◌, ℕ, Option}
use Rattle.page_run.specs.WkBaseDeclaredLeftLeft.{Left}
use Rattle.page_run.specs.declared.which.Which.TheVariants.{Steps}
use Rattle.lua_libs.specs.LuaMeaningArguments.{Fails}
use Rattle.lua_state.specs.LuaStoreSeen.{StoreView, seen}
use Rattle.lua_state.specs.LuaSlotsErrors.{ends}
use Rattle.mw_html_texts.specs.LuaBasicDeclaredStopStop.{Stop}
use Rattle.mw_html_texts.specs.LuaBasicDeclaredStopStopTheVariants as stop
use Rattle.lua_state.specs.declared.state.State.{State}
use Rattle.lua_state.specs.declared.turn.Turn.{Turn}
use Rattle.lua_state.specs.declared.turn.Turn.TheVariants as turn
use Rattle.lua_state.specs.Seen.{slots_of, frames_of}
use Rattle.lua_state.specs.Makes.{Makes}

abbrev pub StopsAs : StoreView → State → Left → Option ℕ → Stop → StoreView → Left → Turn → Type 0
StopsAs s m l line (stop.Raised v level) t l' r = Makes s m l t m l' (ends (Fails (seen s.texts v) level) line (frames_of s m) (slots_of s m)) r
StopsAs s m l line stop.Spent t l' r = (r ≡ turn.Spent Steps) × (t ≡ s) × (l' ≡ l)
StopsAs s m l line stop.NoMemory t l' r = ⊥
