-- WHAT A FAULT OF A PATTERN ENDS IN: its message is raised, or memory ran out.
use Rattle.std.specs.Prelude.{◌≡◌}
use Rattle.lua_pattern.specs.declared.read.PatternFault.{PatternFault}
use Rattle.lua_pattern.specs.declared.read.PatternFault.TheVariants as fault
use Rattle.mw_frame_texts.specs.LuaMeaningArguments.{fails}
use Rattle.mw_frame_texts.specs.LuaStoreSeen.{StoreView}
use Rattle.mw_frame_texts.specs.LuaBasicDeclaredStopStop.{Stop}
use Rattle.mw_frame_texts.specs.LuaBasicDeclaredStopStopTheVariants as stop
use Rattle.mw_frame_texts.specs.LuaBasicSeen.{Stops}
use Rattle.mw_frame_texts.specs.LuaMeaningChecks.{malformed}

abbrev pub FaultStops : StoreView → StoreView → PatternFault → Stop → Type 0
FaultStops s t (fault.At n) e = Stops (fails s.heap (malformed n)) t e
FaultStops s t fault.NoMemory e = e ≡ stop.NoMemory
