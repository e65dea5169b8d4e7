-- WHAT A SEARCH FROM A PLACE ON CAME TO, whose tries are paid for: that of the meaning's walk.
use Rattle.std.specs.Prelude.{◌≡◌, ℕ, ◌≤◌, List, Option, Result, Ok, Err, IfSome}
use Rattle.lua_number.specs.WkBaseDeclaredLeftLeft.{Left}
use Rattle.lua_pattern.specs.declared.slots.Slot.{Slot}
use Rattle.mw_text.specs.LuaStringFinds.{match_of}
use Rattle.lua_replacing.specs.LuaStringWalk.{Walk, Stops, Meets}
use Rattle.lua_iterators.specs.LuaBasicDeclaredStopStop.{Stop}
use Rattle.lua_iterators.specs.LuaBasicDeclaredStopStopTheVariants as stop
use Rattle.lua_iterators.specs.MwFramesCosts.{Took, Lacked}
use Rattle.lua_gsubs.specs.declared.meeting.Met.{Met}
use Rattle.lua_gsubs.specs.declared.meeting.Met.TheVariants as met

abbrev pub tries_in : Walk → ℕ
tries_in (Stops n) = n
tries_in (Meets n step next) = n

abbrev pub IsMet : List Slot → Walk → Left → Left → Result Met Stop → Type 0
IsMet slots (Stops n) l m (Ok met.Nothing) = Took n l m
IsMet slots (Meets n step next) l m (Ok (met.Found found place)) = Took n l m × (match_of slots step.start step.end step.marks ≡ found) × (next ≡ place)
IsMet slots w l m (Err stop.Spent) = Lacked (tries_in w) l m
IsMet slots w l m (Err stop.NoMemory) = Unit {0}
IsMet slots w l m r = ⊥

-- where the next search begins it begins within a text of so many bytes
abbrev pub PlaceWithin : ℕ → Option ℕ → Type 0
PlaceWithin size next = IfSome next (λ at. at ≤ size)

abbrev pub MetWithin : ℕ → Met → Type 0
MetWithin size met.Nothing = Unit {0}
MetWithin size (met.Found found place) = PlaceWithin size place
