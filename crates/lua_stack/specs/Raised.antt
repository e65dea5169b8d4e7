-- What an error comes to: it is raised, or the steps for its message are not there.
use Rattle.std.specs.Prelude.{List, Option, None, Some}
use Rattle.page_run.specs.Outcome.{Jumps}
use Rattle.lua_code.specs.LuaMeaningScope.{Place}
use Rattle.lua_code.specs.LuaMeaningActs.{Raised}
use Rattle.lua_store.specs.Seen.{StoreView, seen}
use Rattle.lua_store.specs.Parts.{IsOf, IsTextOf}
use Rattle.lua_code.specs.LuaSlotsSlots.{Slots}
use Rattle.lua_code.specs.LuaSlotsPoints.{SFrame, Gives}
use Rattle.lua_code.specs.LuaSlotsEnact.{Funds, all_given_back, Enacted, Stands, Short}
use Rattle.lua_stack.specs.declared.raising.Raising.{Raising}
use Rattle.lua_stack.specs.declared.raising.Raising.TheVariants as raising
use Rattle.lua_stack.specs.declared.activation.Level.{Level}
use Rattle.lua_stack.specs.Seen.{Texts, level_seen}

-- where steps are spent, the calls in progress are given back
abbrev pub raised_seen : Texts → Raising → List SFrame → Slots → Funds → Enacted
raised_seen texts (raising.Raises v) fs s f = Stands (Gives (Jumps (Raised (seen texts v))) fs) s f
raised_seen texts (raising.Spent which) fs s f = Short which (all_given_back f)

abbrev pub RaisingOf : StoreView → Raising → Type 0
RaisingOf s (raising.Raises v) = IsOf s v
RaisingOf s (raising.Spent which) = Unit {0}

-- only where steps are spent
abbrev pub IfSpent : Raising → Type 0 → Type 0
IfSpent (raising.Spent which) A = A
IfSpent (raising.Raises v) A = Unit {0}

-- the place of a level, if there is one
abbrev pub place_seen : Texts → Option Level → Option Place
place_seen texts None = None
place_seen texts (Some l) = Some (level_seen texts l)

abbrev pub MayBeLevelOf : StoreView → Option Level → Type 0
MayBeLevelOf s None = Unit {0}
MayBeLevelOf s (Some l) = IsTextOf s l.source
