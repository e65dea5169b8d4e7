-- WHAT READING GIVES that ends at the first value that a test refuses, and the steps that it takes: one for each value that it reads.
use Rattle.std.specs.Prelude.{◌≡◌, ℕ, suc, Bool, List, length, Result, Ok, Err}
use Rattle.lua_basic.specs.LuaHeapValue as kind
use Rattle.lua_number.specs.WkBaseDeclaredLeftLeft.{Left}
use Rattle.lua_basic.specs.LuaStoreSeen.{StoreView, seen}
use Rattle.lua_basic.specs.LuaStoreParts.{IsOf}
use Rattle.lua_basic.specs.declared.stop.Stop.{Stop}
use Rattle.lua_basic.specs.declared.stop.Stop.TheVariants as stop
use Rattle.lua_basic.specs.Seen.{values_seen, AllOf}
use Rattle.lua_basic.specs.LuaMeaningTableLibrary.{Walk, PassedAll, Refused, is_part, may_stand}
use Rattle.lua_tables.specs.declared.walking.Wanted.{Wanted}
use Rattle.lua_tables.specs.declared.walking.Wanted.TheVariants as wanted
use Rattle.lua_tables.specs.declared.walking.Walked.{Walked}
use Rattle.lua_tables.specs.declared.walking.Walked.TheVariants as walked
use Rattle.lua_tables.specs.Paying.{IsTaken, IsOver}

-- the test that values have to pass
abbrev pub test_of : List (List ℕ) → Wanted → kind.Value → Bool
test_of texts wanted.Part v = is_part v
test_of texts (wanted.Like count one) v = may_stand count (seen texts one) v

abbrev pub walk_charge : List kind.Value → Walk → ℕ
walk_charge vs PassedAll = length vs
walk_charge vs (Refused k v) = suc k

abbrev pub Found : StoreView → List kind.Value → Walk → Walked → Type 0
Found s vs w (walked.Passed values) = (w ≡ PassedAll) × (values_seen s.texts values ≡ vs) × AllOf s values
Found s vs w (walked.Refused offset value) = (w ≡ Refused offset (seen s.texts value)) × IsOf s value

abbrev pub Walks : StoreView → List kind.Value → Walk → Left → Left → Result Walked Stop → Type 0
Walks s vs w l m (Ok found) = Found s vs w found × IsTaken (walk_charge vs w) l m
Walks s vs w l m (Err (stop.Raised v level)) = ⊥
Walks s vs w l m (Err stop.Spent) = IsOver (walk_charge vs w) l m
Walks s vs w l m (Err stop.NoMemory) = Unit {0}
