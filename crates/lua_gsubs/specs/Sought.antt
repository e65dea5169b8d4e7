-- WHAT A SEARCH FOR THE NEXT MATCH of a job came to: the meaning's own.
use Rattle.std.specs.Prelude.{◌≡◌, ℕ, ◌+◌, List, ◌++◌, length, Option, Result, Ok, Err}
use Rattle.std.specs.Option.{option_map}
use Rattle.lua_number.specs.WkBaseDeclaredLeftLeft.{Left}
use Rattle.lua_pattern.specs.declared.pattern.Match.{Match}
use Rattle.lua_pattern.specs.declared.slots.Slot.{Slot}
use Rattle.lua_pattern.specs.Letters.{Letters}
use Rattle.mw_text.specs.LuaStringFinds.{match_of}
use Rattle.lua_replacing.specs.LuaStringWalk.{Walk, Stops, Meets, span}
use Rattle.lua_iterators.specs.LuaMeaningScope.{Bytes}
use Rattle.lua_replacing.specs.LuaMeaningIterators.{Stand, match_given}
use Rattle.lua_replacing.specs.LuaMeaningGsub.{Search, NoMatch, Matched, next_stand}
use Rattle.lua_replacing.specs.LuaStoreSeen.{StoreView}
use Rattle.lua_iterators.specs.LuaBasicDeclaredStopStop.{Stop}
use Rattle.lua_iterators.specs.LuaBasicDeclaredStopStopTheVariants as stop
use Rattle.lua_iterators.specs.LuaBasicSeen.{values_seen, AllOf}
use Rattle.lua_iterators.specs.MwFramesCosts.{Took, Lacked}
use Rattle.lua_replacing.specs.declared.far.Far.{Far}
use Rattle.lua_replacing.specs.Seen.{stand_seen, far_seen}
use Rattle.lua_gsubs.specs.declared.seeking.Sought.{Sought}
use Rattle.lua_gsubs.specs.declared.seeking.Sought.TheVariants as sought

-- a match with its captures, and how far it is then
abbrev pub IsHeld : Letters → Bytes → Stand → Match → Option ℕ → StoreView → Far → Far → Sought → Type 0
IsHeld a s k m next t f g sought.NoMatch = ⊥
IsHeld a s k m next t f g (sought.Matched values start end) =
    (values_seen t.texts values ≡ match_given a s k m) × (start ≡ m.start) × (end ≡ m.end) × (g.text.items ≡ f.text.items ++ span s f.copied m.start)
    × (g.copied ≡ m.end) × (g.count ≡ f.count) × (option_map stand_seen g.next ≡ next_stand a s k next)

-- what a walk costs from where the text is put together up to a byte: its tries, and the bytes between that one and the match
abbrev pub walk_charge : Bytes → ℕ → Walk → ℕ
walk_charge s copied (Stops n) = n
walk_charge s copied (Meets n step next) = n + length (span s copied step.start)

-- from a place on
abbrev pub IsWalked : Letters → Bytes → Stand → List Slot → Walk → StoreView → StoreView → Far → Far → Left → Left → Result Sought Stop → Type 0
IsWalked a s k slots (Stops n) u t f g l m (Ok sought.NoMatch) = Took n l m × (g ≡ f)
IsWalked a s k slots (Meets n step next) u t f g l m (Ok (sought.Matched values start end)) =
    Took (n + length (span s f.copied step.start)) l m × IsHeld a s k (match_of slots step.start step.end step.marks) next t f g (sought.Matched values start end)
IsWalked a s k slots w u t f g l m (Err stop.Spent) = Lacked (walk_charge s f.copied w) l m × (t ≡ u)
IsWalked a s k slots w u t f g l m (Err stop.NoMemory) = Unit {0}
IsWalked a s k slots w u t f g l m r = ⊥

abbrev pub search_charge : Search → ℕ
search_charge (NoMatch n) = n
search_charge (Matched n captures w) = n

-- of a job with this subject
abbrev pub IsSought : Search → Bytes → StoreView → StoreView → Far → Far → Left → Left → Result Sought Stop → Type 0
IsSought (NoMatch n) s u t f g l m (Ok sought.NoMatch) = Took n l m × (g ≡ f)
IsSought (Matched n captures w) s u t f g l m (Ok (sought.Matched values start end)) =
    Took n l m × (values_seen t.texts values ≡ captures) × (far_seen g ≡ w.far) × (span s start end ≡ w.matched)
IsSought search s u t f g l m (Err stop.Spent) = Lacked (search_charge search) l m × (t ≡ u)
IsSought search s u t f g l m (Err stop.NoMemory) = Unit {0}
IsSought search s u t f g l m r = ⊥

-- what it holds is of the store
abbrev pub SoughtOf : StoreView → Sought → Type 0
SoughtOf s sought.NoMatch = Unit {0}
SoughtOf s (sought.Matched values start end) = AllOf s values
