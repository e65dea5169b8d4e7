-- WHAT IS READ IN PLACE in code: that it is the value and the nodes of `lua_in_place`.
use Rattle.std.specs.Prelude.{◌≡◌, ◌<◌, ◌^◌, ℕ, List, Option, Some, IfSome}
use Rattle.lua_code.specs.LuaHeapValue.{Value as Plain}
use Rattle.lua_code.specs.LuaSlotsCode.{CExp, CExps}
use Rattle.lua_in_place.specs.InPlace.{in_place, all_in_place}
use Rattle.lua_state.specs.LuaStoreSeen.{StoreView, seen}
use Rattle.lua_state.specs.LuaStoreParts.{IsOf}
use Rattle.lua_state.specs.LuaStackOf.{ValuesOf}
use Rattle.lua_state.specs.LuaStackSeen.{values_seen}
use Rattle.lua_state.specs.declared.state.State.{State}
use Rattle.lua_state.specs.Seen.{slots_of, constants_in}
use Rattle.lua_strides.specs.declared.reading.ValueRead.{ValueRead}
use Rattle.lua_strides.specs.declared.reading.ListRead.{ListRead}
use Rattle.lua_strides.specs.declared.reading.EntryRead.{EntryRead}

-- a value of the store with so many nodes
pub record IsRead (s : StoreView) (x : Option (Plain × ℕ)) (r : ValueRead) : Type 0 where
  pub of : IsOf s r.value
  pub few : r.nodes < 2 ^ 32
  pub is : x ≡ Some (seen s.texts r.value, r.nodes)

abbrev pub BothRead : StoreView → ValueRead × ValueRead → Type 0
BothRead s r = (IsOf s r.0.value × (r.0.nodes < 2 ^ 32)) × (IsOf s r.1.value × (r.1.nodes < 2 ^ 32))

-- the values of a list
pub record AreRead (s : StoreView) (x : Option (List Plain × ℕ)) (r : ListRead) : Type 0 where
  pub of : ValuesOf s r.values
  pub few : r.nodes < 2 ^ 32
  pub is : x ≡ Some (values_seen s.texts r.values, r.nodes)

-- a value, if there is one, is that of the expression
abbrev pub ReadsTo : StoreView → State → CExp → Option ValueRead → Type 0
ReadsTo s m e r = IfSome r (IsRead s (in_place (constants_in s m) e (slots_of s m)))

abbrev pub ReadsTwo : StoreView → State → CExp → CExp → Option (ValueRead × ValueRead) → Type 0
ReadsTwo s m a b r = IfSome r (λ x. IsRead s (in_place (constants_in s m) a (slots_of s m)) x.0 × IsRead s (in_place (constants_in s m) b (slots_of s m)) x.1)

abbrev pub ReadsAll : StoreView → State → CExps → Option ListRead → Type 0
ReadsAll s m es r = IfSome r (AreRead s (all_in_place (constants_in s m) es (slots_of s m)))

-- a function with its arguments
abbrev pub ReadsCall : StoreView → State → CExp → CExps → Option (ValueRead × ListRead) → Type 0
ReadsCall s m e es r = IfSome r (λ x. IsRead s (in_place (constants_in s m) e (slots_of s m)) x.0 × AreRead s (all_in_place (constants_in s m) es (slots_of s m)) x.1)

-- what an assignment to an entry is made of
abbrev pub ReadsEntry : StoreView → State → CExp → CExp → CExp → Option EntryRead → Type 0
ReadsEntry s m of key e r = IfSome r (λ x. IsRead s (in_place (constants_in s m) of (slots_of s m)) x.of × IsRead s (in_place (constants_in s m) key (slots_of s m)) x.key × IsRead s (in_place (constants_in s m) e (slots_of s m)) x.value)
