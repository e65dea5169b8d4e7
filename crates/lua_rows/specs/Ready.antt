-- A CALL THAT IS READY in code: what is called is a function of the library that may answer at once, and its arguments are read. So many nodes
-- lead from the expression to the frame that calls, whichever frames wait.
use Rattle.std.specs.Prelude.{◌≡◌, ◌≤◌, ◌<◌, ◌^◌, ◌++◌, ℕ, List, [], ◌∷◌, Option, Some, None}
use Rattle.lua_turns.specs.PageRunOutcome.{Goes}
use Rattle.lua_calls.specs.LuaHeapDeclaredLibraryLibrary.{Library}
use Rattle.lua_code.specs.LuaHeapValue.{Text, Builtin}
use Rattle.lua_code.specs.LuaSlotsCode.{CExp, CExps}
use Rattle.lua_turns.specs.LuaSlotsErrors.{gives}
use Rattle.lua_turns.specs.LuaSlotsIndex.{index}
use Rattle.lua_turns.specs.LuaSlotsPoints.{SFrame, CallNow, Evals, Gives}
use Rattle.lua_turns.specs.LuaInPlaceInPlace.{all_in_place}
use Rattle.lua_turns.specs.LuaStoreDeclaredValueValue.{Value}
use Rattle.lua_calls.specs.LuaStoreDeclaredValueValueTheVariants as value
use Rattle.lua_turns.specs.LuaStoreSeen.{StoreView, seen}
use Rattle.lua_turns.specs.LuaStackOf.{ValuesOf}
use Rattle.lua_turns.specs.LuaStackSeen.{values_seen}
use Rattle.lua_turns.specs.LuaStateDeclaredStateState.{State}
use Rattle.lua_turns.specs.LuaStateSeen.{slots_of, constants_in}
use Rattle.lua_turns.specs.LuaStateWorlds.{world_seen}
use Rattle.lua_turns.specs.LuaStridesStrides.{LeadsAt}
use Rattle.lua_calls.specs.Table.{IsLine}
use Rattle.lua_calls.specs.declared.table.Act.{Act}
use Rattle.lua_calls.specs.declared.table.Act.TheVariants as act
use Rattle.lua_rows.specs.declared.ready.Callee.{Callee}
use Rattle.lua_rows.specs.declared.ready.Callee.TheVariants as callee
use Rattle.lua_rows.specs.declared.ready.ReadyCall.{ReadyCall}

-- what is done with the arguments
abbrev pub act_in : Callee → Act
act_in (callee.Answers f) = act.Answers f
act_in (callee.Gsub f) = act.Gsub f

-- a value is such a function
abbrev pub IsCallee : Value → Callee → Type 0
IsCallee (value.Builtin which) f = IsLine which (act_in f)
IsCallee v f = ⊥

-- the method of a value under a name is such a function: an index gives it at once, whichever frames wait
pub record IsMethodOf (s : StoreView) (m : State) (object : Value) (name : ℕ) (f : Callee) : Type 0 where
  pub which : Library
  pub is : IsLine which (act_in f)
  pub found : (line : Option ℕ) (fs : List SFrame) → index (seen s.texts object) (Text (constants_in s m name)) line fs (slots_of s m) ≡ gives (Builtin which ∷ []) fs (slots_of s m)

-- the values of some expressions, which are read in place, stand behind those before
pub record StandBehind (s : StoreView) (m : State) (es : CExps) (before all : List Value) (nodes : ℕ) : Type 0 where
  pub values : List Value
  pub behind : all ≡ before ++ values
  pub of : ValuesOf s values
  pub few : nodes < 2 ^ 32
  pub read : all_in_place (constants_in s m) es (slots_of s m) ≡ Some (values_seen s.texts values, nodes)

abbrev pub MayStandBehind : StoreView → State → CExps → List Value → List Value → Option ℕ → Type 0
MayStandBehind s m es before all (Some nodes) = StandBehind s m es before all nodes
MayStandBehind s m es before all None = Unit {0}

pub record IsReady (s : StoreView) (m : State) (e : CExp) (arguments : List Value) (r : ReadyCall) : Type 0 where
  pub which : Library
  pub is : IsLine which (act_in r.callee)
  pub of : ValuesOf s arguments
  pub some : 1 ≤ r.nodes
  pub few : r.nodes < 2 ^ 40
  pub leads : (fs : List SFrame) → LeadsAt (world_seen m.codes.world) (Evals e fs) (slots_of s m) r.nodes (Gives (Goes (values_seen s.texts arguments)) (CallNow (Builtin which) r.line ∷ fs)) (slots_of s m)
