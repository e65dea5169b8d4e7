-- A CALL THAT IS MADE in code: it is entered and has begun, and is not left yet. Whoever waits for it, moves lead from each point from which so
-- many nodes lead to the frame that calls to each turn that ends what has begun, above the frame that ends the call.
use Rattle.std.specs.Prelude.{◌≡◌, ℕ, List, ◌∷◌, Option, Some, None, Result}
use Rattle.lua_turns.specs.WkBaseDeclaredLeftLeft.{Left}
use Rattle.lua_turns.specs.PageRunOutcome.{Goes}
use Rattle.lua_calls.specs.LuaHeapDeclaredLibraryLibrary.{Library}
use Rattle.lua_code.specs.LuaHeapValue.{Builtin}
use Rattle.lua_turns.specs.LuaSlotsPoints.{Point, CallNow, Gives}
use Rattle.lua_turns.specs.LuaStoreDeclaredValueValue.{Value}
use Rattle.lua_turns.specs.LuaStoreSeen.{StoreView}
use Rattle.lua_turns.specs.LuaStoreParts.{IsLater}
use Rattle.lua_calls.specs.LuaBasicDeclaredStopStop.{Stop}
use Rattle.lua_turns.specs.LuaStackDeclaredFrameFrame.{Frame}
use Rattle.lua_turns.specs.LuaStackDeclaredFrameFrameTheVariants as frame
use Rattle.lua_turns.specs.LuaStackDeclaredFrameEndingTheVariants as ending
use Rattle.lua_turns.specs.LuaStackOf.{FramesOf}
use Rattle.lua_turns.specs.LuaStackSeen.{frames_seen, values_seen}
use Rattle.lua_turns.specs.LuaStateDeclaredStateState.{State}
use Rattle.lua_calls.specs.LuaStateDeclaredTurnTurn.{Turn}
use Rattle.lua_turns.specs.LuaStateOf.{StateOf}
use Rattle.lua_turns.specs.LuaStateSeen.{slots_of}
use Rattle.lua_turns.specs.LuaStateWorlds.{world_seen}
use Rattle.lua_turns.specs.LuaStridesStrides.{Idles, LeadsAt}
use Rattle.lua_calls.specs.LuaGsubsDeclaredBeginningBegun.{Begun}
use Rattle.lua_calls.specs.LuaGsubsBegun.{BegunOf}
use Rattle.lua_calls.specs.Table.{IsLine}
use Rattle.lua_calls.specs.Ends.{BegunMakes}
use Rattle.lua_rows.specs.declared.making.Made.{Made}
use Rattle.lua_rows.specs.declared.ready.Callee.{Callee}
use Rattle.lua_rows.specs.Begins.{begun_of}
use Rattle.lua_rows.specs.Ready.{act_in}
use Rattle.lua_rows.specs.Rows.{TurnsTo}

-- the frame that ends a call of the library, above these
abbrev pub ends_above : State → List Frame → State
ends_above m fs = record m { frames = frame.End ending.LibraryEnd ∷ fs }

-- a point from which so many nodes lead to the frame that calls this function with these arguments, above these frames
pub record LeadsToCall (s : StoreView) (m : State) (f : Callee) (arguments : List Value) (nodes : ℕ) (p : Point) (line : ℕ) (fs : List Frame) : Type 0 where
  pub which : Library
  pub is : IsLine which (act_in f)
  pub frames : FramesOf s fs
  pub leads : LeadsAt (world_seen m.codes.world) p (slots_of s m) nodes (Gives (Goes (values_seen s.texts arguments)) (CallNow (Builtin which) line ∷ frames_seen s.texts fs)) (slots_of s m)

pub record IsMade (s : StoreView) (m : State) (f : Callee) (arguments : List Value) (nodes : ℕ) (l : Left) (k : ℕ) (t : StoreView) (m' : State) (l' : Left) (k' : ℕ) (begun : Result Begun Stop) : Type 0 where
  pub state : StateOf t m'
  pub same : m' ≡ record m { calls = m'.calls; height = m'.height }
  pub later : IsLater s t
  pub of : BegunOf t begun
  pub turns : (p : Point) (line : ℕ) (fs : List Frame) → LeadsToCall s m f arguments nodes p line fs → (u : StoreView) (n : State) (i : Left) (r : Turn) → BegunMakes t (ends_above m' fs) l' (Some line) begun u n i r → TurnsTo s m p l k u n i k' r

abbrev pub MayMake : StoreView → State → Callee → List Value → ℕ → Left → ℕ → StoreView → State → Left → ℕ → Option Made → Type 0
MayMake s m f vs n l k t m' l' k' (Some made) = IsMade s m f vs n l k t m' l' k' (begun_of made)
MayMake s m f vs n l k t m' l' k' None = Idles s m l k t m' l' k'
