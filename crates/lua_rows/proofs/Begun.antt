-- WHAT HAS BEGUN, in code, and what ends it make together what the function does: its charge is taken, and it ends or begins to ask; or its
-- charge is not covered.
use Rattle.std.proofs.Common.{◌≡◌, sym, subst, ℕ, List, Some, Ok, Err}
use Rattle.std.specs.Prelude.{Result}
use Rattle.lua_turns.specs.WkBaseDeclaredLeftLeft.{Left}
use Rattle.lua_code.specs.LuaHeapValue.{Value as Plain}
use Rattle.lua_calls.specs.LuaMeaningGsub.{gsub_form}
use Rattle.lua_turns.specs.LuaStoreSeen.{StoreView}
use Rattle.lua_turns.specs.LuaStoreParts.{IsLater}
use Rattle.lua_turns.specs.LuaSlotsPoints.{Move}
use Rattle.lua_code.specs.LuaSlotsLibraries.{page_alone, plain, does}
use Rattle.lua_calls.specs.LuaBasicDeclaredStopStop.{Stop}
use Rattle.lua_turns.specs.LuaStateDeclaredStateState.{State}
use Rattle.lua_calls.specs.LuaStateDeclaredTurnTurn.{Turn}
use Rattle.lua_turns.specs.LuaStateSeen.{slots_of, frames_of}
use Rattle.lua_turns.specs.LuaStateOf.{StateOf}
use Rattle.lua_turns.specs.LuaStateWorlds.{world_seen}
use Rattle.lua_calls.specs.LuaStateMakes.{LateMakes}
use Rattle.lua_calls.specs.LuaGsubsDeclaredBeginningBegun.{Begun}
use Rattle.lua_calls.specs.LuaGsubsDeclaredBeginningBegunTheVariants as begun
use Rattle.lua_calls.specs.LuaGsubsTable.{alphabet_of}
use Rattle.lua_calls.specs.declared.table.AtOnce.{AtOnce}
use Rattle.lua_calls.specs.Table.{act_seen, once_seen}
use Rattle.lua_calls.specs.Ends.{BegunMakes}
use Rattle.lua_calls.proofs.Paying.{paid_end}
use Rattle.lua_calls.proofs.Beginning.{begun_makes}
use Rattle.lua_rows.specs.declared.ready.Callee.{Callee}
use Rattle.lua_rows.specs.declared.ready.Callee.TheVariants as callee
use Rattle.lua_rows.specs.Ready.{act_in}
use Rattle.lua_rows.specs.Begins.{AnswersAtOnce, Begins}

-- what it does with these arguments
abbrev pub does_call : StoreView → State → Callee → List Plain → ℕ → Move
does_call s m f vs line = does (world_seen m.codes.world) (act_seen (page_alone (world_seen m.codes.world)) (act_in f) vs (slots_of s m).heap (slots_of s m).frames) vs (Some line) (frames_of s m) (slots_of s m)

module _ (s t u : StoreView) (m n : State) (l l' i : Left) (vs : List Plain) (line : ℕ) (r : Turn) (of : StateOf s m) (later : IsLater s t) where
  -- the state is as it was
  as_it_was : (g : AtOnce) → n ≡ m → LateMakes s m l u m i (plain (once_seen g vs s.heap) (Some line) (frames_of s m) (slots_of s m)) r → LateMakes s m l u n i (plain (once_seen g vs s.heap) (Some line) (frames_of s m) (slots_of s m)) r
  as_it_was g is made = subst (λ (x : State). LateMakes s m l u x i (plain (once_seen g vs s.heap) (Some line) (frames_of s m) (slots_of s m)) r) (sym is) made

  answered : (g : AtOnce) (answer : Result Begun Stop) → AnswersAtOnce g vs s l t l' answer → BegunMakes t m l' (Some line) answer u n i r
      → LateMakes s m l u n i (plain (once_seen g vs s.heap) (Some line) (frames_of s m) (slots_of s m)) r
  answered g (Ok (begun.Answers ws)) paid (is, made) = as_it_was g is (paid_end s t u m l l' i (Some line) (once_seen g vs s.heap) r of later (Ok ws) paid made)
  answered g (Ok (begun.Asks j limit)) paid made = absurd paid
  answered g (Err e) paid (is, made) = as_it_was g is (paid_end s t u m l l' i (Some line) (once_seen g vs s.heap) r of later (Err e) paid made)

  pub call_does : (f : Callee) (answer : Result Begun Stop) → Begins f vs s l t l' answer → BegunMakes t m l' (Some line) answer u n i r → LateMakes s m l u n i (does_call s m f vs line) r
  call_does (callee.Answers g) answer paid made = answered g answer paid made
  call_does (callee.Gsub g) answer paid made = begun_makes s t u m n l l' i (Some line) r of later (gsub_form (alphabet_of g) vs s.heap) answer paid made
