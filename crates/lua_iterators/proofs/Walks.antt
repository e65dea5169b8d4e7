-- What the answers of searches are in a walk over matches: those of the meaning.
use Rattle.std.proofs.Common.{◌≡◌, ◌∙◌, ap, sym, subst, refl, arith, ℕ, ◌+◌, ◌<◌, Bool, List, [], ◌∷◌, Option}
use Rattle.lua_string.specs.LuaPatternDeclaredPatternCapture.{Capture}
use Rattle.lua_string.specs.LuaPatternDeclaredPatternMatch.{Match}
use Rattle.lua_string.specs.LuaPatternDeclaredPatternSearchTheVariants as search
use Rattle.lua_string.specs.LuaPatternDeclaredReadPatternFault.{PatternFault}
use Rattle.lua_string.specs.LuaPatternDeclaredReadPatternFaultTheVariants as fault
use Rattle.lua_string.specs.LuaPatternDeclaredSlotsSlot.{Slot}
use Rattle.lua_string.specs.LuaPatternLetters.{Letters}
use Rattle.lua_string.specs.LuaPatternWay.{Answer, At, Nowhere}
use Rattle.lua_string.specs.LuaPatternFound.{IsSearch}
use Rattle.lua_string.specs.LuaPatternRead.{Read}
use Rattle.lua_string.specs.LuaPatternReads.{IsReadFault}
use Rattle.lua_string.specs.LuaPatternSizes.{match_bytes}
use Rattle.lua_string.specs.Finds.{match_of}
use Rattle.lua_string.specs.Walk.{walk_on, next_place}
use Rattle.lua_strings.specs.LuaHeapProc.{Proc}
use Rattle.lua_strings.specs.LuaHeapValue.{Nil}
use Rattle.lua_strings.specs.LuaHeapHeap.{Heap, set_cell_in}
use Rattle.lua_strings.specs.LuaMeaningScope.{Bytes}
use Rattle.lua_strings.specs.LuaMeaningArguments.{Plain, costs}
use Rattle.lua_strings.specs.LuaMeaningIterators.{Cells, Stand, match_given, goes_on, walked, walks_by}
use Rattle.lua_strings.specs.LuaStoreSeen.{StoreView}
use Rattle.lua_strings.specs.LuaBasicDeclaredStopStop.{Stop}
use Rattle.lua_strings.specs.LuaBasicSeen.{Stops}
use Rattle.mw_ustrings.specs.Faults.{FaultStops}

-- a match by its parts
same_match : {a b c d : ℕ} {cs ds : List Capture} → a ≡ b → c ≡ d → cs ≡ ds
    → (let x : Match = record { start = b; end = d; captures = ds } in x) ≡ record { start = a; end = c; captures = cs }
same_match e f g = rw (e, f, g) refl

module _ (a : Letters) (s : Bytes) (k : Stand) (c : Cells) (anchored : Bool) (slots : List Slot) (h : Heap Proc) where
  abbrev goes : Answer → Plain Proc
  goes answer = walked a s k c slots (walk_on a anchored s answer) h

  abbrev met : ℕ → Match → Plain Proc
  met n m = costs (n + match_bytes m) (goes_on a s k c (next_place a anchored s m.start m.end) h) (match_given a s k m)

  pub walk_found : (budget : ℕ) (answer : Answer) (m : Match) (tries : ℕ) → IsSearch budget slots answer (search.Found m tries) → goes answer ≡ met tries m
  walk_found budget (At start end marks n) m tries p =
      let same : match_of slots start end marks ≡ m = same_match p.1.0 p.1.1 p.1.2 in
      ap (λ i. met i (match_of slots start end marks)) (sym p.1.3) ∙ ap (met tries) same
  walk_found budget (Nowhere n) m tries p = absurd p.1

  pub walk_none : (budget : ℕ) (answer : Answer) (tries : ℕ) → IsSearch budget slots answer (search.NotFound tries) → goes answer ≡ costs tries (set_cell_in h c.place Nil) (Nil ∷ [])
  walk_none budget answer tries p = ap goes p.1

  pub walk_spent : (budget : ℕ) (answer : Answer) → IsSearch budget slots answer search.Spent → budget < (goes answer).charge
  walk_spent budget (At start end marks n) p =
      let lt : budget < n = p in
      omega (arith, lt)
  walk_spent budget (Nowhere n) p = p

-- a fault of the pattern
pub walk_fault : (a : Letters) (s : Bytes) (c : Cells) (place : Option ℕ) (read : Read) (e : PatternFault) (w t : StoreView) (end : Stop) → IsReadFault read e → FaultStops w t e end
    → Stops (walks_by a s c place read w.heap) t end
walk_fault a s c place read (fault.At n) w t end is stops = subst (λ r. Stops (walks_by a s c place r w.heap) t end) (sym is) stops
walk_fault a s c place read fault.NoMemory w t end is stops = subst (λ x. Stops (walks_by a s c place read w.heap) t x) (sym stops) tt
