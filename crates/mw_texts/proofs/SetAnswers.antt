-- What `trim` and `encode` give, by the set that was read.
use Rattle.std.proofs.Common.{sym, subst, ℕ, List, Option, Ok, Err}
use Rattle.std.specs.Prelude.{Result}
use Rattle.mw_ustrings.specs.WkBaseDeclaredLeftLeft.{Left}
use Rattle.mw_text.specs.LuaPatternDeclaredItemSet.{Set}
use Rattle.lua_string.specs.LuaPatternDeclaredReadPatternFault.{PatternFault}
use Rattle.lua_string.specs.LuaPatternDeclaredReadPatternFaultTheVariants as fault
use Rattle.mw_text.specs.declared.answers.TextAnswer.{TextAnswer}
use Rattle.mw_text.specs.Answers.{IsText}
use Rattle.mw_text.specs.Sets.{IsChoiceFault}
use Rattle.mw_text.specs.Trim.{IsTrimmed}
use Rattle.mw_text.specs.References.{IsEncoded}
use Rattle.mw_ustrings.specs.LuaHeapProc.{Proc}
use Rattle.mw_ustrings.specs.LuaHeapHeap.{Heap}
use Rattle.mw_ustrings.specs.LuaMeaningScope.{Bytes}
use Rattle.mw_ustrings.specs.LuaMeaningArguments.{Plain}
use Rattle.mw_ustrings.specs.LuaStoreDeclaredValueValue.{Value}
use Rattle.mw_ustrings.specs.LuaStoreSeen.{StoreView}
use Rattle.mw_ustrings.specs.LuaBasicDeclaredStopStop.{Stop}
use Rattle.mw_ustrings.specs.LuaBasicSeen.{Stops, Paid}
use Rattle.mw_ustrings.specs.Faults.{FaultStops}
use Rattle.mw_ustrings.specs.LuaMeaningTexts.{gives_tried, by_set, trims, encodes}

module _ (h : Heap Proc) (s : StoreView) (l : Left) (t : StoreView) (m : Left) (r : Result (List Value) Stop) (budget : ℕ) (text : Bytes) (answer : TextAnswer)
    (gives : (tries : ℕ) (made : Bytes) → IsText budget tries made answer → Paid (gives_tried h tries made) s l t m r) where
  pub trim_answered : (choice : Result (Option Set) ℕ) → IsTrimmed budget text choice answer → Paid (by_set h (trims h text) choice) s l t m r
  trim_answered (Ok set) p = gives _ _ p
  trim_answered (Err n) p = absurd p

  pub encode_answered : (choice : Result (Option Set) ℕ) → IsEncoded budget text choice answer → Paid (by_set h (encodes h text) choice) s l t m r
  encode_answered (Ok set) p = gives _ _ p
  encode_answered (Err n) p = absurd p

-- a set with a fault
pub set_fault : (given : Option Set → Plain Proc) (choice : Result (Option Set) ℕ) (e : PatternFault) (w t : StoreView) (end : Stop) → IsChoiceFault choice e → FaultStops w t e end
    → Stops (by_set w.heap given choice) t end
set_fault given choice (fault.At n) w t end is stops = subst (λ x. Stops (by_set w.heap given x) t end) (sym is) stops
set_fault given choice fault.NoMemory w t end is stops = subst (λ x. Stops (by_set w.heap given choice) t x) (sym stops) tt
