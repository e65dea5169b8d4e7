-- What `split` gives, by the pattern that was read.
use Rattle.std.proofs.Common.{◌≡◌, ◌∙◌, ap, sym, subst, arith, ℕ, ◌<◌, ◌≤◌, List, [], ◌∷◌, Ok, Err}
use Rattle.std.specs.Prelude.{Result}
use Rattle.lua_string.specs.LuaPatternDeclaredReadPatternFault.{PatternFault}
use Rattle.lua_string.specs.LuaPatternDeclaredReadPatternFaultTheVariants as fault
use Rattle.mw_text.specs.declared.answers.PartsAnswer.TheVariants as parts
use Rattle.mw_text.specs.Answers.{total}
use Rattle.mw_text.specs.Split.{Sought, parts_of, IsSoughtFault, IsSplit}
use Rattle.mw_ustrings.specs.LuaHeapProc.{Proc}
use Rattle.mw_ustrings.specs.LuaHeapHeap.{Heap}
use Rattle.mw_ustrings.specs.LuaMeaningScope.{Bytes}
use Rattle.mw_ustrings.specs.LuaStoreSeen.{StoreView}
use Rattle.mw_ustrings.specs.LuaBasicDeclaredStopStop.{Stop}
use Rattle.mw_ustrings.specs.LuaBasicSeen.{Stops}
use Rattle.mw_ustrings.specs.Faults.{FaultStops}
use Rattle.mw_ustrings.specs.LuaMeaningTexts.{parts_charge, gives_parts, splits}

bytes_within : (ts : List Bytes) → total ts ≤ parts_charge ts
bytes_within [] = omega arith
bytes_within (t ∷ ts) = let more = bytes_within ts in omega (arith, more)

pub split_found : (h : Heap Proc) (s : Bytes) (choice : Result Sought ℕ) (budget : ℕ) (ts : List Bytes) (n : ℕ) → IsSplit budget s choice (parts.Parts ts n) → splits h s choice ≡ gives_parts h n ts
split_found h s (Ok sought) budget ts n p = ap (λ k. gives_parts h k (parts_of sought s).1) (sym p.2) ∙ ap (gives_parts h n) (sym p.1)
split_found h s (Err k) budget ts n p = absurd p

pub split_spent : (h : Heap Proc) (s : Bytes) (choice : Result Sought ℕ) (budget : ℕ) → IsSplit budget s choice parts.Spent → budget < (splits h s choice).charge
split_spent h s (Ok sought) budget p = let more = bytes_within (parts_of sought s).1 in omega (arith, p, more)
split_spent h s (Err k) budget p = absurd p

pub split_fault : (s : Bytes) (choice : Result Sought ℕ) (e : PatternFault) (w t : StoreView) (end : Stop) → IsSoughtFault choice e → FaultStops w t e end → Stops (splits w.heap s choice) t end
split_fault s choice (fault.At n) w t end is stops = subst (λ x. Stops (splits w.heap s x) t end) (sym is) stops
split_fault s choice fault.NoMemory w t end is stops = subst (λ x. Stops (splits w.heap s choice) t x) (sym stops) tt
