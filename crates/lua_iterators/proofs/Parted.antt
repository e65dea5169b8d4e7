-- What the answers of searches are in a walk over parts: those of the meaning.
use Rattle.std.proofs.Common.{◌≡◌, ◌∙◌, ap, sym, subst, refl, arith, ℕ, ◌<◌, Bool, true, false, if◌then◌else◌, List, [], ◌∷◌, length, drop, Option, Some, None}
use Rattle.std.specs.Prelude.{Result, nat_lt}
use Rattle.lua_string.specs.LuaPatternDeclaredPatternMatch.{Match}
use Rattle.lua_string.specs.LuaPatternDeclaredPatternSearchTheVariants as search
use Rattle.lua_string.specs.LuaPatternLetters.{Symbol}
use Rattle.lua_string.specs.LuaPatternTexts.{points}
use Rattle.lua_string.specs.LuaPatternDeclaredReadPatternFault.{PatternFault}
use Rattle.lua_string.specs.LuaPatternDeclaredReadPatternFaultTheVariants as fault
use Rattle.mw_text.specs.declared.splitting.Part.{Part}
use Rattle.mw_text.specs.Split.{Sought, IsSoughtFault, Found, IsMet, after_empty, cut, cut_at}
use Rattle.lua_strings.specs.LuaHeapProc.{Proc}
use Rattle.lua_strings.specs.LuaHeapHeap.{Heap}
use Rattle.lua_strings.specs.LuaMeaningScope.{Bytes}
use Rattle.lua_strings.specs.LuaMeaningIterators.{Cells, part_given, parted_by}
use Rattle.lua_strings.specs.LuaStoreSeen.{StoreView}
use Rattle.lua_strings.specs.LuaBasicDeclaredStopStop.{Stop}
use Rattle.lua_strings.specs.LuaBasicSeen.{Stops}
use Rattle.mw_ustrings.specs.Faults.{FaultStops}

-- the part that a search tells
pub cut_found : (s : Bytes) (budget : ℕ) (found : Found) (m : Match) (n : ℕ) → IsMet budget found (search.Found m n) → cut s found.span found.tries ≡ cut_at s m.start m.end n
cut_found s budget found m n p = ap (λ o. cut s o found.tries) p.1 ∙ ap (cut_at s m.start m.end) (sym p.2)

pub cut_none : (s : Bytes) (budget : ℕ) (found : Found) (n : ℕ) → IsMet budget found (search.NotFound n) → cut s found.span found.tries ≡ (let p : Part = record { stop = length s; next = None; tries = n } in p)
cut_none s budget found n p = ap (λ o. cut s o found.tries) p.1 ∙ ap (cut s None) (sym p.2)

-- its tries are those of the search
tries_of_either : (b : Bool) (x y : Part) (n : ℕ) → x.tries ≡ n → y.tries ≡ n → (if b then x else y).tries ≡ n
tries_of_either true x y n e f = e
tries_of_either false x y n e f = f

tries_after_empty : (place n : ℕ) (xs : List Symbol) → (after_empty place n xs).tries ≡ n
tries_after_empty place n [] = refl
tries_after_empty place n (x ∷ []) = refl
tries_after_empty place n (x ∷ (y ∷ ys)) = refl

tries_of_cut : (s : Bytes) (o : Option (ℕ × ℕ)) (n : ℕ) → (cut s o n).tries ≡ n
tries_of_cut s None n = refl
tries_of_cut s (Some span) n = tries_of_either (nat_lt span.0 span.1) _ _ n refl (tries_after_empty span.0 n (points.symbols (drop span.0 s)))

pub cut_spent : (s : Bytes) (c : Cells) (at budget : ℕ) (found : Found) (h : Heap Proc) → IsMet budget found search.Spent → budget < (part_given s c at (cut s found.span found.tries) h).charge
cut_spent s c at budget found h p =
    let part = cut s found.span found.tries in
    let e : part.tries ≡ found.tries = tries_of_cut s found.span found.tries in
    let lt : budget < found.tries = p in
    omega (arith, e, lt)

-- a fault of the pattern
pub part_fault : (s : Bytes) (c : Cells) (place : Option ℕ) (sought : Result Sought ℕ) (e : PatternFault) (w t : StoreView) (end : Stop) → IsSoughtFault sought e → FaultStops w t e end
    → Stops (parted_by s c place sought w.heap) t end
part_fault s c place sought (fault.At n) w t end is stops = subst (λ x. Stops (parted_by s c place x w.heap) t end) (sym is) stops
part_fault s c place sought fault.NoMemory w t end is stops = subst (λ x. Stops (parted_by s c place sought w.heap) t x) (sym stops) tt
