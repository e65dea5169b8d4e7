-- Answers of a text that replaces, and calls that begin.
use Rattle.std.proofs.Common.{◌≡◌, ◌∙◌, ap, sym, subst, refl, arith, ℕ, ◌+◌, ◌<◌, ◌≤◌, List, [], ◌∷◌, length, Some, Ok, Err}
use Rattle.std.specs.Prelude.{Result, pos}
use Rattle.lua_number.specs.WkBaseDeclaredLeftLeft.{Left}
use Rattle.lua_pattern.specs.declared.read.PatternFault.TheVariants as fault
use Rattle.lua_iterators.specs.LuaHeapProc.{Proc}
use Rattle.lua_iterators.specs.LuaHeapHeap.{Heap}
use Rattle.lua_iterators.specs.LuaHeapValue as kind
use Rattle.lua_iterators.specs.LuaMeaningArguments.{Plain, fails, with_charge, Gives}
use Rattle.lua_replacing.specs.LuaMeaningChecks.{malformed}
use Rattle.lua_replacing.specs.LuaMeaningGsub.{Replaced, Made, Faulty, replaced_answer}
use Rattle.lua_replacing.specs.LuaStoreDeclaredValueValue.{Value}
use Rattle.lua_replacing.specs.LuaStoreSeen.{StoreView}
use Rattle.lua_iterators.specs.LuaBasicDeclaredStopStop.{Stop}
use Rattle.lua_iterators.specs.LuaBasicDeclaredStopStopTheVariants as stop
use Rattle.lua_iterators.specs.LuaBasicSeen.{values_seen, Covers, Stops, Paid}
use Rattle.lua_iterators.proofs.LuaBasicFound.{for_nothing}
use Rattle.lua_iterators.specs.MwFramesCosts.{Took, Lacked}
use Rattle.lua_iterators.proofs.MwFrameTextsCharged.{charged}
use Rattle.lua_iterators.proofs.MwUstringsCosts.{values_cover, exceeded}
use Rattle.lua_replacing.specs.declared.far.Far.{Far}
use Rattle.lua_gsubs.specs.declared.filling.Halt.{Halt}
use Rattle.lua_gsubs.specs.declared.filling.Halt.TheVariants as halt
use Rattle.lua_gsubs.specs.Parts.{charge_of, Halts, IsPaidText, HaltStops}

-- THE TEXT is given
pub made_covers : (whole : Replaced) (s t : StoreView) (l m : Left) (f : Far) (vs : List Value) → IsPaidText whole l m (Ok f) → t.heap ≡ s.heap → values_seen t.texts vs ≡ kind.Text f.text.items ∷ kind.Number (pos f.count) ∷ []
    → Covers (replaced_answer s.heap whole) l t m (Gives (values_seen t.texts vs))
made_covers whole s t l m f vs (n, took, is) heap seen =
    subst (λ x. Covers (replaced_answer s.heap x) l t m (Gives (values_seen t.texts vs))) (sym is) (values_cover n s.heap t l m (kind.Text f.text.items ∷ kind.Number (pos f.count) ∷ []) vs took heap seen)

-- or not
answer_charge : (h : Heap Proc) (x : Replaced) → charge_of x ≤ (replaced_answer h x).charge
answer_charge h (Made n text count) = omega arith
answer_charge h (Faulty n f) = omega arith

spent : (p : Plain Proc) (s t : StoreView) (l m : Left) (e : Stop) (n : ℕ) → Lacked n l m → n ≤ p.charge → e ≡ stop.Spent → t ≡ s → Paid p s l t m (Err e)
spent p s t l m e n lacked le is same = subst (λ u. Paid p s l u m (Err e)) (sym same) (exceeded p s l m e (omega (arith, lacked.0, le)) is lacked.1)

pub halted_pays : (whole : Replaced) (s t : StoreView) (l m : Left) (h : Halt) (e : Stop) → Halts whole l m h → HaltStops s t h e → Paid (replaced_answer s.heap whole) s l t m (Err e)
halted_pays whole s t l m halt.Spent e lacked (is, same) = spent (replaced_answer s.heap whole) s t l m e (charge_of whole) lacked (answer_charge s.heap whole) is same
halted_pays whole s t l m halt.NoCapture e (n, took, is) stops =
    subst (λ x. Paid (replaced_answer s.heap x) s l t m (Err e)) (sym is)
    (charged n (fails s.heap (malformed 7)) s l m m t (Err e) took (for_nothing (fails s.heap (malformed 7)) s t m (Err e) stops))
halted_pays whole s t l m halt.NoMemory e p is = subst (λ x. Paid (replaced_answer s.heap whole) s l t m (Err x)) (sym is) tt
