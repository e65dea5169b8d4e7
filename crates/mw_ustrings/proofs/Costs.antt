-- Answers that are paid for.
use Rattle.std.proofs.Common.{◌≡◌, ◌∙◌, ap, sym, subst, refl, ℕ, ◌+◌, ◌<◌, ◌≤◌, List, Err}
use Rattle.std.specs.Prelude.{Result}
use Rattle.lua_number.specs.WkBaseDeclaredLeftLeft.{Left}
use Rattle.mw_frame_texts.specs.LuaHeapProc.{Proc}
use Rattle.mw_frame_texts.specs.LuaHeapHeap.{Heap}
use Rattle.mw_frame_texts.specs.LuaHeapValue as kind
use Rattle.mw_frame_texts.specs.LuaMeaningArguments.{Plain, Gives, costs}
use Rattle.mw_frame_texts.specs.LuaStoreDeclaredValueValue.{Value}
use Rattle.mw_frame_texts.specs.LuaStoreSeen.{StoreView}
use Rattle.mw_frame_texts.specs.LuaBasicDeclaredStopStop.{Stop}
use Rattle.mw_frame_texts.specs.LuaBasicDeclaredStopStopTheVariants as stop
use Rattle.mw_frame_texts.specs.LuaBasicSeen.{values_seen, Covers, Paid}
use Rattle.mw_frame_texts.specs.MwFramesCosts.{Took, Unpaid}
use Rattle.mw_frame_texts.proofs.MwFramesSums.{unpaid_then}
use Rattle.mw_frame_texts.proofs.Charged.{lacked}
use Rattle.mw_ustrings.specs.Charges.{UnpaidInMemory}

-- values that are given for so many steps
abbrev gave : ℕ → Heap Proc → List kind.Value → Plain Proc
gave n h vs = record { charge = n; heap = h; end = Gives vs }

pub values_cover : (n : ℕ) (h : Heap Proc) (t : StoreView) (l m : Left) (ws : List kind.Value) (vs : List Value) → Took n l m → t.heap ≡ h → values_seen t.texts vs ≡ ws
    → Covers (costs n h ws) l t m (Gives (values_seen t.texts vs))
values_cover n h t l m ws vs took heap seen = record {
  covered = took.0;
  answer = ap (λ x. gave n x ws) (sym heap) ∙ ap (λ x. gave n t.heap x) (sym seen);
  rest = took.1;
}

-- A second part of a sum is not there
pub lacked_second : (a b : ℕ) (p : Plain Proc) (s : StoreView) (l m n : Left) (e : Stop) (r : Result (List Value) Stop) → Took a l m → Unpaid b m n e → a + b ≤ p.charge → r ≡ Err e → Paid p s l s n r
lacked_second a b p s l m n e r took unpaid le is = lacked (a + b) p s l n e r (unpaid_then a b l m n e took unpaid) le is

-- A charge that exceeds what is left
pub exceeded : (p : Plain Proc) (s : StoreView) (l m : Left) (e : Stop) → l.steps < p.charge → e ≡ stop.Spent → m ≡ record l { steps = 0 } → Paid p s l s m (Err e)
exceeded p s l m e short is rest = subst (λ x. Paid p s l s m (Err x)) (sym is) (record { short = short; same = refl; rest = rest })

-- A charge that is not there, where memory may run out before
pub short_in_memory : (n : ℕ) (p : Plain Proc) (s : StoreView) (l m : Left) (e : Stop) (r : Result (List Value) Stop) → UnpaidInMemory n l m e → n ≤ p.charge → r ≡ Err e → Paid p s l s m r
short_in_memory n p s l m stop.NoMemory r u le is = subst (Paid p s l s m) (sym is) tt
short_in_memory n p s l m stop.Spent r u le is = lacked n p s l m stop.Spent r u le is
short_in_memory n p s l m (stop.Raised v level) r u le is = absurd u

pub unpaid_in_memory : (n : ℕ) (l m : Left) (e : Stop) → Unpaid n l m e → UnpaidInMemory n l m e
unpaid_in_memory n l m stop.Spent u = u
unpaid_in_memory n l m stop.NoMemory u = tt
unpaid_in_memory n l m (stop.Raised v level) u = u
