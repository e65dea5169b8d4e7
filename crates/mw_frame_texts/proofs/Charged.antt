-- Functions that have taken steps before, and arguments of which one of two is refused.
use Rattle.std.proofs.Common.{◌≡◌, ◌∙◌, ap, sym, subst, refl, arith, ℕ, ◌≤◌, List, [], ◌∷◌, length, Ok, Err}
use Rattle.std.specs.Prelude.{Result}
use Rattle.mw_frames.specs.WkBaseDeclaredLeftLeft.{Left}
use Rattle.mw_frames.specs.LuaHeapProc.{Proc}
use Rattle.mw_frames.specs.LuaHeapHeap.{Heap}
use Rattle.mw_frames.specs.LuaHeapValue as kind
use Rattle.mw_frames.specs.LuaMeaningScope.{Bytes}
use Rattle.mw_frames.specs.LuaMeaningArguments.{Plain, PlainEnd, Gives, Argument, with_argument, with_charge, gives_text}
use Rattle.mw_frames.specs.LuaMeaningTag.{and_then}
use Rattle.mw_frames.specs.LuaStoreDeclaredIdsTextId.{TextId}
use Rattle.mw_frames.specs.LuaStoreDeclaredValueValue.{Value}
use Rattle.mw_frames.specs.LuaStoreDeclaredValueValueTheVariants as own
use Rattle.mw_frames.specs.LuaStoreSeen.{StoreView, text_at}
use Rattle.mw_frames.specs.LuaBasicDeclaredStopStop.{Stop}
use Rattle.mw_frames.specs.LuaBasicDeclaredStopStopTheVariants as stop
use Rattle.mw_frames.specs.LuaBasicSeen.{values_seen, ends, Covers, IsShort, Paid, Refuses}
use Rattle.mw_frames.specs.Costs.{Took, Unpaid, MayPay}
use Rattle.mw_frames.proofs.Sums.{took_then, lacked_then}

-- STEPS WERE TAKEN before
charged_covers : (n : ℕ) (p : Plain Proc) (l m k : Left) (t : StoreView) (end : PlainEnd) → Took n l m → Covers p m t k end → Covers (with_charge n p) l t k end
charged_covers n p l m k t end took c =
    let both = took_then n p.charge l m k took (c.covered, c.rest) in
    record {
      covered = both.0;
      answer = ap (with_charge n) c.answer;
      rest = both.1;
    }

charged_short : (n : ℕ) (p : Plain Proc) (s : StoreView) (l m k : Left) (t : StoreView) → Took n l m → IsShort p s m t k → IsShort (with_charge n p) s l t k
charged_short n p s l m k t took c =
    let both = lacked_then n p.charge l m k took (c.short, c.rest) in
    record { short = both.0; same = c.same; rest = both.1 }

pub charged : (n : ℕ) (p : Plain Proc) (s : StoreView) (l m k : Left) (t : StoreView) (r : Result (List Value) Stop) → Took n l m → Paid p s m t k r → Paid (with_charge n p) s l t k r
charged n p s l m k t (Ok vs) took c = charged_covers n p l m k t _ took c
charged n p s l m k t (Err (stop.Raised v level)) took c = charged_covers n p l m k t _ took c
charged n p s l m k t (Err stop.Spent) took c = charged_short n p s l m k t took c
charged n p s l m k t (Err stop.NoMemory) took c = tt

-- or they were not there
pub not_charged : (n : ℕ) (p : Plain Proc) (s : StoreView) (l m : Left) (e : Stop) (r : Result (List Value) Stop) → Unpaid n l m e → r ≡ Err e → Paid (with_charge n p) s l s m r
not_charged n p s l m stop.Spent r lacked is = subst (Paid (with_charge n p) s l s m) (sym is) (record { short = omega (arith, lacked.0); same = refl; rest = lacked.1 })
not_charged n p s l m (stop.Raised v level) r lacked is = absurd lacked
not_charged n p s l m stop.NoMemory r lacked is = absurd lacked

pub not_charged_or : (n : ℕ) (p : Plain Proc) (s : StoreView) (l m : Left) (e : Stop) (r : Result (List Value) Stop) → MayPay {A = Unit {0}} n l m (Err e) → r ≡ Err e → Paid (with_charge n p) s l s m r
not_charged_or n p s l m stop.Spent r lacked is = not_charged n p s l m stop.Spent r lacked is
not_charged_or n p s l m (stop.Raised v level) r lacked is = absurd lacked
not_charged_or n p s l m stop.NoMemory r lacked is = subst (Paid (with_charge n p) s l s m) (sym is) tt

-- ONE OF TWO ARGUMENTS is refused
pub refuses_first : (a b : Argument Bytes) (s t : StoreView) (e : Stop) → Refuses a s t e → Refuses (and_then a b) s t e
refuses_first (Ok x) b s t e none = λ next. none (λ y. with_argument s.heap (and_then (Ok x) b) next)
refuses_first (Err message) b s t e none = λ next. none next

-- A CHARGE that is not there
pub lacked : (n : ℕ) (p : Plain Proc) (s : StoreView) (l m : Left) (e : Stop) (r : Result (List Value) Stop) → Unpaid n l m e → n ≤ p.charge → r ≡ Err e → Paid p s l s m r
lacked n p s l m stop.Spent r u le is = subst (Paid p s l s m) (sym is) (record { short = omega (arith, u.0, le); same = refl; rest = u.1 })
lacked n p s l m (stop.Raised v level) r u le is = absurd u
lacked n p s l m stop.NoMemory r u le is = absurd u

-- A TEXT that is made and paid for
abbrev a_text : ℕ → Heap Proc → Bytes → Plain Proc
a_text n h text = record { charge = n; heap = h; end = Gives (kind.Text text ∷ []) }

pub text_covers : (h : Heap Proc) (t : StoreView) (l m : Left) (text : Bytes) (vs : List Value) (id : TextId) → Took (length text) l m → vs ≡ own.Text id ∷ [] → text_at t.texts id.at ≡ text → t.heap ≡ h
    → Covers (gives_text h text) l t m (Gives (values_seen t.texts vs))
text_covers h t l m text vs id took is there heap = record {
  covered = took.0;
  answer = ap (λ x. a_text (length text) x text) (sym heap) ∙ ap (a_text (length text) t.heap) (sym there) ∙ ap (λ x. ends (length text) t (Gives (values_seen t.texts x))) (sym is);
  rest = took.1;
}
