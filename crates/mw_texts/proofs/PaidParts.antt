-- Sums of which one part was taken, or was not there.
use Rattle.std.proofs.Common.{◌≡◌, sym, subst, arith, ℕ, ◌+◌, ◌≤◌, Ok, Err}
use Rattle.std.specs.Prelude.{Result}
use Rattle.mw_ustrings.specs.WkBaseDeclaredLeftLeft.{Left}
use Rattle.mw_ustrings.specs.LuaBasicDeclaredStopStop.{Stop}
use Rattle.mw_ustrings.specs.LuaBasicDeclaredStopStopTheVariants as stop
use Rattle.mw_ustrings.specs.MwFramesCosts.{Took, Unpaid, Pays}
use Rattle.mw_ustrings.proofs.MwFramesSums.{took_then, unpaid_then}

pub pays_then : {A : Type 0} (a b : ℕ) (l m n : Left) (r : Result A Stop) → Took a l m → Pays b m n r → Pays (a + b) l n r
pays_then a b l m n (Ok x) t p = took_then a b l m n t p
pays_then a b l m n (Err e) t p = unpaid_then a b l m n e t p

lacked_more : (a n : ℕ) (l m : Left) (e : Stop) → Unpaid a l m e → a ≤ n → Unpaid n l m e
lacked_more a n l m stop.Spent u le = (omega (arith, u.0, le), u.1)
lacked_more a n l m (stop.Raised v k) u le = absurd u
lacked_more a n l m stop.NoMemory u le = absurd u

pub pays_less : {A : Type 0} (a n : ℕ) (l m : Left) (e : Stop) (r : Result A Stop) → Unpaid a l m e → a ≤ n → r ≡ Err e → Pays n l m r
pays_less a n l m e r u le is = subst (λ x. Pays n l m x) (sym is) (lacked_more a n l m e u le)
