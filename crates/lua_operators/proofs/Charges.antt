-- The order of two texts is paid for; a store stays; and nothing is spent.
use Rattle.std.proofs.Common.{◌≡◌, ◌∙◌, ℕ, ◌≤◌, min, Bool, false, List, length, sym, ap}
use Rattle.page_run.specs.WkBaseDeclaredLeftLeft.{Left}
use Rattle.page_run.specs.State.{Tally}
use Rattle.lua_code.specs.LuaHeapHeap.{Heap}
use Rattle.lua_code.specs.LuaHeapProc.{Proc}
use Rattle.lua_code.specs.LuaMeaningOperators.{text_less}
use Rattle.lua_arms.specs.LuaSlotsSlots.{Slots, with_heap}
use Rattle.lua_arms.specs.LuaSlotsPoints.{SFrame, Move}
use Rattle.lua_code.specs.LuaSlotsEnact.{Enacted, enact}
use Rattle.lua_code.specs.LuaSlotsOperators.{order_texts, answers}
use Rattle.lua_arms.proofs.LuaStackRaises.{pays, less_steps}
use Rattle.lua_arms.specs.declared.step.Step.TheVariants as step
use Rattle.lua_arms.specs.declared.step.Paid.{Paid}
use Rattle.lua_arms.specs.declared.step.Paid.TheVariants as paid
use Rattle.lua_arms.specs.Paid.{IfSpent}

-- texts whose order is paid for: `a` and `b` are their bytes, and `t` what is told of them
pub order_pays : (x y a b : List ℕ) (t u : Bool) (fs : List SFrame) (s : Slots) (in_progress : ℕ) (tally : Tally) (left after : Left) (mv : Move) → a ≡ x → b ≡ y → t ≡ u
    → min (length a) (length b) ≤ left.steps → after ≡ less_steps left (min (length a) (length b)) → answers false t fs s ≡ mv
    → enact (order_texts x y u fs s) (record { left = left; in_progress = in_progress; tally = tally }) ≡ enact mv (record { left = after; in_progress = in_progress; tally = tally })
order_pays x y a b t u fs s in_progress tally left after mv p q r h e w =
    ap (λ z. enact (order_texts z y u fs s) (record { left = left; in_progress = in_progress; tally = tally })) (sym p)
    ∙ ap (λ z. enact (order_texts a z u fs s) (record { left = left; in_progress = in_progress; tally = tally })) (sym q)
    ∙ ap (λ z. enact (order_texts a b z fs s) (record { left = left; in_progress = in_progress; tally = tally })) (sym r)
    ∙ pays (min (length a) (length b)) (answers false t fs s) (record { left = left; in_progress = in_progress; tally = tally }) h
    ∙ ap (λ (m : Move). enact m (record { left = less_steps left (min (length a) (length b)); in_progress = in_progress; tally = tally })) w
    ∙ ap (λ (l : Left). enact mv (record { left = l; in_progress = in_progress; tally = tally })) (sym e)

pub less_at : (x y a b : List ℕ) (t : Bool) → a ≡ x → b ≡ y → t ≡ text_less a b → t ≡ text_less x y
less_at x y a b t p q e = e ∙ ap (λ z. text_less z b) p ∙ ap (λ z. text_less x z) q

same_heap : (h : Heap Proc) (s : Slots) → s.heap ≡ h → with_heap h s ≡ s
same_heap h s e = ap (λ (x : Heap Proc). with_heap x s) (sym e)

-- what holds at the slots, at the heap of a store that stays
pub at_heap : (h : Heap Proc) (s : Slots) (x : Enacted) (g : Slots → Enacted) → x ≡ g s → s.heap ≡ h → x ≡ g (with_heap h s)
at_heap h s x g e q = e ∙ ap (λ (z : Slots). g z) (sym (same_heap h s q))

-- what holds, holds where the machine doesn't go on
pub if_spent : (r : Paid) (A : Type 0) → A → IfSpent r A
if_spent (paid.Spent which) A a = a
if_spent (paid.Goes (step.Fails line f)) A a = a
if_spent (paid.Goes (step.On f)) A a = tt
