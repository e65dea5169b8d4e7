-- "Less" and "at most" go by how two values are ordered.
use Rattle.std.proofs.Common.{◌≡◌, ◌∙◌, ℕ, Bool, true, false, not, List, [], ◌∷◌, length, ◌<◌, Option, refl, sym, ap, arith}
use Rattle.std.specs.Prelude.{ℤ, ◌==◌, codes, int_lt, int_le}
use borrow.Author.Tests.{eqb-true}
use Rattle.lua_code.specs.LuaHeapProc.{Proc}
use Rattle.lua_code.specs.LuaHeapHeap.{Heap}
use Rattle.lua_code.specs.LuaHeapValue.{Value}
use Rattle.lua_code.specs.LuaMeaningMetatables.{common_handler}
use Rattle.lua_code.specs.LuaMeaningOperators.{text_less}
use Rattle.lua_arms.specs.LuaStoreDeclaredValueValue.{Value as Stored}
use Rattle.lua_arms.specs.LuaStoreDeclaredValueValueTheVariants as stored
use Rattle.lua_arms.specs.LuaStoreSeen.{text_at, seen}
use Rattle.lua_arms.specs.LuaSlotsSlots.{Slots}
use Rattle.lua_arms.specs.LuaSlotsPoints.{SFrame, Move}
use Rattle.lua_code.specs.LuaSlotsEnact.{Enacted, Funds, enact}
use Rattle.lua_code.specs.LuaSlotsOperators as machine
use Rattle.lua_operators.specs.declared.ordering.Order.{Order}
use Rattle.lua_operators.specs.declared.ordering.Order.TheVariants.{Numbers, Texts, Others}
use Rattle.lua_operators.specs.Orders.{order_as}

abbrev pub less_of : List (List ℕ) → Order → Value → Value → Option ℕ → List SFrame → Slots → Move
less_of texts (Numbers x y) a b line fs s = machine.answers false (int_lt x y) fs s
less_of texts (Texts x y) a b line fs s = machine.order_texts (text_at texts x.at) (text_at texts y.at) (text_less (text_at texts x.at) (text_at texts y.at)) fs s
less_of texts Others a b line fs s = machine.less_by (common_handler s.heap a b (codes "__lt")) a b line fs s

abbrev pub at_most_of : List (List ℕ) → Order → Value → Value → Option ℕ → List SFrame → Slots → Move
at_most_of texts (Numbers x y) a b line fs s = machine.answers false (int_le x y) fs s
at_most_of texts (Texts x y) a b line fs s = machine.order_texts (text_at texts x.at) (text_at texts y.at) (not (text_less (text_at texts y.at) (text_at texts x.at))) fs s
at_most_of texts Others a b line fs s = machine.at_most_by (common_handler s.heap a b (codes "__le")) (common_handler s.heap a b (codes "__lt")) a b line fs s

less_is : (texts : List (List ℕ)) (a b : Stored) (line : Option ℕ) (fs : List SFrame) (s : Slots) → machine.less (seen texts a) (seen texts b) line fs s ≡ less_of texts (order_as a b) (seen texts a) (seen texts b) line fs s
less_is texts (stored.Number x) (stored.Number y) line fs s = refl
less_is texts (stored.Number x) b line fs s = refl
less_is texts (stored.Text x) (stored.Text y) line fs s = refl
less_is texts (stored.Text x) b line fs s = refl
less_is texts a b line fs s = refl

at_most_is : (texts : List (List ℕ)) (a b : Stored) (line : Option ℕ) (fs : List SFrame) (s : Slots) → machine.at_most (seen texts a) (seen texts b) line fs s ≡ at_most_of texts (order_as a b) (seen texts a) (seen texts b) line fs s
at_most_is texts (stored.Number x) (stored.Number y) line fs s = refl
at_most_is texts (stored.Number x) b line fs s = refl
at_most_is texts (stored.Text x) (stored.Text y) line fs s = refl
at_most_is texts (stored.Text x) b line fs s = refl
at_most_is texts a b line fs s = refl

-- what comes of it, where it is known how they are ordered
pub less_as : (texts : List (List ℕ)) (a b : Stored) (o q : Order) (line : Option ℕ) (fs : List SFrame) (s : Slots) (f : Funds) (end : Enacted) → o ≡ order_as a b → o ≡ q
    → enact (less_of texts q (seen texts a) (seen texts b) line fs s) f ≡ end → enact (machine.less (seen texts a) (seen texts b) line fs s) f ≡ end
less_as texts a b o q line fs s f end e w h = ap (λ (m : Move). enact m f) (less_is texts a b line fs s ∙ ap (λ (z : Order). less_of texts z (seen texts a) (seen texts b) line fs s) (sym e ∙ w)) ∙ h

pub at_most_as : (texts : List (List ℕ)) (a b : Stored) (o q : Order) (line : Option ℕ) (fs : List SFrame) (s : Slots) (f : Funds) (end : Enacted) → o ≡ order_as a b → o ≡ q
    → enact (at_most_of texts q (seen texts a) (seen texts b) line fs s) f ≡ end → enact (machine.at_most (seen texts a) (seen texts b) line fs s) f ≡ end
at_most_as texts a b o q line fs s f end e w h = ap (λ (m : Move). enact m f) (at_most_is texts a b line fs s ∙ ap (λ (z : Order). at_most_of texts z (seen texts a) (seen texts b) line fs s) (sym e ∙ w)) ∙ h

pub less_numbers : (texts : List (List ℕ)) (a b : Stored) (o : Order) (x y m n : ℤ) (line : Option ℕ) (fs : List SFrame) (s : Slots) (f : Funds) (end : Enacted) → o ≡ order_as a b → o ≡ Numbers x y → m ≡ x → n ≡ y
    → enact (machine.answers false (int_lt m n) fs s) f ≡ end → enact (machine.less (seen texts a) (seen texts b) line fs s) f ≡ end
less_numbers texts a b o x y m n line fs s f end e w p q h =
    less_as texts a b o (Numbers x y) line fs s f end e w (ap (λ z. enact (machine.answers false (int_lt z y) fs s) f) (sym p) ∙ ap (λ z. enact (machine.answers false (int_lt m z) fs s) f) (sym q) ∙ h)

pub at_most_numbers : (texts : List (List ℕ)) (a b : Stored) (o : Order) (x y m n : ℤ) (line : Option ℕ) (fs : List SFrame) (s : Slots) (f : Funds) (end : Enacted) → o ≡ order_as a b → o ≡ Numbers x y → m ≡ x → n ≡ y
    → enact (machine.answers false (int_le m n) fs s) f ≡ end → enact (machine.at_most (seen texts a) (seen texts b) line fs s) f ≡ end
at_most_numbers texts a b o x y m n line fs s f end e w p q h =
    at_most_as texts a b o (Numbers x y) line fs s f end e w (ap (λ z. enact (machine.answers false (int_le z y) fs s) f) (sym p) ∙ ap (λ z. enact (machine.answers false (int_le m z) fs s) f) (sym q) ∙ h)

-- a handler that two values have in common, in the heap of the slots
pub handler_as : (h k : Heap Proc) (a b v : Value) (n m : List ℕ) → k ≡ h → n ≡ m → v ≡ common_handler h a b n → common_handler k a b m ≡ v
handler_as h k a b v n m e w q = ap (λ (x : Heap Proc). common_handler x a b m) e ∙ ap (λ (x : List ℕ). common_handler h a b x) (sym w) ∙ sym q

-- where the first of two texts is over, it is less if the second isn't
no_less : (y : ℕ) (ys : List ℕ) (t : Bool) → (length (y ∷ ys) == 0) ≡ t → not t ≡ true
no_less y ys false e = refl
no_less y ys true e = let none : length (y ∷ ys) ≡ 0 = eqb-true _ _ e in absurd (omega (arith, none))

pub less_ends : (a b : List ℕ) (e : Bool) → length a < 1 → e ≡ (length b == 0) → not e ≡ text_less a b
less_ends [] [] e h w = ap not w
less_ends [] (y ∷ ys) e h w = no_less y ys e (sym w)
less_ends (x ∷ xs) b e h w = absurd (omega (arith, h))
