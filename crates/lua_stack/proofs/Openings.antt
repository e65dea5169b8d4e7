-- New local variables, one after another.
use Rattle.std.proofs.Common.{◌≡◌, ◌∙◌, ℕ, suc, Bool, List, [], ◌∷◌, length, drop, refl, sym, ap, subst}
use Rattle.std.proofs.Math.Seq.{drop-nil}
use Rattle.lua_store.specs.LuaHeapProc.{Proc}
use Rattle.lua_store.specs.LuaHeapHeap.{Heap}
use Rattle.lua_code.specs.LuaMeaningValues.{first, rest}
use Rattle.lua_store.specs.declared.value.Value.{Value}
use Rattle.lua_store.specs.Seen.{StoreView, seen}
use Rattle.lua_store.specs.Parts.{IsOf, IsLater}
use Rattle.lua_store.proofs.Later.{later-itself, later-then}
use Rattle.lua_code.specs.LuaSlotsSlots as slots
use Rattle.lua_code.specs.LuaSlotsSlots.{with_one, with_all}
use Rattle.lua_stack.specs.declared.register.Slot.{Slot}
use Rattle.lua_stack.specs.Lists.{first_stored, rest_stored}
use Rattle.lua_stack.specs.Seen.{values_seen, registers_seen}
use Rattle.lua_stack.specs.Of.{ValuesOf, RegistersOf}
use Rattle.lua_stack.proofs.Stay.{values_later}

pub first_seen : (texts : List (List ℕ)) (vs : List Value) → seen texts (first_stored vs) ≡ first (values_seen texts vs)
first_seen texts [] = refl
first_seen texts (v ∷ vs) = refl

pub rest_seen : (texts : List (List ℕ)) (vs : List Value) → values_seen texts (rest_stored vs) ≡ rest (values_seen texts vs)
rest_seen texts [] = refl
rest_seen texts (v ∷ vs) = refl

pub first_of : (s : StoreView) (vs : List Value) (v : Value) → v ≡ first_stored vs → ValuesOf s vs → IsOf s v
first_of s [] v e h = subst (IsOf s) (sym e) tt
first_of s (w ∷ vs) v e h = subst (IsOf s) (sym e) h.0

rest_of : (s : StoreView) (vs : List Value) → ValuesOf s vs → ValuesOf s (rest_stored vs)
rest_of s [] h = tt
rest_of s (w ∷ vs) h = h.1

drop_rest : (n : ℕ) (vs : List Value) → drop n (rest_stored vs) ≡ drop (suc n) vs
drop_rest n [] = drop-nil n
drop_rest n (v ∷ vs) = refl

-- some are open, and what is left to open gives what all gives
pub record Opens (s0 s : StoreView) (regs0 regs : List Slot) (flags left : List Bool) (vs0 vs : List Value) : Type 0 where
  pub opened : with_all left (values_seen s0.texts vs) (s.heap, registers_seen s0.texts regs) ≡ with_all flags (values_seen s0.texts vs0) (s0.heap, registers_seen s0.texts regs0)
  pub texts : s.texts ≡ s0.texts
  pub later : IsLater s0 s
  pub registers : RegistersOf s regs
  pub values : ValuesOf s vs
  pub left_ : drop (length left) vs ≡ drop (length flags) vs0

pub opens_first : (s : StoreView) (regs : List Slot) (flags : List Bool) (vs : List Value) → RegistersOf s regs → ValuesOf s vs → Opens s s regs regs flags flags vs vs
opens_first s regs flags vs h k = record { opened = refl; texts = refl; later = later-itself s; registers = h; values = k; left_ = refl }

module _ (s0 s t : StoreView) (regs0 regs regs' : List Slot) (flags left rest' : List Bool) (vs0 vs vs' : List Value) (b : Bool) (v : Value) (o : Opens s0 s regs0 regs flags left vs0 vs) where
  pub opens_next : left ≡ b ∷ rest' → v ≡ first_stored vs → vs' ≡ rest_stored vs → RegistersOf t regs' → IsLater s t → t.texts ≡ s.texts
      → (t.heap, registers_seen t.texts regs') ≡ with_one b (seen s.texts v) (s.heap, registers_seen s.texts regs) → Opens s0 t regs0 regs' flags rest' vs0 vs'
  opens_next e f r h l x w = record {
    opened =
        ap (λ z. with_all rest' z (t.heap, registers_seen s0.texts regs')) (ap (values_seen s0.texts) r ∙ rest_seen s0.texts vs)
        ∙ ap (with_all rest' (rest (values_seen s0.texts vs))) one
        ∙ ap (λ z. with_all z (values_seen s0.texts vs) (s.heap, registers_seen s0.texts regs)) (sym e) ∙ o.opened;
    texts = x ∙ o.texts;
    later = later-then s0 s t o.later l;
    registers = h;
    values = values_later s t l vs' (subst (ValuesOf s) (sym r) (rest_of s vs o.values));
    left_ = ap (drop (length rest')) r ∙ drop_rest (length rest') vs ∙ ap (λ (z : List Bool). drop (length z) vs) (sym e) ∙ o.left_;
  }
    where
      one : (t.heap, registers_seen s0.texts regs') ≡ with_one b (first (values_seen s0.texts vs)) (s.heap, registers_seen s0.texts regs)
      one =
          ap (λ (z : List (List ℕ)). let u : Heap Proc × List slots.Slot = (t.heap, registers_seen z regs') in u) (sym o.texts ∙ sym x) ∙ w
          ∙ ap (λ (z : List (List ℕ)). with_one b (seen z v) (s.heap, registers_seen z regs)) o.texts
          ∙ ap (λ z. with_one b z (s.heap, registers_seen s0.texts regs)) (ap (seen s0.texts) f ∙ first_seen s0.texts vs)

pub opens_all : (s0 s : StoreView) (regs0 regs : List Slot) (flags left : List Bool) (vs0 vs : List Value) → left ≡ [] → Opens s0 s regs0 regs flags left vs0 vs
    → (s.heap, registers_seen s.texts regs) ≡ with_all flags (values_seen s0.texts vs0) (s0.heap, registers_seen s0.texts regs0)
opens_all s0 s regs0 regs flags left vs0 vs e o =
    ap (λ (z : List (List ℕ)). let u : Heap Proc × List slots.Slot = (s.heap, registers_seen z regs) in u) o.texts
    ∙ ap (λ z. with_all z (values_seen s0.texts vs) (s.heap, registers_seen s0.texts regs)) (sym e) ∙ o.opened

pub opens_left : (s0 s : StoreView) (regs0 regs : List Slot) (flags left : List Bool) (vs0 vs : List Value) → left ≡ [] → Opens s0 s regs0 regs flags left vs0 vs → vs ≡ drop (length flags) vs0
opens_left s0 s regs0 regs flags left vs0 vs e o = ap (λ (z : List Bool). drop (length z) vs) (sym e) ∙ o.left_
