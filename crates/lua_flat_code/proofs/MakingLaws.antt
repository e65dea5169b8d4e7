-- What is made stays made: steps between states, operations that stand, and jumps that get their targets.
use Rattle.std.proofs.Common.{◌≡◌, ◌∙◌, ◌≤◌, ◌<◌, ◌-◌, ℕ, zero, suc, ◌+◌, ◌^◌, Bool, true, false, List, [], ◌∷◌, ◌++◌, length, slice_get, slice_set, Some, refl, sym, ap, subst, arith, inl, inr, ◌⊎◌}
use Rattle.std.specs.Prelude.{nat_eq, nat_lt}
use Rattle.std.proofs.lemmas.Bool.{lt-ltb}
use Rattle.lua_heap.proofs.Places.{get-seam, get-left, get-set}
use Rattle.lua_flat.specs.Operations as flat
use Rattle.lua_flat.specs.Locals as locals
use Rattle.lua_flat_code.specs.declared.operand.Operand.{Operand}
use Rattle.lua_flat_code.specs.declared.op.Op.{Op}
use Rattle.lua_flat_code.specs.declared.op.Op.TheVariants as op
use Rattle.lua_flat_code.specs.declared.maker.Lined.{Lined}
use Rattle.lua_flat_code.specs.Seen.{Tables, operand_seen, op_seen}
use Rattle.lua_flat_code.specs.Making.{State, place, aim_when, aim, aimed, target_of, AllLead, Final, Stands, Later, Next, begun, lined, emitted, Settled, settled, pays, Relieved, as_was, relieves, IsAimed, Reached, Led, AllLed, LedSoFar}

-- LISTS
pub length_snoc : {A : Type 0} (xs : List A) (x : A) → length (xs ++ x ∷ []) ≡ length xs + 1
length_snoc [] x = refl
length_snoc (y ∷ xs) x = ap suc (length_snoc xs x) ∙ omega arith

pub length_set : {A : Type 0} (xs : List A) (n : ℕ) (y : A) → length (slice_set xs n y) ≡ length xs
length_set [] n y = refl
length_set (x ∷ xs) zero y = refl
length_set (x ∷ xs) (suc n) y = ap suc (length_set xs n y)

-- what stood at a place is still there, or it is the place that was set
set_cases : {A : Type 0} (xs : List A) (n k : ℕ) (x y : A) → slice_get xs k ≡ Some x → ((k ≡ n) × (slice_get (slice_set xs n y) k ≡ Some y)) ⊎ (slice_get (slice_set xs n y) k ≡ Some x)
set_cases [] n k x y e = cc
set_cases (z ∷ xs) zero zero x y e = inl (refl, refl)
set_cases (z ∷ xs) zero (suc k) x y e = inr e
set_cases (z ∷ xs) (suc n) zero x y e = inr e
set_cases (z ∷ xs) (suc n) (suc k) x y e = elim (set_cases xs n k x y e) [ inl p ↦ inl (ap suc p.0, p.1) | inr p ↦ inr p ]

pub same_there : {A : Type 0} (x y : A) → Some x ≡ Some y → x ≡ y
same_there x y e = cc

-- STATES
pub next_same : (s : State) → Next s s
next_same s = λ f l. l

pub next_trans : (s t u : State) → Next s t → Next t u → Next s u
next_trans s t u h k = λ f l. h f (k f l)

pub next_begun : (s : State) → Next s (begun s)
next_begun s = λ f l. record { texts = l.texts; constants = l.constants; cells = l.cells; origins = l.origins; steps = l.steps; registers = l.registers }

-- what is owed, local variables and jumps out of loops are no part of what stays
pub next_aside : (c : ℕ) (ls : List locals.Local) (jumps : List ℕ) (s : State) → Next s (record s { owed = c; locals = ls; breaks = jumps })
next_aside c ls jumps s = λ f l. record { texts = l.texts; constants = l.constants; cells = l.cells; origins = l.origins; steps = l.steps; registers = l.registers }

pub next_row : (r : ℕ) (ls : List locals.Local) (s : State) → s.registers ≤ r → Next s (record s { registers = r; locals = ls })
next_row r ls s more = λ f l.
    let room : r ≤ f.code.registers = l.registers in
    record { texts = l.texts; constants = l.constants; cells = l.cells; origins = l.origins; steps = l.steps; registers = omega (arith, more, room) }

pub next_emitted : (o : Op) (line : ℕ) (s : State) → Next s (emitted o line s)
next_emitted o line s = λ f l. record {
  texts = l.texts;
  constants = l.constants;
  cells = l.cells;
  origins = l.origins;
  steps = λ at m e. l.steps at m (get-left s.steps (lined o line s ∷ []) at m e);
  registers = l.registers;
}

pub stands_emitted : (o : Op) (line : ℕ) (s : State) (f : Final) → Later (emitted o line s) f → Stands f (place s) (lined o line s)
stands_emitted o line s f l = l.steps (place s) (lined o line s) (get-seam s.steps (lined o line s))

pub next_reached : (n : ℕ) (s t : State) → Reached n s t → Next s t
next_reached n s t h = λ f l.
    let k : Later (record s { registers = t.registers }) f = subst (λ u. Later u f) h.same l in
    let more : s.registers ≤ t.registers = h.more in
    let room : t.registers ≤ f.code.registers = k.registers in
    record { texts = k.texts; constants = k.constants; cells = k.cells; origins = k.origins; steps = k.steps; registers = omega (arith, more, room) }

-- a register that was reached is there at the end
pub has_room : (n : ℕ) (s t : State) (f : Final) → Reached n s t → Later t f → n ≤ f.code.registers
has_room n s t f h l =
    let enough : n ≤ t.registers = h.enough in
    let room : t.registers ≤ f.code.registers = l.registers in
    omega (arith, enough, room)

pub is_register : (k : Tables) (o : Operand) (r : ℕ) → o.code ≡ r → r < 2 ^ 31 → operand_seen k o ≡ flat.RegisterO r
is_register k o r e below =
    let low : nat_lt o.code (2 ^ 31) ≡ true = lt-ltb o.code (2 ^ 31) (subst (λ n. n < 2 ^ 31) (sym e) below) in
    rw low (ap flat.RegisterO e)

pub is_settled : (s : State) → s.owed ≡ 0 → Settled s s
is_settled s none = settled none

pub is_paid : (s t : State) → t ≡ emitted op.Pay 0 s → Settled s t
is_paid s t is = pays is

pub relieved_same : (s : State) → Relieved s s
relieved_same s = as_was

pub relieved_paid : (s t : State) → t ≡ emitted op.Pay 0 s → Relieved s t
relieved_paid s t is = relieves is

-- TARGETS
pub aim_closed : (again to : ℕ) → nat_eq to (2 ^ 32 - 1) ≡ false → aim again to ≡ to
aim_closed again to e = ap (λ b. aim_when b again to) e

aim_again : (to target u : ℕ) → aim to (aim target u) ≡ aim (aim to target) u
aim_again to target u = both (nat_eq u (2 ^ 32 - 1)) refl
  where
    both : (b : Bool) → nat_eq u (2 ^ 32 - 1) ≡ b → aim to (aim target u) ≡ aim (aim to target) u
    both true e = ap (aim to) (ap (λ b. aim_when b target u) e) ∙ sym (ap (λ b. aim_when b (aim to target) u) e)
    both false e = ap (aim to) (ap (λ b. aim_when b target u) e) ∙ ap (λ b. aim_when b to u) e ∙ sym (ap (λ b. aim_when b (aim to target) u) e)

aimed_again : (to target : ℕ) (o : Op) → aimed to (aimed target o) ≡ aimed (aim to target) o
aimed_again to target (op.Jump u) = ap op.Jump (aim_again to target u)
aimed_again to target (op.Test when a u) = ap (op.Test when a) (aim_again to target u)
aimed_again to target (op.Compare which a b when u) = ap (op.Compare which a b when) (aim_again to target u)
aimed_again to target (op.CountBegins base u) = ap (op.CountBegins base) (aim_again to target u)
aimed_again to target (op.EachTests base u) = ap (op.EachTests base) (aim_again to target u)
aimed_again to target o = refl

stands_aimed : (f : Final) (at target : ℕ) (l m : Lined) → IsAimed target l m → Stands f at m → Stands f at l
stands_aimed f at target l m aims st =
    let moved : Stands f at (record { charge = l.charge; op = aimed target l.op; line = l.line }) = subst (Stands f at) aims.aims st in
    record {
      to = aim moved.to target;
      has = (subst (λ o. slice_get f.code.steps at ≡ Some (record { charge = l.charge; op = op_seen f.tables o })) (aimed_again moved.to target l.op) moved.has.0, moved.has.1);
    }

pub led : (at target : ℕ) (l m : Lined) (s t : State) → slice_get s.steps at ≡ Some l → IsAimed target l m → t ≡ record s { steps = slice_set s.steps at m } → Led at target s t
led at target l m s t is aims e = subst (Led at target s) (sym e) (record {
  same = refl;
  place = length_set s.steps at m;
  next = λ f k. record {
    texts = k.texts;
    constants = k.constants;
    cells = k.cells;
    origins = k.origins;
    steps = λ n x h. elim (set_cases s.steps at n x m h) [ inl p ↦ here f k n x h p | inr q ↦ k.steps n x q ];
    registers = k.registers;
  };
  leads = λ f k x h.
      let st = k.steps at m (get-set s.steps at l m is) in
      let same : record { charge = m.charge; op = op_seen f.tables (aimed st.to m.op) } ≡ x = same_there _ _ (sym st.has.0 ∙ h) in
      subst (λ (y : flat.Step). target_of y.op ≡ Some target) same (aims.leads f.tables st.to);
})
  where
    here : (f : Final) → Later (record s { steps = slice_set s.steps at m }) f → (n : ℕ) (x : Lined) → slice_get s.steps n ≡ Some x
        → (n ≡ at) × (slice_get (slice_set s.steps at m) n ≡ Some m) → Stands f n x
    here f k n x h p =
        let same : l ≡ x = same_there l x (sym is ∙ ap (slice_get s.steps) (sym p.0) ∙ h) in
        subst (Stands f n) same (stands_aimed f n target l m aims (k.steps n m p.1))

-- MANY JUMPS
pub led_start : (jumps : List ℕ) (target : ℕ) (s : State) → LedSoFar jumps jumps target s s
led_start jumps target s = record { same = refl; place = refl; next = next_same s; lead = λ f l h. h }

pub led_step : (jumps left more : List ℕ) (at target : ℕ) (s t u : State) → LedSoFar jumps left target s t → left ≡ at ∷ more → Led at target t u → LedSoFar jumps more target s u
led_step jumps left more at target s t u so is one = record {
  same = subst (λ (v : State). u ≡ record v { steps = u.steps }) so.same one.same;
  place = one.place ∙ so.place;
  next = next_trans s t u so.next one.next;
  lead = λ f l h. so.lead f (one.next f l) (subst (λ js. AllLead f.code js target) (sym is) (one.leads f l, h));
}

pub led_end : (jumps left : List ℕ) (target : ℕ) (s t : State) → LedSoFar jumps left target s t → left ≡ [] → AllLed jumps target s t
led_end jumps left target s t so is = record { same = so.same; place = so.place; next = so.next; lead = λ f l. so.lead f l (subst (λ js. AllLead f.code js target) (sym is) tt) }
