-- Registers that stand for variables: reading, writing, opening, cutting, and what leaves them.
use Rattle.std.proofs.Common.{◌≡◌, ℕ, zero, suc, ◌≤◌, ◌-◌, Bool, true, false, List, [], ◌∷◌, length, Option, Some, None, refl, sym, ◌∙◌, ap, subst, slice_get, slice_set, arith, inl, inr}
use Rattle.std.specs.Prelude.{drop}
use Rattle.lua_heap.specs.Value.{Value}
use Rattle.lua_heap.specs.Heap.{Heap, Ref, cel, Obj, CellObj, look, put}
use Rattle.lua_heap.specs.Related.{Map, Grows, Same, Stands, Later, Moved, of_cell}
use Rattle.lua_heap.proofs.Carried.{same-grows}
use Rattle.lua_heap.proofs.Places.{clash}
use Rattle.lua_heap.proofs.LookLaws.{look-put, look-put_other}
use Rattle.lua_heap.specs.Proc.{Proc}
use Rattle.lua_slots.specs.LuaMeaningScope.{Function}
use Rattle.lua_slots.specs.Code.{CWorld}
use Rattle.lua_slots.specs.Slots.{Slot, Plain, Boxed, cut_to}
use Rattle.lua_agree.specs.Variables.{Var, plain, boxed, IsNew, Vars, vnone, vplain, vboxed, Opens, as_many, one_more}
use Rattle.lua_agree.specs.Functions.{SameFunction}

-- two variables that are one
pub kinds : {A : Type 0} {c d : ℕ} → Some (plain d) ≡ Some (boxed c) → A
kinds e = let k : false ≡ true = ap is_boxed e in cc
  where
    is_boxed : Option Var → Bool
    is_boxed (Some v) = v.boxed
    is_boxed None = false

pub cells-one : (v w : Var) → Some v ≡ Some w → v.cell ≡ w.cell
cells-one v w e = ap var_cell e
  where
    var_cell : Option Var → ℕ
    var_cell (Some v) = v.cell
    var_cell None = 0

pub vars-length : (m : Map) (h : Heap Function) (vars : List Var) (regs : List Slot) → Vars m h vars regs → length regs ≡ length vars
vars-length m h _ _ vnone = refl
vars-length m h _ _ (vplain c v w vars regs a b s n rest) = ap suc (vars-length m h vars regs rest)
vars-length m h _ _ (vboxed c r vars regs a rest) = ap suc (vars-length m h vars regs rest)

-- what the registers stand for is as it was after whatever keeps private cells
pub vars-kept : (m n : Map) (h i : Heap Function) (vars : List Var) (regs : List Slot) → Grows m n
    → ((c : ℕ) (v : Value) → look h (cel c) ≡ Some (CellObj v) → m.to (cel c) ≡ None → (look i (cel c) ≡ Some (CellObj v)) × (n.to (cel c) ≡ None))
    → Vars m h vars regs → Vars n i vars regs
vars-kept m n h i _ _ g k vnone = vnone
vars-kept m n h i _ _ g k (vplain c v w vars regs a b s new rest) = let z = k c v a b in vplain c v w vars regs z.0 z.1 (same-grows m n v w g s) new (vars-kept m n h i vars regs g k rest)
vars-kept m n h i _ _ g k (vboxed c r vars regs a rest) = vboxed c r vars regs (g _ _ a) (vars-kept m n h i vars regs g k rest)

still-none : (m n : Map) (h i : Heap Function) (s t : Heap Proc) (q : Ref) (a : Obj Function) → Later m n h i s t → look h q ≡ Some a → m.to q ≡ None → n.to q ≡ None
still-none m n h i s t q a l e f = go (n.to q) refl
  where
    go : (o : Option Ref) → n.to q ≡ o → n.to q ≡ None
    go None g = g
    go (Some r) g = elim (l.news q r g) [ inl z ↦ clash z f | inr z ↦ clash e z.0 ]

pub vars-moved : (code : CWorld) (m n : Map) (h i : Heap Function) (s t : Heap Proc) (vars : List Var) (regs : List Slot) → Moved (SameFunction code) m n h i s t → Vars m h vars regs → Vars n i vars regs
vars-moved code m n h i s t vars regs v = vars-kept m n h i vars regs v.later.grows (λ c w a b. (v.private (cel c) _ a b, still-none m n h i s t (cel c) _ v.later a b))

-- a plain register
pub read-plain : (m : Map) (h : Heap Function) (vars : List Var) (regs : List Slot) (j c : ℕ) → Vars m h vars regs → slice_get vars j ≡ Some (plain c)
    → (v : Value) × (w : Value) × (look h (cel c) ≡ Some (CellObj v)) × (m.to (cel c) ≡ None) × (slice_get regs j ≡ Some (Plain w)) × Same m v w
read-plain m h _ _ j c vnone e = cc
read-plain m h _ _ zero c (vplain d v w vars regs a b s n rest) e =
    let k : d ≡ c = cells-one (plain d) (plain c) e in
    (v, w, subst (λ z. look h (cel z) ≡ Some (CellObj v)) k a, subst (λ z. m.to (cel z) ≡ None) k b, refl, s)
read-plain m h _ _ zero c (vboxed d r vars regs a rest) e = kinds (sym e)
read-plain m h _ _ (suc j) c (vplain d v w vars regs a b s n rest) e = read-plain m h vars regs j c rest e
read-plain m h _ _ (suc j) c (vboxed d r vars regs a rest) e = read-plain m h vars regs j c rest e

new-not : (vars : List Var) (d j c : ℕ) → IsNew d vars → slice_get vars j ≡ Some (plain c) → d ≡ c → ⊥
new-not [] d j c n e f = cc
new-not (v ∷ vars) d zero c n e f = n.0 (f ∙ sym (cells-one v (plain c) e))
new-not (v ∷ vars) d (suc j) c n e f = new-not vars d j c n.1 e f

cel-one : {c d : ℕ} → cel c ≡ cel d → c ≡ d
cel-one e = cc

-- another cell changes
vars-other : (m : Map) (h : Heap Function) (vars : List Var) (regs : List Slot) (c : ℕ) (x : Value) → IsNew c vars → Vars m h vars regs → Vars m (put h (cel c) (CellObj x)) vars regs
vars-other m h _ _ c x new vnone = vnone
vars-other m h _ _ c x new (vplain d v w vars regs a b s n rest) =
    vplain d v w vars regs (look-put_other h (cel c) (cel d) (CellObj x) (λ e. new.0 (sym (cel-one e))) ∙ a) b s n (vars-other m h vars regs c x new.1 rest)
vars-other m h _ _ c x new (vboxed d r vars regs a rest) = vboxed d r vars regs a (vars-other m h vars regs c x new.1 rest)

pub write-plain : (m : Map) (h : Heap Function) (vars : List Var) (regs : List Slot) (j c : ℕ) (x y : Value) → Vars m h vars regs → slice_get vars j ≡ Some (plain c) → Same m x y
    → Vars m (put h (cel c) (CellObj x)) vars (slice_set regs j (Plain y))
write-plain m h _ _ j c x y vnone e f = cc
write-plain m h _ _ zero c x y (vplain d v w vars regs a b s n rest) e f =
    let k : d ≡ c = cells-one (plain d) (plain c) e in
    subst (λ z. Vars m (put h (cel z) (CellObj x)) (plain d ∷ vars) (Plain y ∷ regs)) k
    (vplain d x y vars regs (look-put h (cel d) (CellObj v) (CellObj x) (of_cell d x) a) b f n (vars-other m h vars regs d x n rest))
write-plain m h _ _ zero c x y (vboxed d r vars regs a rest) e f = kinds (sym e)
write-plain m h _ _ (suc j) c x y (vplain d v w vars regs a b s n rest) e f =
    vplain d v w vars (slice_set regs j (Plain y)) (look-put_other h (cel c) (cel d) (CellObj x) (λ z. new-not vars d j c n e (cel-one z)) ∙ a) b s n (write-plain m h vars regs j c x y rest e f)
write-plain m h _ _ (suc j) c x y (vboxed d r vars regs a rest) e f = vboxed d r vars (slice_set regs j (Plain y)) a (write-plain m h vars regs j c x y rest e f)

-- a cell that is made is of no variable
pub made-new : (code : CWorld) (m : Map) (h : Heap Function) (s : Heap Proc) (vars : List Var) (regs : List Slot) (c : ℕ) → Stands (SameFunction code) m h s → look h (cel c) ≡ None → Vars m h vars regs → IsNew c vars
made-new code m h s _ _ c st e vnone = tt
made-new code m h s _ _ c st e (vplain d v w vars regs a b f n rest) = ((λ z. clash a (subst (λ x. look h (cel x) ≡ None) z e)), made-new code m h s vars regs c st e rest)
made-new code m h s _ _ c st e (vboxed d r vars regs a rest) = ((λ z. let v = st.holds (cel d) (cel r) a in clash v.2 (subst (λ x. look h (cel x) ≡ None) z e)), made-new code m h s vars regs c st e rest)

-- cutting
pub opens-length : (vs ws : List Var) → Opens vs ws → length vs ≤ length ws
opens-length _ _ (as_many vs) = omega arith
opens-length _ _ (one_more v vs ws o) = let k = opens-length vs ws o in omega (arith, k)

pub opens-then : (us vs ws : List Var) → Opens us vs → Opens vs ws → Opens us ws
opens-then us _ _ a (as_many vs) = a
opens-then us _ _ a (one_more v vs ws o) = one_more v us ws (opens-then us vs ws a o)

sub-same : (a b : ℕ) → a ≡ b → a - b ≡ 0
sub-same a b e = omega arith

sub-suc : (a b : ℕ) → b ≤ a → suc a - b ≡ suc (a - b)
sub-suc a b e = omega arith

cut-one : (r : Slot) (regs : List Slot) (d : ℕ) → d ≤ length regs → cut_to d (r ∷ regs) ≡ cut_to d regs
cut-one r regs d e = ap (λ n. drop n (r ∷ regs)) (sub-suc (length regs) d e)

pub vars-cut : (m : Map) (h : Heap Function) (vars all : List Var) (regs : List Slot) → Opens vars all → Vars m h all regs → Vars m h vars (cut_to (length vars) regs)
vars-cut m h _ _ regs (as_many vs) v = subst (λ n. Vars m h vs (drop n regs)) (sym (sub-same _ _ (vars-length m h vs regs v))) v
vars-cut m h _ _ _ (one_more u vs ws o) (vplain d v w vars regs a b s n rest) =
    let k = opens-length vs ws o in
    let l = vars-length m h ws regs rest in
    subst (λ z. Vars m h vs z) (sym (cut-one (Plain w) regs (length vs) (subst (λ z. length vs ≤ z) (sym l) k))) (vars-cut m h vs ws regs o rest)
vars-cut m h _ _ _ (one_more u vs ws o) (vboxed d r vars regs a rest) =
    let k = opens-length vs ws o in
    let l = vars-length m h ws regs rest in
    subst (λ z. Vars m h vs z) (sym (cut-one (Boxed r) regs (length vs) (subst (λ z. length vs ≤ z) (sym l) k))) (vars-cut m h vs ws regs o rest)
