-- VARIABLES at their places: read, written, captured and opened.
use Rattle.std.proofs.Common.{◌≡◌, ℕ, zero, suc, Bool, true, false, List, [], ◌∷◌, length, Option, Some, None, refl, sym, subst, ap, slice_get, slice_set}
use Rattle.std.specs.Prelude.{bytes_eq, if◌then◌else◌}
use Rattle.std.specs.Option.{option_map}
use Rattle.std.proofs.lemmas.Slice.Eq.{bytes_eq-Decides}
use Rattle.lua_slots.specs.PageRunOutcome.{Goes}
use Rattle.lua_heap.specs.Proc.{Proc}
use Rattle.lua_heap.specs.Value.{Value}
use Rattle.lua_heap.specs.Heap.{Heap, Ref, cel, Obj, CellObj, look, cell_at, set_cell_in, new_cell}
use Rattle.lua_heap.specs.Related.{Map, Grows, Each, none, more, Same, Stands, of_cell}
use Rattle.lua_heap.proofs.Carried.{sames-grow}
use Rattle.lua_heap.proofs.Places.{some_back, clash}
use Rattle.lua_heap.proofs.LookLaws.{look-new, look-fresh}
use Rattle.lua_heap.proofs.Steps.{moved-add_first, later-then, later-put_first}
use Rattle.lua_heap.proofs.Stood.{look-cell, stood-cell}
use Rattle.lua_heap.proofs.Changes.{moved-set_cell, moved-new_cell}
use Rattle.lua_slots.specs.LuaMeaningScope.{Bytes, Scope, Function, Levels, cell_of, with_name}
use Rattle.lua_slots.specs.LuaMeaningValues.{first, rest}
use Rattle.lua_slots.specs.LuaMeaningActs.{State, declare}
use Rattle.lua_library_agree.specs.LuaMeaningParts.{Local}
use Rattle.lua_library_agree.specs.LuaMeaningStatements.{assign_one}
use Rattle.lua_library_agree.specs.LuaMeaningExpressions.{variable}
use Rattle.lua_slots.specs.LuaMeaningWorld.{World}
use Rattle.lua_slots.specs.Code.{Place, Reg, Box, Up, CWorld}
use Rattle.lua_slots.specs.Sight.{Sighted, Everywhere, Here, Hidden, Sight, newest, deeper, with_local, with_locals, AreAsMany, up_of}
use Rattle.lua_slots.specs.IsCode.{is_plain, IsCaptured}
use Rattle.lua_slots.specs.Slots.{Slot, Plain, Activation, Slots, newest_function, function_of, slot_value, slot_cell, place_cell, cell_value, with_cell, and_cell, cells_at, read_place, write_place, opened, all_opened}
use Rattle.lua_slots.specs.Points.{SFrame, Point, Now}
use Rattle.lua_slots.specs.Errors as machine
use Rattle.lua_agree.specs.Variables.{Var, boxed, Vars, vnone, vplain, vboxed, Opens, as_many, one_more, SameVar, at_reg, at_box, at_up, HasCells, Inside}
use Rattle.lua_agree.specs.Functions.{SameFunction}
use Rattle.lua_agree.specs.Rests.{After, alone, dropped, SameRest}
use Rattle.lua_agree.specs.Agree.{Base, Rel}
use Rattle.lua_agree.specs.Follows.{Follows, sees, changes}
use Rattle.lua_agree.proofs.Variables.{kinds, cells-one, read-plain, write-plain, made-new, opens-then}
use Rattle.lua_agree.proofs.Carries.{inside-grows, function-grows}
use Rattle.lua_agree.proofs.Parts.{first-same, rest-same, one-value, values-on, rel-moved}

bytes_eq-true : (a b : Bytes) → bytes_eq a b ≡ true → a ≡ b
bytes_eq-true a b h = (bytes_eq-Decides a b).0 h

-- THE CELL of a place that is no plain register
boxed-cell : (m : Map) (h : Heap Function) (vars : List Var) (regs : List Slot) (i c : ℕ) → Vars m h vars regs → slice_get vars i ≡ Some (boxed c)
    → (d : ℕ) × (slot_cell (slice_get regs i) ≡ Some d) × (m.to (cel c) ≡ Some (cel d))
boxed-cell m h _ _ i c vnone e = cc
boxed-cell m h _ _ zero c (vplain d v w vars regs a b s n rest) e = kinds e
boxed-cell m h _ _ zero c (vboxed d r vars regs a rest) e = (r, refl, subst (λ z. m.to (cel z) ≡ Some (cel r)) (cells-one (boxed d) (boxed c) e) a)
boxed-cell m h _ _ (suc i) c (vplain d v w vars regs a b s n rest) e = boxed-cell m h vars regs i c rest e
boxed-cell m h _ _ (suc i) c (vboxed d r vars regs a rest) e = boxed-cell m h vars regs i c rest e

place-cell : (m : Map) (h : Heap Function) (vars : List Var) (regs : List Slot) (cells : List ℕ) (p : Place) (o : Option ℕ) → Vars m h vars regs → SameVar m vars cells p o → is_plain p ≡ false
    → (c : ℕ) × (d : ℕ) × (o ≡ Some c) × (place_cell regs cells p ≡ Some d) × (m.to (cel c) ≡ Some (cel d))
place-cell m h vars regs cells _ _ v (at_reg i c k) e = cc
place-cell m h vars regs cells _ _ v (at_box i c k) e = let b = boxed-cell m h vars regs i c v k in (c, b.0, refl, b.1, b.2)
place-cell m h vars regs cells _ _ v (at_up i c r k g) e = (c, r, refl, k, g)

cell_back : {x y : Value} → ◌≡◌ {A = Obj Function} (CellObj x) (CellObj y) → x ≡ y
cell_back e = cc

module _ (world : World) (code : CWorld) (B : Base) {m : Map} {vars : List Var} {h : State} {s : Slots} (r : Rel code B m vars h s) where
  -- READING
  stood-at : (c d : ℕ) → m.to (cel c) ≡ Some (cel d) → Same m (cell_at h.heap c) (cell_at s.heap d)
  stood-at c d e = (stood-cell (SameFunction code) m h.heap s.heap c d r.stands e).0

  read-same : (p : Place) (c : ℕ) (o : Option ℕ) → o ≡ Some c → SameVar m vars (function_of s).cells p o → Same m (cell_at h.heap c) (read_place s p)
  read-same _ c _ e (at_reg i d k) =
      let u = read-plain m h.heap vars s.regs i d r.open_ k in
      let a : cell_at h.heap d ≡ u.0 = cell_back (look-cell h.heap d _ u.2) in
      let b : slot_value (slice_get s.regs i) ≡ u.1 = ap slot_value u.4 in
      subst (λ z. Same m (cell_at h.heap z) (slot_value (slice_get s.regs i))) (some_back e) (rw (a, b) u.5)
  read-same _ c _ e (at_box i d k) =
      let b = boxed-cell m h.heap vars s.regs i d r.open_ k in
      subst (λ z. Same m (cell_at h.heap z) (cell_value s.heap (slot_cell (slice_get s.regs i)))) (some_back e) (subst (λ o. Same m (cell_at h.heap d) (cell_value s.heap o)) (sym b.1) (stood-at d b.0 b.2))
  read-same _ c _ e (at_up i d q k g) =
      subst (λ z. Same m (cell_at h.heap z) (cell_value s.heap (slice_get (function_of s).cells i))) (some_back e) (subst (λ o. Same m (cell_at h.heap d) (cell_value s.heap o)) (sym k) (stood-at d q g))

  module _ {k : After (List Value)} {fs : List SFrame} (g : SameRest code m vars s.functions k fs) where
    reads-at : (p : Place) (o : Option ℕ) (x : Bytes) (ls : Levels) → SameVar m vars (function_of s).cells p o → SameVar m vars (function_of s).cells p o → Follows world code B (variable o x ls (alone k)) h (machine.gives (read_place s p ∷ []) fs s)
    reads-at _ _ x ls (at_reg i c e) w = sees _ _ _ (values-on world code B r g (one-value (read-same _ c _ refl w)))
    reads-at _ _ x ls (at_box i c e) w = sees _ _ _ (values-on world code B r g (one-value (read-same _ c _ refl w)))
    reads-at _ _ x ls (at_up i c d e f) w = sees _ _ _ (values-on world code B r g (one-value (read-same _ c _ refl w)))

    pub reads : (p : Place) (o : Option ℕ) (x : Bytes) (ls : Levels) → SameVar m vars (function_of s).cells p o → Follows world code B (variable o x ls (alone k)) h (machine.gives (read_place s p ∷ []) fs s)
    reads p o x ls w = reads-at p o x ls w w

  -- WRITING
  cell-written : (c d : ℕ) {a b : Value} → m.to (cel c) ≡ Some (cel d) → Same m a b → Rel code B m vars (record h { heap = set_cell_in h.heap c a }) (record s { heap = set_cell_in s.heap d b })
  cell-written c d {a} {b} e f = rel-moved code r (moved-set_cell (SameFunction code) m h.heap s.heap c d a b r.stands e f)

  pub written : (p : Place) (c : ℕ) (o : Option ℕ) {a b : Value} → o ≡ Some c → SameVar m vars (function_of s).cells p o → Same m a b → Rel code B m vars (record h { heap = set_cell_in h.heap c a }) (write_place s p b)
  written _ c _ {a} {b} e (at_reg i d q) f =
      let u = read-plain m h.heap vars s.regs i d r.open_ q in
      let w = later-put_first (SameFunction code) m h.heap s.heap (cel d) (CellObj u.0) (CellObj a) r.stands u.3 (of_cell d a) u.2 in
      subst (λ z. Rel code B m vars (record h { heap = set_cell_in h.heap z a }) (record s { regs = slice_set s.regs i (Plain b) })) (some_back e)
      record {
        stands = w.1;
        open_ = write-plain m h.heap vars s.regs i d a b r.open_ q f;
        later = later-then (SameFunction code) B.map m m B.heap h.heap (set_cell_in h.heap d a) B.store s.heap s.heap r.later w.0;
        globals = r.globals;
        writable = r.writable;
        strings = r.strings;
        modules = r.modules;
        data_modules = r.data_modules;
        frames = r.frames;
      }
  written _ c _ {a} {b} e (at_box i d q) f =
      let u = boxed-cell m h.heap vars s.regs i d r.open_ q in
      subst (λ z. Rel code B m vars (record h { heap = set_cell_in h.heap z a }) (write_place s (Box i) b)) (some_back e)
      (subst (λ o. Rel code B m vars (record h { heap = set_cell_in h.heap d a }) (with_cell o b s)) (sym u.1) (cell-written d u.0 u.2 f))
  written _ c _ {a} {b} e (at_up i d q t u) f =
      subst (λ z. Rel code B m vars (record h { heap = set_cell_in h.heap z a }) (write_place s (Up i) b)) (some_back e)
      (subst (λ o. Rel code B m vars (record h { heap = set_cell_in h.heap d a }) (with_cell o b s)) (sym t) (cell-written d q u f))

  -- where a place is written, the functions in progress stay
  pub same-functions : (p : Place) (b : Value) → (write_place s p b).functions ≡ s.functions
  same-functions (Reg i) b = refl
  same-functions (Box i) b = go (slot_cell (slice_get s.regs i))
    where
      go : (o : Option ℕ) → (with_cell o b s).functions ≡ s.functions
      go (Some c) = refl
      go None = refl
  same-functions (Up i) b = go (slice_get (function_of s).cells i)
    where
      go : (o : Option ℕ) → (with_cell o b s).functions ≡ s.functions
      go (Some c) = refl
      go None = refl

  pub writes : (k : After (Unit {0})) {fs : List SFrame} → SameRest code m vars s.functions (dropped k) fs → (p : Place) (c : ℕ) {a b : Value} → SameVar m vars (function_of s).cells p (Some c) → Same m a b
      → Follows world code B (assign_one (Local c) a k) h (machine.gives [] fs (write_place s p b))
  writes k {fs} g p c {a} {b} e f =
      sees _ _ _ (sees _ _ _ (changes _ _ _ _
      (values-on world code B (written p c _ refl e f) (subst (λ fns. SameRest code m vars fns (dropped k) fs) (sym (same-functions p b)) g) none)))

-- CAPTURING: each captured name's cell stands as the captured cell
module _ (m : Map) (h : Heap Function) (vars : List Var) (regs : List Slot) (fns : List Activation) (see : Sight) (scope : Scope) (v : Vars m h vars regs) (i : Inside m vars fns see scope) where
  captured-at : (x : Bytes) (p : Place) → IsCaptured see x p → (c : ℕ) × (d : ℕ) × (cell_of scope.names x ≡ Some c) × (place_cell regs (newest_function fns).cells p ≡ Some d) × (m.to (cel c) ≡ Some (cel d))
  captured-at x p q = place-cell m h vars regs (newest_function fns).cells p (cell_of scope.names x) v (i.locals x p q.here) q.celled

  abbrev cells_of : List Place → List ℕ
  cells_of places = cells_at regs (newest_function fns).cells places

  next-up : (c j : ℕ) (cells : List ℕ) (o : Option ℕ) → SameVar m [] cells (Up j) o → SameVar m [] (c ∷ cells) (Up (suc j)) o
  next-up c _ cells _ (at_up j d r e f) = at_up (suc j) d r e f

  suc-back : (o : Option ℕ) (j : ℕ) → option_map suc o ≡ Some j → (n : ℕ) × (o ≡ Some n) × (j ≡ suc n)
  suc-back (Some n) j e = (n, refl, sym (some_back e))
  suc-back None j e = cc

  pub captures : (names : List Bytes) (places : List Place) → Each (IsCaptured see) names places → (x : Bytes) (j : ℕ) → up_of names x ≡ Some j → SameVar m [] (cells_of places) (Up j) (cell_of scope.names x)
  captures _ _ none x j e = cc
  captures _ _ (more n p names places q es) x j e =
      let c = captured-at n p q in
      subst (λ o. SameVar m [] (and_cell o (cells_of places)) (Up j) (cell_of scope.names x)) (sym c.3) (go c.0 c.1 c.2 c.4 (bytes_eq n x) refl (captures names places es x) e)
    where
      go : (c d : ℕ) → cell_of scope.names n ≡ Some c → m.to (cel c) ≡ Some (cel d) → (b : Bool) → bytes_eq n x ≡ b → ((k : ℕ) → up_of names x ≡ Some k → SameVar m [] (cells_of places) (Up k) (cell_of scope.names x))
          → (if b then Some 0 else option_map suc (up_of names x)) ≡ Some j → SameVar m [] (d ∷ cells_of places) (Up j) (cell_of scope.names x)
      go c d a g true k rec f =
          subst (λ z. SameVar m [] (d ∷ cells_of places) (Up z) (cell_of scope.names x)) (some_back f)
          (subst (λ o. SameVar m [] (d ∷ cells_of places) (Up 0) o) (sym (subst (λ z. cell_of scope.names z ≡ Some c) (bytes_eq-true n x k) a)) (at_up 0 c d refl g))
      go c d a g false k rec f =
          let u = suc-back (up_of names x) j f in
          subst (λ z. SameVar m [] (d ∷ cells_of places) (Up z) (cell_of scope.names x)) (sym u.2) (next-up d u.0 (cells_of places) _ (rec u.0 u.1))

  pub captures-held : (names : List Bytes) (places : List Place) → Each (IsCaptured see) names places → HasCells m (cells_of places)
  captures-held _ _ none = tt
  captures-held _ _ (more n p names places q es) =
      let c = captured-at n p q in
      subst (λ o. HasCells m (and_cell o (cells_of places))) (sym c.3) ((c.0, c.4), captures-held names places es)

-- OPENING
var-deeper : {m : Map} {v : Var} {vars : List Var} {cells : List ℕ} {p q : Place} {o : Option ℕ} → deeper (Here p) ≡ Here q → SameVar m vars cells p o → SameVar m (v ∷ vars) cells q o
var-deeper {m} {v} {vars} {cells} {q = q} {o = o} e (at_reg i c k) = subst (λ z. SameVar m (v ∷ vars) cells z (Some c)) (here_back e) (at_reg (suc i) c k)
  where
    here_back : {x y : Place} → Here x ≡ Here y → x ≡ y
    here_back e = cc
var-deeper {m} {v} {vars} {cells} {q = q} {o = o} e (at_box i c k) = subst (λ z. SameVar m (v ∷ vars) cells z (Some c)) (here_back e) (at_box (suc i) c k)
  where
    here_back : {x y : Place} → Here x ≡ Here y → x ≡ y
    here_back e = cc
var-deeper {m} {v} {vars} {cells} {q = q} {o = o} e (at_up i c r k f) = subst (λ z. SameVar m (v ∷ vars) cells z (Some c)) (here_back e) (at_up i c r k f)
  where
    here_back : {x y : Place} → Here x ≡ Here y → x ≡ y
    here_back e = cc

pub var-here : (m : Map) (b : Bool) (c : ℕ) (vars : List Var) (cells : List ℕ) → SameVar m (record { cell = c; boxed = b } ∷ vars) cells (newest b) (Some c)
var-here m true c vars cells = at_box 0 c refl
var-here m false c vars cells = at_reg 0 c refl

deeper-here : (x : Sighted) (q : Place) → deeper x ≡ Here q → (p : Place) × (x ≡ Here p) × (deeper (Here p) ≡ Here q)
deeper-here Everywhere q e = cc
deeper-here Hidden q e = cc
deeper-here (Here (Reg i)) q e = (Reg i, refl, e)
deeper-here (Here (Box i)) q e = (Box i, refl, e)
deeper-here (Here (Up i)) q e = (Up i, refl, e)

deeper-everywhere : (x : Sighted) → deeper x ≡ Everywhere → x ≡ Everywhere
deeper-everywhere Everywhere e = refl
deeper-everywhere Hidden e = cc
deeper-everywhere (Here (Reg i)) e = cc
deeper-everywhere (Here (Box i)) e = cc
deeper-everywhere (Here (Up i)) e = cc

-- one more variable is in front on both sides, whatever it is called
pub inside-more : (m : Map) (vars : List Var) (fns : List Activation) (see : Sight) (scope : Scope) (x : Bytes) (b : Bool) (c : ℕ) → Inside m vars fns see scope
    → Inside m (record { cell = c; boxed = b } ∷ vars) fns (with_local x b see) (with_name x c scope)
inside-more m vars fns see scope x b c i = record {
  locals = λ y p e. local y p (bytes_eq x y) e;
  globals = λ y e. global y (bytes_eq x y) e;
  dots = i.dots;
  levels = i.levels;
  source = i.source;
}
  where
    here_back : {x y : Place} → Here x ≡ Here y → x ≡ y
    here_back e = cc

    local : (y : Bytes) (p : Place) (t : Bool) → (if t then Here (newest b) else deeper (see y)) ≡ Here p
        → SameVar m (record { cell = c; boxed = b } ∷ vars) (newest_function fns).cells p (if t then Some c else cell_of scope.names y)
    local y p true e = subst (λ z. SameVar m (record { cell = c; boxed = b } ∷ vars) (newest_function fns).cells z (Some c)) (here_back e) (var-here m b c vars (newest_function fns).cells)
    local y p false e = let u = deeper-here (see y) p e in var-deeper u.2 (i.locals y u.0 u.1)

    global : (y : Bytes) (t : Bool) → (if t then Here (newest b) else deeper (see y)) ≡ Everywhere → (if t then Some c else cell_of scope.names y) ≡ None
    global y true e = cc
    global y false e = i.globals y (deeper-everywhere (see y) e)

-- what is open after one more
pub record Opened (code : CWorld) (B : Base) (m : Map) (all : List Var) (h : State) (s : Slots) : Type 0 where
  pub map : Map
  pub grows : Grows m map
  pub rel : Rel code B map all h s

to-none : (code : CWorld) (m : Map) (h : Heap Function) (s : Heap Proc) (q : Ref) → Stands (SameFunction code) m h s → look h q ≡ None → m.to q ≡ None
to-none code m h s q st e = go (m.to q) refl
  where
    go : (o : Option Ref) → m.to q ≡ o → m.to q ≡ None
    go None f = f
    go (Some r) f = let v = st.holds q r f in clash v.2 e

pub one-opened : (code : CWorld) {B : Base} {m : Map} {vars : List Var} {h : State} {s : Slots} (b : Bool) {v w : Value} → Rel code B m vars h s → Same m v w
    → Opened code B m (record { cell = length h.heap.cells; boxed = b } ∷ vars) (record h { heap = (new_cell h.heap v).0 }) (opened b w s)
one-opened code {B} {m} {vars} {h} {s} true {v} {w} r e =
    let p = moved-new_cell (SameFunction code) (function-grows code) m h.heap s.heap v w r.stands e in
    let q = rel-moved code r p.2 in
    record {
      map = p.0;
      grows = p.2.later.grows;
      rel = record {
        stands = q.stands;
        open_ = vboxed (length h.heap.cells) (length s.heap.cells) vars s.regs p.1 q.open_;
        later = q.later;
        globals = q.globals;
        writable = q.writable;
        strings = q.strings;
        modules = q.modules;
        data_modules = q.data_modules;
        frames = q.frames;
      };
    }
one-opened code {B} {m} {vars} {h} {s} false {v} {w} r e =
    let p = moved-add_first (SameFunction code) m h.heap s.heap (CellObj v) r.stands in
    let q = rel-moved code r p in
    let f : look h.heap (cel (length h.heap.cells)) ≡ None = look-fresh h.heap (CellObj v) in
    record {
      map = m;
      grows = λ x y z. z;
      rel = record {
        stands = q.stands;
        open_ = vplain (length h.heap.cells) v w vars s.regs (look-new h.heap (CellObj v)) (to-none code m h.heap s.heap (cel (length h.heap.cells)) r.stands f) e
            (made-new code m h.heap s.heap vars s.regs (length h.heap.cells) r.stands f r.open_) q.open_;
        later = q.later;
        globals = q.globals;
        writable = q.writable;
        strings = q.strings;
        modules = q.modules;
        data_modules = q.data_modules;
        frames = q.frames;
      };
    }

-- a declaration makes no event; what stands after it is what is asked of what follows
pub opens : (world : World) (code : CWorld) (B : Base) (names : List Bytes) (flags : List Bool) {m : Map} {vars : List Var} {h : State} {s : Slots} {see : Sight} {scope : Scope} {vs ws : List Value} (k : After Scope) (point : Point) (t : Slots)
    → AreAsMany names flags → Rel code B m vars h s → Inside m vars s.functions see scope → Each (Same m) vs ws → all_opened flags ws s ≡ t
    → ((n : Map) (all : List Var) (i : State) (scope' : Scope) → Grows m n → Opens vars all → Rel code B n all i t → Inside n all s.functions (with_locals names flags see) scope' → Follows world code B (k (Goes scope')) i (Now point t))
    → Follows world code B (declare names vs scope k) h (Now point t)
opens world code B [] [] {m} {vars} {h} {s} {see} {scope} k point t a r i e q next = next m vars h scope (λ x y z. z) (as_many vars) (subst (λ z. Rel code B m vars h z) q r) i
opens world code B [] (b ∷ bs) k point t a r i e q next = absurd a
opens world code B (x ∷ xs) [] k point t a r i e q next = absurd a
opens world code B (x ∷ xs) (b ∷ bs) {m} {vars} {h} {s} {see} {scope} {vs} {ws} k point t a r i e q next =
    let o = one-opened code b r (first-same e) in
    sees _ _ _ (sees _ _ _ (changes _ _ _ _
    (opens world code B xs bs {m = o.map} {vars = record { cell = length h.heap.cells; boxed = b } ∷ vars} {s = opened b (first ws) s} {see = with_local x b see} {scope = with_name x (length h.heap.cells) scope} k point t a o.rel
    (inside-more o.map vars s.functions see scope x b (length h.heap.cells) (inside-grows o.grows i))
    (sames-grow m o.map _ _ o.grows (rest-same e)) q
    (λ n all j scope' up op r' i'. next n all j scope' (λ x y z. up x y (o.grows x y z)) (opens-then vars _ all (one_more _ vars vars (as_many vars)) op) r' i'))))
