-- What moves are made of: values and jumps for what follows, errors, handlers, calls.
use Rattle.std.proofs.Common.{◌≡◌, ◌∙◌, IsTrue, ℕ, zero, suc, Bool, true, false, List, [], ◌∷◌, ◌++◌, length, drop, Option, Some, None, refl, sym, subst, ap}
use Rattle.std.specs.Prelude.{codes, if◌then◌else◌}
use Rattle.lua_slots.specs.PageRunOutcome.{Outcome, Goes, Jumps}
use Rattle.lua_heap.specs.LuaTableEntries.{Contents}
use Rattle.lua_heap.specs.Proc.{Proc}
use Rattle.lua_heap.specs.Value.{Value, Closure, is_true}
use Rattle.lua_heap.specs.Heap.{Heap, tab, Obj, TableObj, Closed, table_at, closure_at}
use Rattle.lua_heap.specs.Table.{get}
use Rattle.lua_heap.specs.Related.{Map, Each, none, more, Same, nil, truth, text, table, closure, builtin, SameClosed, functions, iterators, Stands, Moved}
use Rattle.lua_heap.proofs.Entries.{nil-related, get-related, same-related}
use Rattle.lua_heap.proofs.Steps.{one_to_one, later-then}
use Rattle.lua_heap.proofs.Stood.{look-table, stood-table, stood-closure}
use Rattle.lua_slots.specs.LuaMeaningScope.{Bytes, Place as TextPlace, Function, Levels}
use Rattle.lua_slots.specs.LuaMeaningValues.{first, rest, second, third, is_function, number_in, text_in, kind_of}
use Rattle.lua_slots.specs.LuaMeaningCallBacks.{text_of}
use Rattle.lua_slots.specs.LuaMeaningActs.{Act, Jump, State, Body, LibraryBody, CallLink, LuaRun, Progress, Frame, choose}
use Rattle.lua_slots.specs.LuaMeaningTitled.{ByTitle}
use Rattle.lua_slots.specs.LuaMeaningMessages.{nth_level, raise_text, fail, raise_quote, fail_quoting, cannot_call}
use Rattle.lua_slots.specs.LuaMeaningMetatables.{field, handler, either_handler, common_handler}
use Rattle.lua_library_agree.specs.LuaMeaningCalls.{enter, call_by, call}
use Rattle.lua_slots.specs.LuaMeaningWorld.{World}
use Rattle.lua_slots.specs.Code.{CWorld}
use Rattle.lua_slots.specs.Slots.{Activation, Slots, levels_at}
use Rattle.lua_slots.specs.Points.{BodyS, LibraryS, CallLinkS, SFrame, Point, Gives, Move, Now}
use Rattle.lua_slots.specs.Errors as machine
use Rattle.lua_slots.specs.Calls as machine_calls
use Rattle.lua_library_agree.specs.Same.{SameFrame}
use Rattle.lua_agree.specs.Variables.{Var}
use Rattle.lua_agree.specs.Values.{SameJump, raised, SameOutcome, values_, jumps_, SameProgress, SameTitled}
use Rattle.lua_agree.specs.Functions.{SameFunction}
use Rattle.lua_agree.specs.Rests.{After, SameRest}
use Rattle.lua_agree.specs.Agree.{bodies, libraries, call_links, SamePoint, gives, starts, Base, Rel}
use Rattle.lua_agree.specs.Follows.{Follows, takes, sees, now}
use Rattle.lua_agree.proofs.Variables.{vars-moved}
use Rattle.lua_agree.proofs.Carries.{modules-grow, data-grow, frames-grow}

-- LISTS OF VALUES
pub first-same : {m : Map} {vs ws : List Value} → Each (Same m) vs ws → Same m (first vs) (first ws)
first-same none = nil
first-same (more x y xs ys r e) = r

pub rest-same : {m : Map} {vs ws : List Value} → Each (Same m) vs ws → Each (Same m) (rest vs) (rest ws)
rest-same none = none
rest-same (more x y xs ys r e) = e

pub one-value : {m : Map} {a b : Value} → Same m a b → Each (Same m) (a ∷ []) (b ∷ [])
one-value s = more _ _ _ _ s none

pub each-join : {A B : Type 0} {R : A → B → Type 0} {vs xs : List A} {ws ys : List B} → Each R vs ws → Each R xs ys → Each R (vs ++ xs) (ws ++ ys)
each-join none f = f
each-join (more x y vs ws r e) f = more _ _ _ _ r (each-join e f)

pub true-same : {m : Map} {a b : Value} → Same m a b → is_true a ≡ is_true b
true-same nil = refl
true-same e = refl

pub function-same : {m : Map} {a b : Value} → Same m a b → is_function a ≡ is_function b
function-same nil = refl
function-same e = refl

pub second-same : {m : Map} {vs ws : List Value} → Each (Same m) vs ws → Same m (second vs) (second ws)
second-same e = first-same (rest-same e)

pub third-same : {m : Map} {vs ws : List Value} → Each (Same m) vs ws → Same m (third vs) (third ws)
third-same e = second-same (rest-same e)

pub two-values : {m : Map} {a b c d : Value} → Same m a b → Same m c d → Each (Same m) (a ∷ c ∷ []) (b ∷ d ∷ [])
two-values s t = more _ _ _ _ s (one-value t)

pub each-length : {A B : Type 0} {R : A → B → Type 0} {xs : List A} {ys : List B} → Each R xs ys → length xs ≡ length ys
each-length none = refl
each-length (more x y xs ys r e) = ap suc (each-length e)

pub each-drop : {A B : Type 0} {R : A → B → Type 0} {xs : List A} {ys : List B} (n : ℕ) → Each R xs ys → Each R (drop n xs) (drop n ys)
each-drop zero e = e
each-drop (suc n) none = none
each-drop (suc n) (more x y xs ys r e) = each-drop n e

pub number-same : {m : Map} {a b : Value} → Same m a b → number_in a ≡ number_in b
number-same nil = refl
number-same e = refl

pub text-same : {m : Map} {a b : Value} → Same m a b → text_in a ≡ text_in b
text-same nil = refl
text-same e = refl

pub kind-same : {m : Map} {a b : Value} → Same m a b → kind_of a ≡ kind_of b
kind-same nil = refl
kind-same e = refl

pub text-of-same : {m : Map} {a b : Value} → Same m a b → text_of a ≡ text_of b
text-of-same (truth true) = refl
text-of-same (truth false) = refl
text-of-same e = refl

-- no place calls what a function of the library calls
pub no-levels : (fns : List Activation) → [] ≡ levels_at fns None
no-levels [] = refl
no-levels (a ∷ fns) = refl

-- HANDLERS
module _ (code : CWorld) (m : Map) (h : Heap Function) (s : Heap Proc) (st : Stands (SameFunction code) m h s) where
  pub entry-same : {a b : ℕ} {k l : Value} → m.to (tab a) ≡ Some (tab b) → Same m k l → Same m (get (table_at h a).entries k) (get (table_at s b).entries l)
  entry-same {a} {b} e f = get-related m (one_to_one (SameFunction code) m h s st) _ _ _ _ (stood-table (SameFunction code) m h s a b st e).0.entries f

  pub field-same : {a b : Value} (name : Bytes) → Same m a b → Same m (field h a name) (field s b name)
  field-same name (table a b e) = entry-same e (text name)
  field-same name e = nil

  pub handler-same : {a b : Value} (name : Bytes) → Same m a b → Same m (handler h a name) (handler s b name)
  handler-same name (table a b e) = field-same name (stood-table (SameFunction code) m h s a b st e).0.meta
  handler-same name e = nil

  either : (c d : Bool) → c ≡ d → {x y z u : Value} → Same m x y → Same m z u → Same m (if c then x else z) (if d then y else u)
  either true true e f g = f
  either false false e f g = g
  either true false e f g = cc
  either false true e f g = cc

  pub either-same : {a b c d : Value} (name : Bytes) → Same m a b → Same m c d → Same m (either_handler h a c name) (either_handler s b d name)
  either-same name e f = either _ _ (nil-related m _ _ (handler-same name e)) (handler-same name f) (handler-same name e)

  pub common-same : {a b c d : Value} (name : Bytes) → Same m a b → Same m c d → Same m (common_handler h a c name) (common_handler s b d name)
  common-same name e f = either _ _ (same-related m (one_to_one (SameFunction code) m h s st) _ _ _ _ (handler-same name e) (handler-same name f)) (handler-same name e) nil

-- WHAT FOLLOWS A JUMP
pub record OnJump (code : CWorld) (m : Map) (vars : List Var) (fns : List Activation) (X : Type 0) (k : After X) (fs : List SFrame) : Type 0 where
  pub jump : (j j' : Jump) → SameJump m j j' → SamePoint code m vars fns (k (Jumps j)) (Gives (Jumps j') fs)

module _ (code : CWorld) {m : Map} {vars : List Var} {fns : List Activation} where
  pub rest-jumps : {k : After (List Value)} {fs : List SFrame} → SameRest code m vars fns k fs → OnJump code m vars fns (List Value) k fs
  rest-jumps {k} {fs} r = record { jump = λ j j' e. gives (Jumps j) (Jumps j') k fs (jumps_ j j' e) r }

-- no table becomes read-only
table-back : {c d : Contents Value} → ◌≡◌ {A = Obj Proc} (TableObj c) (TableObj d) → c ≡ d
table-back q = cc

unless-frozen : (f : Bool) (c d : Contents Value) → d.frozen ≡ f → (IsTrue f → c ≡ d) → c.frozen ≡ false → f ≡ false
unless-frozen false c d q g w = refl
unless-frozen true c d q g w = sym q ∙ (ap (λ (e : Contents Value). e.frozen) (sym (g refl)) ∙ w)

still-writable : (code : CWorld) {m n : Map} {h i : Heap Function} {s t : Heap Proc} {a b : ℕ} → Moved (SameFunction code) m n h i s t → m.to (tab a) ≡ Some (tab b) → (table_at s b).frozen ≡ false → (table_at t b).frozen ≡ false
still-writable code {m} {n} {h} {i} {s} {t} {a} {b} v e w =
    let x = stood-table (SameFunction code) n i t a b v.stands (v.later.grows _ _ e) in
    unless-frozen (table_at t b).frozen (table_at s b) (table_at t b) refl (λ f. table-back (look-table s b _ (v.later.freezes_none (tab b) _ x.2 f))) w

-- WHAT BOTH HOLD changes: the heap, where no object is made for which another one stands; or what is kept of the run
module _ (code : CWorld) {B : Base} {m n : Map} {vars : List Var} {h : State} {s : Slots} where
  pub rel-moved : {i : Heap Function} {t : Heap Proc} → Rel code B m vars h s → Moved (SameFunction code) m n h.heap i s.heap t → Rel code B n vars (record h { heap = i }) (record s { heap = t })
  rel-moved {i} {t} r v = record {
    stands = v.stands;
    open_ = vars-moved code m n h.heap i s.heap t vars s.regs v r.open_;
    later = later-then (SameFunction code) B.map m n B.heap h.heap i B.store s.heap t r.later v.later;
    globals = v.later.grows _ _ r.globals;
    writable = still-writable code v r.globals r.writable;
    strings = v.later.grows _ _ r.strings;
    modules = modules-grow v.later.grows r.modules;
    data_modules = data-grow v.later.grows r.data_modules;
    frames = frames-grow v.later.grows r.frames;
  }

module _ (code : CWorld) {B : Base} {m : Map} {vars : List Var} {h : State} {s : Slots} (r : Rel code B m vars h s) where
  pub rel-modules : {xs ys : ByTitle Progress} → Each (SameTitled (SameProgress m)) xs ys → Rel code B m vars (record h { modules = xs }) (record s { modules = ys })
  rel-modules e = record { stands = r.stands; open_ = r.open_; later = r.later; globals = r.globals; writable = r.writable; strings = r.strings; modules = e; data_modules = r.data_modules; frames = r.frames }

  pub rel-data : {xs ys : ByTitle Value} → Each (SameTitled (Same m)) xs ys → Rel code B m vars (record h { data_modules = xs }) (record s { data_ = ys })
  rel-data e = record { stands = r.stands; open_ = r.open_; later = r.later; globals = r.globals; writable = r.writable; strings = r.strings; modules = r.modules; data_modules = e; frames = r.frames }

  pub rel-frames : {xs ys : List Frame} → Each (SameFrame m) xs ys → Rel code B m vars (record h { frames = xs }) (record s { frames = ys })
  rel-frames e = record { stands = r.stands; open_ = r.open_; later = r.later; globals = r.globals; writable = r.writable; strings = r.strings; modules = r.modules; data_modules = r.data_modules; frames = e }

-- on both sides the same branch
module _ (world : World) (code : CWorld) (B : Base) where
  pub branches : {X : Type 0} (a b : Act X) {k : After X} {h : State} {mv mv' : Move} (c d : Bool) → c ≡ d → (c ≡ true → Follows world code B (a k) h mv) → (c ≡ false → Follows world code B (b k) h mv')
      → Follows world code B (choose c a b k) h (machine.choose d mv mv')
  branches a b true true e f g = f refl
  branches a b false false e f g = g refl
  branches a b true false e f g = cc
  branches a b false true e f g = cc

-- ALL THAT A MOVE DOES from where the run stands
module _ (world : World) (code : CWorld) (B : Base) {m : Map} {vars : List Var} {h : State} {s : Slots} (r : Rel code B m vars h s) where
  pub here-now : {p : LuaRun} {point : Point} → SamePoint code m vars s.functions p point → Follows world code B p h (Now point s)
  here-now {p} {point} e = now m vars p h point s r e

  pub values-on : {k : After (List Value)} {fs : List SFrame} {vs ws : List Value} → SameRest code m vars s.functions k fs → Each (Same m) vs ws → Follows world code B (k (Goes vs)) h (machine.gives ws fs s)
  values-on {k} {fs} {vs} {ws} g e = here-now (gives (Goes vs) (Goes ws) k fs (values_ vs ws e) g)

  pub jump-on : {X : Type 0} {k : After X} {fs : List SFrame} {j j' : Jump} → OnJump code m vars s.functions X k fs → SameJump m j j' → Follows world code B (k (Jumps j)) h (machine.jumps j' fs s)
  jump-on o e = here-now (o.jump _ _ e)

  pub outcome-on : {k : After (List Value)} {fs : List SFrame} {o o' : Outcome (List Value) Jump} → SameRest code m vars s.functions k fs → SameOutcome m o o' → Follows world code B (k o) h (Now (Gives o' fs) s)
  outcome-on {k} {fs} {o} {o'} g e = here-now (gives o o' k fs e g)

  -- a jump to what waits for values
  pub passes-on : {k : After (List Value)} {fs : List SFrame} {j j' : Jump} → SameRest code m vars s.functions k fs → SameJump m j j' → Follows world code B (k (Jumps j)) h (machine.jumps j' fs s)
  passes-on g e = outcome-on g (jumps_ _ _ e)

  pub raises : {X : Type 0} {k : After X} {fs : List SFrame} → OnJump code m vars s.functions X k fs → (p : Option TextPlace) (t : Bytes) → Follows world code B (raise_text p t k) h (machine.raises p t fs s)
  raises o None t = jump-on o (raised _ _ (text t))
  raises o (Some p) t = takes _ _ _ _ (jump-on o (raised _ _ (text _)))

  pub fails : {X : Type 0} {k : After X} {fs : List SFrame} {ls : Levels} (line : Option ℕ) → OnJump code m vars s.functions X k fs → ls ≡ levels_at s.functions line → (t : Bytes) → Follows world code B (fail ls t k) h (machine.fails line t fs s)
  fails {k = k} {fs = fs} line o e t = subst (λ (ls : Levels). Follows world code B (fail ls t k) h (machine.fails line t fs s)) (sym e) (raises o (nth_level (levels_at s.functions line) 1) t)

  quotes : {X : Type 0} {k : After X} {fs : List SFrame} → OnJump code m vars s.functions X k fs → (p : Option TextPlace) (t : Bytes) → Follows world code B (raise_quote p t k) h (machine.raises_quote p t fs s)
  quotes o None t = takes _ _ _ _ (jump-on o (raised _ _ (text t)))
  quotes o (Some p) t = raises o (Some p) t

  pub fails-quoting : {X : Type 0} {k : After X} {fs : List SFrame} {ls : Levels} (line : Option ℕ) → OnJump code m vars s.functions X k fs → ls ≡ levels_at s.functions line → (t : Bytes) → Follows world code B (fail_quoting ls t k) h (machine.fails_quoting line t fs s)
  fails-quoting {k = k} {fs = fs} line o e t = subst (λ (ls : Levels). Follows world code B (fail_quoting ls t k) h (machine.fails_quoting line t fs s)) (sym e) (quotes o (nth_level (levels_at s.functions line) 1) t)

  pub fails-with : {X : Type 0} {k : After X} {fs : List SFrame} {ls : Levels} (line : Option ℕ) → OnJump code m vars s.functions X k fs → ls ≡ levels_at s.functions line → {t t' : Bytes} → t ≡ t' → Follows world code B (fail ls t k) h (machine.fails line t' fs s)
  fails-with {k = k} {fs = fs} {ls = ls} line o e {t} q = subst (λ (z : Bytes). Follows world code B (fail ls t k) h (machine.fails line z fs s)) q (fails line o e t)

  -- CALLS
  module _ {k : After (List Value)} {fs : List SFrame} (g : SameRest code m vars s.functions k fs) (ls : Levels) (line : Option ℕ) (l : ls ≡ levels_at s.functions line) where
    enters : {f f' : Value} {c : Closed Function} {d : Closed Proc} {vs ws : List Value} → Same m f f' → SameClosed (SameFunction code) m c d → Each (Same m) vs ws
        → Follows world code B (enter f (Some c) vs ls k) h (machine_calls.enter f' (Some d) ws line fs s)
    enters {vs = vs} {ws = ws} e (functions a b x) es = here-now (starts (Body a vs ls) (BodyS b ws line) k fs (bodies a b vs ws ls line x es l) g)
    enters {f = f} {f' = f'} {vs = vs} {ws = ws} e (iterators step cs ds x) es = here-now (starts (LibraryBody step (f ∷ vs) ls) (LibraryS step (f' ∷ ws) line) k fs (libraries step _ _ ls line (more _ _ _ _ e es) l) g)

    calls-by : {i i' a a' : Value} {vs ws : List Value} → Same m i i' → Same m a a' → Each (Same m) vs ws → cannot_call a ≡ cannot_call a' → Follows world code B (call_by i a vs ls k) h (machine_calls.call_by i' a' ws line fs s)
    calls-by {i} {i'} {a} {a'} {vs} {ws} x e es c =
        branches world code B (fail ls (cannot_call a)) _ _ _ (nil-related m i i' x) (λ _. fails-with line (rest-jumps code g) l c)
        (λ _. here-now (starts (CallLink i (a ∷ vs) ls) (CallLinkS i' (a' ∷ ws) line) k fs (call_links _ _ _ _ ls line x (more _ _ _ _ e es) l) g))

    pub calls : {f f' : Value} {vs ws : List Value} → Same m f f' → Each (Same m) vs ws → Follows world code B (call f vs ls k) h (machine_calls.call f' ws line fs s)
    calls {vs = vs} {ws = ws} (builtin w) es = here-now (starts (LibraryBody w vs ls) (LibraryS w ws line) k fs (libraries w vs ws ls line es l) g)
    calls (table a b x) es = sees _ _ _ (calls-by (handler-same code m h.heap s.heap r.stands (codes "__call") (table a b x)) (table a b x) es refl)
    calls {vs = vs} {ws = ws} (closure a b x) es =
        let c = stood-closure (SameFunction code) m h.heap s.heap a b r.stands x in
        sees _ _ _
        (subst (λ o. Follows world code B (enter (Closure a) o vs ls k) h (machine_calls.enter (Closure b) (closure_at s.heap b) ws line fs s)) (sym c.2)
        (subst (λ o. Follows world code B (enter (Closure a) (Some c.0) vs ls k) h (machine_calls.enter (Closure b) o ws line fs s)) (sym c.3)
        (enters (closure a b x) c.4 es)))
    calls e es = fails-with line (rest-jumps code g) l refl
