-- A CALL of a machine, for every run that stands where the machine stands.
use Rattle.std.proofs.Common.{◌≡◌, List, [], Some, ◌∙◌, refl, subst, inl, inr, IsTrue}
use Rattle.page_run.specs.WkBaseDeclaredLeftLeft.{Left}
use Rattle.page_run.specs.declared.which.Which.{Which}
use Rattle.page_run.specs.Outcome.{Outcome}
use Rattle.page_run.specs.State.{Reply, Event, Spent}
use Rattle.lua_goes.specs.MwFrameDeclaredQuestionAsk.{Ask}
use Rattle.lua_heap.specs.Proc.{Proc, proc_names}
use Rattle.lua_heap.specs.Value.{Value}
use Rattle.lua_heap.specs.Heap.{Heap, Ref, Obj, look, IsShared}
use Rattle.lua_heap.specs.Related.{Map, Later}
use Rattle.lua_heap.specs.Reach.{Set, AllIn, obj_names, shared_at, with_new}
use Rattle.lua_heap.proofs.Places.{clash}
use Rattle.lua_heap.proofs.Names.{all-map}
use Rattle.lua_heap.proofs.Steps.{later-same}
use Rattle.lua_heap.proofs.Sets.{shared-is, shared-back}
use Rattle.lua_heap.proofs.Frames.{frame-later, inside-later}
use Rattle.lua_agree.specs.LuaMeaningQuestions.{Answer}
use Rattle.lua_goes.specs.LuaMeaningActs.{Jump, State, LuaRun}
use Rattle.lua_agree.specs.LuaMeaningWorld.{World}
use Rattle.lua_agree.specs.LuaMeaningStart.{Work}
use Rattle.lua_goes.specs.LuaSlotsCode.{CWorld}
use Rattle.lua_agree.specs.LuaSlotsIsCode.{Agrees}
use Rattle.lua_goes.specs.LuaSlotsSlots.{Slots}
use Rattle.lua_goes.specs.LuaSlotsPoints.{Point, Gives, Move}
use Rattle.lua_goes.specs.LuaSlotsMoves.{moves}
use Rattle.lua_goes.specs.LuaSlotsEnact.{Funds, Enacted, all_given_back, Stands as StandsThere, Short, enact}
use Rattle.lua_goes.specs.Going.{Stop, led, Reaches, here, further, Comes, is_over, is_short, is_short_late, is_asking}
use Rattle.lua_agree.specs.Variables.{Var}
use Rattle.lua_agree.specs.Functions.{SameFunction}
use Rattle.lua_agree.specs.Agree.{SamePoint, Base, Rel}
use Rattle.lua_agree.specs.Follows.{Follows, takes, counts, calls, leaves, notes, sees, changes, begins, now}
use Rattle.lua_agree.proofs.MetLaws.{next_is_met}
use Rattle.lua_agree.proofs.Moves.{goes_on}
use Rattle.lua_agree.specs.Met.{moment_with, comes_to, Met, goes_to, is_spent}
use Rattle.lua_points.specs.At.{Standing, At, Gone}
use Rattle.lua_points.proofs.Events.{ended-point, end-is-back}

abbrev Past : Type 0
Past = List (Reply Answer) → Event State Ask (Outcome (List Value) Jump)

module _ (code : CWorld) (world : World) (w : Agrees world code) where
  -- where a run stands now that stood elsewhere before
  record Led (B : Base) (past : Past) (q : Point) (u : Slots) (g : Funds) : Type 0 where
    map : Map
    vars : List Var
    run : LuaRun
    state : State
    rel : Rel code B map vars state u
    same : SamePoint code map vars u.functions run q
    means : (replies : List (Reply Answer)) → past replies ≡ comes_to world run state g replies

  met-stands : {B : Base} {past : Past} {q : Point} {u : Slots} {g : Funds} → Met world code B past (StandsThere q u g) → Led B past q u g
  met-stands (goes_to m vars p h q u g r x e) = record { map = m; vars = vars; run = p; state = h; rel = r; same = x; means = e }

  met-short : {B : Base} {past : Past} {which : Which} {g : Funds} → Met world code B past (Short which g) → (h : State) × ((replies : List (Reply Answer)) → past replies ≡ Spent which (moment_with h g))
  met-short (is_spent h which g e) = (h, e)

  -- one more move
  steps : {B : Base} {past : Past} {p : Point} {t : Slots} {g : Funds} (e : Enacted) → (k : Led B past p t g) → enact (moves code p t) g ≡ e → Met world code B (comes_to world k.run k.state g) e
  steps {B} {p = p} {t = t} {g = g} e k x = subst (λ z. Met world code B (comes_to world k.run k.state g) z) x (next_is_met world code w B k.map k.vars k.run k.state p t g k.rel k.same)

  goes-led : {B : Base} {past : Past} {from : Point} {s : Slots} {f : Funds} {q : Point} {u : Slots} {g : Funds} → Led B past from s f → Reaches code from s f q u g → Led B past q u g
  goes-led k here = k
  goes-led k (further p t g q u h l e) =
      let a = goes-led k l in
      let b = met-stands (steps (StandsThere q u h) a e) in
      record { map = b.map; vars = b.vars; run = b.run; state = b.state; rel = b.rel; same = b.same; means = λ replies. a.means replies ∙ b.means replies }

  -- what a move leads to stands in the store, whatever is left of the allowances
  led-later : {B : Base} {p : LuaRun} {h : State} {mv : Move} → Follows world code B p h mv → (m : Map) × (i : State) × Later B.map m B.heap i.heap B.store (led mv).heap
  led-later (takes n p h mv x) = led-later x
  led-later (counts p h mv x) = led-later x
  led-later (calls p h mv x) = led-later x
  led-later (leaves p h mv x) = led-later x
  led-later (notes source name p h mv x) = led-later x
  led-later (sees f h mv x) = led-later x
  led-later (changes i p h mv x) = led-later x
  led-later (begins t k h mv x) = led-later x
  led-later (now m vars p h point s r x) = (m, h, r.later)

  module _ (S : Set) (h : State) (p : LuaRun) (point : Point) (s : Slots) (a : Standing code S h p point s) where
    -- the call starts from here
    abbrev base : Base
    base = record { map = a.map; heap = h.heap; store = s.heap }

    starts-here : Rel code base a.map a.vars h s
    starts-here = record {
      stands = a.stands;
      open_ = a.open_;
      later = later-same (SameFunction code) a.map h.heap s.heap;
      globals = a.globals;
      writable = a.writable;
      strings = a.strings;
      modules = a.modules;
      data_modules = a.data_modules;
      frames = a.frames;
    }

    -- read-only tables that stand for something name only such, also after the call
    deep-later : (m : Map) (i : State) (t : Heap Proc) → Later a.map m h.heap i.heap s.heap t → (q r : Ref) (b : Obj Proc) → m.to q ≡ Some r → look t r ≡ Some b → IsShared b → AllIn (shared_at t) (obj_names proc_names b)
    deep-later m i t l q r b e f y =
        let g = l.freezes_none r b f y in
        elim (l.news q r e) [
          | inl k ↦ all-map (λ x. IsTrue (shared_at s.heap x)) (λ x. IsTrue (shared_at t x)) (λ x j. let o = shared-back s.heap x j in shared-is t x o.0 (l.shared x o.0 o.1 o.2) o.2) (obj_names proc_names b) (a.deep q r b k g y)
          | inr k ↦ clash g k.1
        ]

    stands-later : {past : Past} {q : Point} {u : Slots} {g : Funds} → (k : Led base past q u g) → Standing code (with_new S s.heap u.heap) k.state k.run q u
    stands-later {u = u} k = record {
      map = k.map;
      vars = k.vars;
      stands = k.rel.stands;
      open_ = k.rel.open_;
      globals = k.rel.globals;
      writable = k.rel.writable;
      strings = k.rel.strings;
      modules = k.rel.modules;
      data_modules = k.rel.data_modules;
      frames = k.rel.frames;
      inside = inside-later (SameFunction code) S a.map k.map h.heap k.state.heap s.heap u.heap a.inside k.rel.later k.rel.stands;
      deep = deep-later k.map k.state u.heap k.rel.later;
      same = k.same;
    }

-- at its end a machine is where the run has ended, when its calls are given back too
pub at-back : (code : CWorld) (S : Set) (world : World) (work : Work) (first : Left) (given : List (Reply Answer)) (o : Outcome (List Value) Jump) (s : Slots) (f : Funds) → At code S world work first given (Gives o []) s f → At code S world work first given (Gives o []) s (all_given_back f)
at-back code S world work first given o s f a =
    let k = ended-point a.standing.same in
    record { agrees = a.agrees; state = a.state; run = a.run; standing = a.standing; means = λ later. a.means later ∙ end-is-back world a.run k.0 a.state f later k.1 }

-- THE CALL
module _ (code : CWorld) (S : Set) (world : World) (work : Work) (first : Left) (given : List (Reply Answer)) (point : Point) (s : Slots) (f : Funds) where
  module _ (a : At code S world work first given point s f) where
    abbrev B : Base
    B = base code world a.agrees S a.state a.run point s a.standing

    at-start : Led code world a.agrees B (comes_to world a.run a.state f) point s f
    at-start = record { map = a.standing.map; vars = a.standing.vars; run = a.run; state = a.state; rel = starts-here code world a.agrees S a.state a.run point s a.standing; same = a.standing.same; means = λ replies. refl }

    -- where it stands after its moves
    at-later : (q : Point) (u : Slots) (g : Funds) → Reaches code point s f q u g → At code (with_new S s.heap u.heap) world work first given q u g
    at-later q u g l =
        let k = goes-led code world a.agrees at-start l in
        record {
          agrees = a.agrees;
          state = k.state;
          run = k.run;
          standing = stands-later code world a.agrees S a.state a.run point s a.standing k;
          means = λ later. a.means later ∙ k.means later;
        }

    go : (e : Stop) → Comes code point s f e → Gone code S world work first given s.heap e
    go _ (is_over o u g l) =
        let k = goes-led code world a.agrees at-start l in
        record {
          event = at-back code (with_new S s.heap u.heap) world work first given o u g (at-later (Gives o []) u g l);
          frame = frame-later S a.standing.map k.map a.state.heap k.state.heap s.heap u.heap a.standing.inside k.rel.later;
          freezes_none = k.rel.later.freezes_none;
        }
    go _ (is_asking q fs u g l) =
        let k = goes-led code world a.agrees at-start l in
        record {
          event = at-later _ u g l;
          frame = frame-later S a.standing.map k.map a.state.heap k.state.heap s.heap u.heap a.standing.inside k.rel.later;
          freezes_none = k.rel.later.freezes_none;
        }
    go _ (is_short p t g which h l e) =
        let k = goes-led code world a.agrees at-start l in
        let n = met-short code world a.agrees (steps code world a.agrees (Short which h) k e) in
        record {
          event = (n.0, λ later. a.means later ∙ k.means later ∙ n.1 later);
          frame = frame-later S a.standing.map k.map a.state.heap k.state.heap s.heap t.heap a.standing.inside k.rel.later;
          freezes_none = k.rel.later.freezes_none;
        }
    go _ (is_short_late p t g which h l e) =
        let k = goes-led code world a.agrees at-start l in
        let n = met-short code world a.agrees (steps code world a.agrees (Short which h) k e) in
        let v = led-later code world a.agrees (goes_on world code a.agrees B k.map k.vars k.run k.state p t k.rel k.same) in
        record {
          event = (n.0, λ later. a.means later ∙ k.means later ∙ n.1 later);
          frame = frame-later S a.standing.map v.0 a.state.heap v.1.heap s.heap (led (moves code p t)).heap a.standing.inside v.2;
          freezes_none = v.2.freezes_none;
        }

  pub gone : At code S world work first given point s f → (e : Stop) → Comes code point s f e → Gone code S world work first given s.heap e
  gone a e c = go a e c
