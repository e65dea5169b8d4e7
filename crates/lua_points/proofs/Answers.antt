-- THE EVENTS that are seen, and answers.
use Rattle.std.proofs.Common.{◌≡◌, true, false, List, [], ◌∷◌, ◌++◌, Some, IsTrue, refl, sym, ◌∙◌, ap, subst, inl, inr}
use Rattle.page_run.specs.WkBaseDeclaredLeftLeft.{Left}
use Rattle.page_run.specs.Run.{Asks}
use Rattle.page_run.specs.Outcome.{Outcome, Goes}
use Rattle.page_run.specs.State.{Reply, Tally}
use Rattle.page_run.specs.Perform.{wait}
use Rattle.page_run.proofs.Enough.{perform-Sees, perform-Changes, perform-Asks}
use Rattle.lua_goes.specs.MwFrameDeclaredQuestionAsk.{Ask}
use Rattle.lua_heap.specs.Proc.{Proc, proc_names}
use Rattle.lua_heap.specs.Value.{Value, Table}
use Rattle.lua_heap.specs.Heap.{Heap, Ref, tab, cel, Obj, look, IsShared}
use Rattle.lua_heap.specs.Related.{none, more, Same, text, table}
use Rattle.lua_heap.specs.Reach.{Set, AllIn, value_names, obj_names, shared_at, with_shared, nowhere, union, image, NamesStand}
use Rattle.lua_heap.specs.Graph.{Graph, graph_heap, NoFunctions, join, joined_root, IsKept, IsJoined}
use Rattle.lua_heap.proofs.Places.{some_back}
use Rattle.lua_heap.proofs.Names.{all-map}
use Rattle.lua_heap.proofs.Sets.{image-at, image-back, closed-image, or-left, or-right, or-back, true-or-false, shared-is}
use Rattle.lua_heap.proofs.Joins.{joined}
use Rattle.lua_agree.specs.LuaMeaningQuestions.{Answer, Expanded, NoPage, Loaded, LoadFailed}
use Rattle.lua_goes.specs.LuaMeaningActs.{Jump, State, LuaRun}
use Rattle.lua_agree.specs.LuaMeaningWorld.{World}
use Rattle.lua_agree.specs.LuaMeaningThings.{meaning_of}
use Rattle.lua_agree.specs.LuaMeaningWaiting.{receive}
use Rattle.lua_agree.specs.LuaMeaningStart.{Work, lua}
use Rattle.lua_goes.specs.LuaSlotsCode.{CWorld}
use Rattle.lua_goes.specs.LuaSlotsSlots.{Slots}
use Rattle.lua_goes.specs.LuaSlotsPoints.{SFrame, Point, Gives, Asking}
use Rattle.lua_goes.specs.LuaSlotsEnact.{Funds, replied}
use Rattle.lua_agree.specs.Values.{SameOutcome, values_, jumps_, raised}
use Rattle.lua_agree.specs.Functions.{SameFunction}
use Rattle.lua_agree.specs.Rests.{After, SameRest}
use Rattle.lua_agree.specs.Agree.{SamePoint, gives}
use Rattle.lua_agree.specs.Named.{frames_names, outcome_names, held_names, roots}
use Rattle.lua_agree.specs.Met.{state_of, comes_to}
use Rattle.lua_agree.proofs.Variables.{vars-kept}
use Rattle.lua_agree.proofs.Carries.{split, function-grows, rest-grows, modules-grow, data-grow, frames-grow}
use Rattle.lua_points.specs.At.{Standing, At}
use Rattle.lua_points.specs.Told.{reply, spent_reply, IsToldAs, as_text, as_none, as_tables, as_failure}
use Rattle.lua_points.specs.Laws.{QuestionIsAsked, EndIsMet, AnswerIsAt, SpentAnswerIsMet, AnswerOwnsNothing, AnswersStayApart, AnswersAreThere}
use Rattle.lua_points.proofs.Events.{append-none, append-one, no-replies, asked-point, ended-point, end-comes}
use Rattle.lua_points.proofs.Images.{join as in_both}
use Rattle.lua_points.proofs.Standings.{apart, standing-wider, image-inside, in-image}

module _ (code : CWorld) (S : Set) (world : World) (work : Work) (first : Left) (given : List (Reply Answer)) {point : Point} {s : Slots} {f : Funds} (a : At code S world work first given point s f) where
  now-meant : lua world work first given ≡ comes_to world a.run a.state f []
  now-meant = sym (ap (λ xs. lua world work first xs) (append-none given)) ∙ a.means []

pub question_is_asked : QuestionIsAsked
question_is_asked code S world work first given q fs s f a =
    let k = asked-point a.standing.same in
    (a.state, now-meant code S world work first given a ∙ ap (λ p. comes_to world p a.state f []) k.1 ∙ perform-Asks (meaning_of world) wait no-replies q (λ x. receive x k.0) (state_of a.state f []))

pub end_is_met : EndIsMet
end_is_met code S world work first given o s f a =
    let k = ended-point a.standing.same in
    record {
      outcome = k.0;
      map = a.standing.map;
      state = a.state;
      is_end = λ later. a.means later ∙ ap (λ p. comes_to world p a.state f later) k.1 ∙ end-comes world k.0 a.state f later;
      stands = a.standing.stands;
      same = k.2;
      inside = a.standing.inside;
    }

-- ANSWERS
module _ (code : CWorld) (S K : Set) (g : Graph) (value : Value) (h : State) (p : LuaRun) (point : Point) (s : Slots) (a : Standing code S h p point s) (k : IsKept K S g value s.heap) where
  -- the tables of the graph, and nothing else of K
  graph-at : (q r : Ref) → k.names.to q ≡ Some r → IsTrue (image k.names r)
  graph-at q r e = image-at NoFunctions k.names (graph_heap true g) s.heap k.stands q r e

  graph-in : (r : Ref) → IsTrue (image k.names r) → IsTrue (K r)
  graph-in r e = let b = image-back NoFunctions k.names (graph_heap true g) s.heap k.stands r e in k.inside b.0 r b.1

  kept-image : IsKept (image k.names) (image a.map) g value s.heap
  kept-image = record {
    names = k.names;
    stands = k.stands;
    root_at = k.root_at;
    inside = graph-at;
    shared = λ r e. k.shared r (graph-in r e);
    apart = λ r e. elim (true-or-false (image a.map r)) [
      | inl y ↦ apart (S r) (image-inside code h p point s S a r y) (k.apart r (graph-in r e))
      | inr n ↦ n
    ];
  }

  no-names : NamesStand {Y = Proc} NoFunctions proc_names
  no-names m T f x b r = absurd r

  joins : IsJoined (SameFunction code) a.map (image a.map) (image k.names) true g value h.heap s.heap
  joins = joined (SameFunction code) (function-grows code) a.map (image a.map) (image k.names) g value h.heap s.heap a.stands (in-image code h p point s S a) kept-image

  -- read-only tables of the graph name only such
  graph-deep : (r : Ref) (b : Obj Proc) → IsTrue (image k.names r) → look s.heap r ≡ Some b → AllIn (shared_at s.heap) (obj_names proc_names b)
  graph-deep r b e l =
      let c = closed-image NoFunctions proc_names no-names k.names (graph_heap true g) s.heap k.stands in
      let v = c.there r e in
      all-map (λ x. IsTrue (image k.names x)) (λ x. IsTrue (shared_at s.heap x)) (λ x y. let o = k.shared x (graph-in x y) in shared-is s.heap x o.0 o.1 o.2) (obj_names proc_names b)
      (subst (λ o. AllIn (image k.names) (obj_names proc_names o)) (some_back (sym v.1 ∙ l)) v.2)

  standing-joined : {q : LuaRun} {at : Point} → SamePoint code joins.names a.vars s.functions q at → Standing code (union S K) (record h { heap = join true g h.heap }) q at s
  standing-joined x = record {
    map = joins.names;
    vars = a.vars;
    stands = joins.stands;
    open_ = vars-kept a.map joins.names h.heap (join true g h.heap) a.vars s.regs joins.grows (λ c v e n. (joins.old (cel c) _ e, joins.private (cel c) _ e n)) a.open_;
    globals = joins.grows _ _ a.globals;
    writable = a.writable;
    strings = joins.grows _ _ a.strings;
    modules = modules-grow joins.grows a.modules;
    data_modules = data-grow joins.grows a.data_modules;
    frames = frames-grow joins.grows a.frames;
    inside = λ q r e. elim (or-back (image a.map r) (image k.names r) (joins.inside q r e)) [
      | inl y ↦ or-left (S r) (K r) (image-inside code h p point s S a r y)
      | inr y ↦ or-right (S r) (K r) (graph-in r y)
    ];
    deep = λ q r b e l y. elim (or-back (image a.map r) (image k.names r) (joins.inside q r e)) [
      | inl z ↦ let c = image-back (SameFunction code) a.map h.heap s.heap a.stands r z in a.deep c.0 r b c.1 l y
      | inr z ↦ graph-deep r b z l
    ];
    same = x;
  }

module _ (code : CWorld) (S : Set) (world : World) (work : Work) (first : Left) (given : List (Reply Answer)) (q : Ask) (fs : List SFrame) (s : Slots) (f : Funds) (a : At code S world work first given (Asking q fs) s f) where
  waiting : (k : After (List Value)) × (a.run ≡ Asks q (λ x. receive x k)) × SameRest code a.standing.map a.standing.vars s.functions k fs
  waiting = asked-point a.standing.same

  -- with one reply more the run goes on with what the answer tells
  goes-on : (x : Answer) (l : Left) (y : Tally) (later : List (Reply Answer)) → lua world work first ((given ++ reply x l y ∷ []) ++ later) ≡ comes_to world (receive x waiting.0) a.state (replied (reply x l y) f) later
  goes-on x l y later =
      ap (λ xs. lua world work first xs) (append-one given (reply x l y) later)
      ∙ a.means (reply x l y ∷ later)
      ∙ ap (λ p. comes_to world p a.state f (reply x l y ∷ later)) waiting.1
      ∙ perform-Asks (meaning_of world) wait no-replies q (λ z. receive z waiting.0) (state_of a.state f (reply x l y ∷ later))

  -- where the heap stays
  plain-answer : (x : Answer) (l : Left) (y : Tally) (o o' : Outcome (List Value) Jump) → receive x waiting.0 ≡ waiting.0 o → SameOutcome a.standing.map o o'
      → At code (union S nowhere) world work first (given ++ reply x l y ∷ []) (Gives o' fs) s (replied (reply x l y) f)
  plain-answer x l y o o' e so = record {
    agrees = a.agrees;
    state = a.state;
    run = waiting.0 o;
    standing = standing-wider code a.state (waiting.0 o) (Gives o' fs) s S (union S nowhere) (λ r h. or-left (S r) false h) (record {
      map = a.standing.map;
      vars = a.standing.vars;
      stands = a.standing.stands;
      open_ = a.standing.open_;
      globals = a.standing.globals;
      writable = a.standing.writable;
      strings = a.standing.strings;
      modules = a.standing.modules;
      data_modules = a.standing.data_modules;
      frames = a.standing.frames;
      inside = a.standing.inside;
      deep = a.standing.deep;
      same = gives o o' waiting.0 fs so waiting.2;
    });
    means = λ later. goes-on x l y later ∙ ap (λ p. comes_to world p a.state (replied (reply x l y) f) later) e;
  }

  tables-answer : (K : Set) (g : Graph) (value : Value) (l : Left) (y : Tally) → IsKept K S g value s.heap
      → At code (union S K) world work first (given ++ reply (Loaded g) l y ∷ []) (Gives (Goes (value ∷ [])) fs) s (replied (reply (Loaded g) l y) f)
  tables-answer K g value l y k =
      let j = joins code S K g value a.state a.run (Asking q fs) s a.standing k in
      let to : State = record a.state { heap = join true g a.state.heap } in
      let rest : LuaRun = waiting.0 (Goes (joined_root a.state.heap ∷ [])) in
      record {
        agrees = a.agrees;
        state = to;
        run = rest;
        standing = standing-joined code S K g value a.state a.run (Asking q fs) s a.standing k (gives _ _ waiting.0 fs (values_ _ _ (more _ _ _ _ j.root_at none)) (rest-grows code j.grows waiting.2));
        means = λ later.
            goes-on (Loaded g) l y later
            ∙ perform-Sees (meaning_of world) wait no-replies _ (state_of a.state (replied (reply (Loaded g) l y) f) later)
            ∙ perform-Sees (meaning_of world) wait no-replies _ (state_of a.state (replied (reply (Loaded g) l y) f) later)
            ∙ perform-Changes (meaning_of world) wait no-replies to rest (state_of a.state (replied (reply (Loaded g) l y) f) later);
      }

pub answer_is_at : AnswerIsAt
answer_is_at code S _ world work first given q fs s f a _ l y _ (as_text _ _ t) = plain-answer code S world work first given q fs s f a (Expanded t) l y _ _ refl (values_ _ _ (more _ _ _ _ (text t) none))
answer_is_at code S _ world work first given q fs s f a _ l y _ (as_none _ _) = plain-answer code S world work first given q fs s f a NoPage l y _ _ refl (values_ [] [] none)
answer_is_at code S _ world work first given q fs s f a _ l y _ (as_failure _ _ t) = plain-answer code S world work first given q fs s f a (LoadFailed t) l y _ _ refl (jumps_ _ _ (raised _ _ (text t)))
answer_is_at code S _ world work first given q fs s f a _ l y _ (as_tables K _ _ g value k) = tables-answer code S world work first given q fs s f a K g value l y k

pub spent_answer_is_met : SpentAnswerIsMet
spent_answer_is_met code S world work first given q fs s f a w l y =
    let k = asked-point a.standing.same in
    let r : Reply Answer = spent_reply w l y in (
      a.state,
      λ later. ap (λ xs. lua world work first xs) (append-one given r later)
          ∙ a.means (r ∷ later)
          ∙ ap (λ p. comes_to world p a.state f (r ∷ later)) k.1
          ∙ perform-Asks (meaning_of world) wait no-replies q (λ z. receive z k.0) (state_of a.state f (r ∷ later)),
    )

-- what was answered is read-only: it is not owned, and doesn't bring two machines together
root-in : (K S T : Set) (s : Heap Proc) (g : Graph) (value : Value) → IsKept K S g value s → AllIn (with_shared T s) (value_names value)
root-in K S T s g value k = go value k.root_at
  where
    go : (v : Value) → Same k.names (Table 0) v → AllIn (with_shared T s) (value_names v)
    go _ (table _ b e) = let o = k.shared (tab b) (k.inside _ _ e) in (or-right (T (tab b)) _ (shared-is s (tab b) o.0 o.1 o.2), tt)

answer-roots : (K S T : Set) (q : Ask) (fs : List SFrame) (s : Slots) (h : Heap Proc) (a : Answer) (o : Outcome (List Value) Jump) → h ≡ s.heap → IsToldAs K S h a o → AllIn (with_shared T h) (roots (Asking q fs) s) → AllIn (with_shared T h) (roots (Gives o fs) s)
answer-roots _ _ T q fs s _ _ _ e (as_text S h t) i = i
answer-roots _ _ T q fs s _ _ _ e (as_none S h) i = i
answer-roots _ _ T q fs s _ _ _ e (as_failure S h t) i = i
answer-roots _ _ T q fs s _ _ _ e (as_tables K S h g value k) i =
    let p = split (with_shared T h) (frames_names fs) (held_names s) i in
    in_both (with_shared T h) (outcome_names (Goes (value ∷ [])) ++ frames_names fs) (held_names s)
    (in_both (with_shared T h) (outcome_names (Goes (value ∷ []))) (frames_names fs) (in_both (with_shared T h) (value_names value) [] (root-in K S T h g value k) tt) p.0) p.1

pub answer_owns_nothing : AnswerOwnsNothing
answer_owns_nothing K S q fs s a o t r own T c i = own T c (answer-roots K S T q fs s s.heap a o refl t i)

-- what an answer adds is there, and read-only
answer-shared : (K S : Set) (s : Heap Proc) (a : Answer) (o : Outcome (List Value) Jump) → IsToldAs K S s a o → (r : Ref) → IsTrue (K r) → (b : Obj Proc) × (look s r ≡ Some b) × IsShared b
answer-shared _ _ _ _ _ (as_text S s t) r y = cc
answer-shared _ _ _ _ _ (as_none S s) r y = cc
answer-shared _ _ _ _ _ (as_failure S s t) r y = cc
answer-shared _ _ _ _ _ (as_tables K S s g value k) r y = k.shared r y

pub answers_stay_apart : AnswersStayApart
answers_stay_apart K S T s a o t meet r h n = elim (or-back (S r) (K r) h) [
  | inl y ↦ meet r y n
  | inr y ↦ let v = answer-shared K S s a o t r y in shared-is s r v.0 v.1 v.2
]

pub answers_are_there : AnswersAreThere
answers_are_there K S s a o t there r h = elim (or-back (S r) (K r) h) [
  | inl y ↦ there r y
  | inr y ↦ let v = answer-shared K S s a o t r y in (v.0, v.1)
]
