-- How a run of Lua ends: it tells its loads and its nodes, and its answer is told from the machine's outcome.
use Rattle.std.proofs.Common.{◌≡◌, ℕ, ◌+◌, List, [], ◌∷◌, refl, sym, ap, ◌∙◌, subst}
use Rattle.page_meaning.specs.WkBaseDeclaredLeftLeft.{Left}
use Rattle.page_meaning.specs.PageRunDeclaredWhichWhich.{Which}
use Rattle.page_meaning.specs.PageRunOutcome.{Outcome, Goes, Jumps}
use Rattle.page_meaning.specs.PageRunState.{Moment, Ended, Spent, Gives, moment_of}
use Rattle.page_meaning.specs.PageRunWalk.{tally_of}
use Rattle.lua_walk.specs.LuaHeapValue.{Value, Nil, Truth, Number, Text, Table, Closure, Builtin, Markup}
use Rattle.lua_points.specs.LuaHeapProc.{Proc}
use Rattle.lua_walk.specs.LuaHeapHeap.{Heap}
use Rattle.lua_walk.specs.LuaHeapRelated.{Map, none, more, Same, nil, truth, number, text, table, closure, builtin, markup, Stands}
use Rattle.lua_walk.proofs.Standings.{taken-same}
use Rattle.lua_points.specs.LuaMeaningScope.{Function}
use Rattle.page_meaning.specs.LuaMeaningQuestions.{Expanded}
use Rattle.page_meaning.specs.LuaMeaningActs.{Jump, Raised, State}
use Rattle.page_meaning.specs.LuaMeaningStart.{Work, Invoke, DataOf, End, Done, DoneData, Failed, end_of, lua}
use Rattle.lua_points.specs.LuaSlotsCode.{CWorld}
use Rattle.lua_points.specs.LuaAgreeValues.{returned, broke, raised, SameOutcome, values_, jumps_}
use Rattle.lua_points.specs.LuaAgreeFunctions.{SameFunction}
use Rattle.page_meaning.specs.Wiki.{Wiki, world}
use Rattle.page_meaning.specs.WkBaseDeclaredTitleTitle.{Title}
use Rattle.page_meaning.specs.Told.{Seen, data_answer, graph_answer, end_text}
use Rattle.page_meaning.specs.Outcomes.{end_outcome}
use Rattle.page_meaning.specs.Tasks.{Running, Comes, lua_reply, lua_progress}
use Rattle.page_points.specs.Places.{Place, TellsAll, HasCome}
use Rattle.page_points.specs.Machines.{data_told, end_told, spent_told}

-- WHAT A RUN TELLS at its event
tells_all : (work : Work) (first : Left) (e : Seen) (nodes : ℕ) → (tally_of e).nodes ≡ nodes → TellsAll (Running work) first nodes (tally_of e).invoked_nodes (tally_of e).loads (lua_reply work first e)
tells_all (Invoke job) first e nodes h = (refl, ap (λ n. (tally_of e).invoked_nodes + n) h)
tells_all (DataOf title) first e nodes h = rw (sym h) (refl, refl)

module _ (wiki : Wiki) (page : Title) where
  come : (p : Place) (work : Work) (e : Seen) → p.task ≡ Running work → lua (world wiki page) work p.first p.given ≡ e → lua_progress work p.first e ≡ Comes (lua_reply work p.first e) → (tally_of e).nodes ≡ p.nodes → HasCome wiki page p (lua_reply work p.first e)
  come p work e is h c n =
      subst (λ t. HasCome wiki page (record p { task = t }) (lua_reply work p.first e)) (sym is) (record {
        comes = ap (lua_progress work p.first) h ∙ c;
        tells = subst (λ x. TellsAll (Running work) p.first p.nodes (tally_of x).invoked_nodes (tally_of x).loads (lua_reply work p.first e)) (sym h) (tells_all work p.first e p.nodes n);
      })

  pub has_ended : (p : Place) (work : Work) (o : Outcome (List Value) Jump) (m : Moment State) → p.task ≡ Running work → lua (world wiki page) work p.first p.given ≡ Ended o m → m.tally.nodes ≡ p.nodes → HasCome wiki page p (lua_reply work p.first (Ended o m))
  has_ended p work o m is h n = come p work (Ended o m) is h refl n

  pub is_spent : (p : Place) (work : Work) (w : Which) (m : Moment State) → p.task ≡ Running work → lua (world wiki page) work p.first p.given ≡ Spent w m → m.tally.nodes ≡ p.nodes → HasCome wiki page p (lua_reply work p.first (Spent w m))
  is_spent p work w m is h n = come p work (Spent w m) is h refl n

-- AN END stands for an end
pub data SameEnd (m : Map) : End → End → Type 0 where
  done : (t : List ℕ) → SameEnd m (Done t) (Done t)
  done_data : (v w : Value) → Same m v w → SameEnd m (DoneData v) (DoneData w)
  failed : (t : List ℕ) → SameEnd m (Failed t) (Failed t)

-- more than one value
many : (v w : Value) (vs : List Value) → end_of (Goes (v ∷ w ∷ vs)) ≡ DoneData v
many Nil w vs = refl
many (Truth b) w vs = refl
many (Number n) w vs = refl
many (Text t) w vs = refl
many (Table t) w vs = refl
many (Closure c) w vs = refl
many (Builtin f) w vs = refl
many (Markup n) w vs = refl

module _ (m : Map) where
  same_one : (v w : Value) → Same m v w → SameEnd m (end_of (Goes (v ∷ []))) (end_of (Goes (w ∷ [])))
  same_one _ _ nil = done_data Nil Nil nil
  same_one _ _ (truth b) = done_data (Truth b) (Truth b) (truth b)
  same_one _ _ (number n) = done_data (Number n) (Number n) (number n)
  same_one _ _ (text t) = done t
  same_one _ _ (table a b e) = done_data (Table a) (Table b) (table a b e)
  same_one _ _ (closure a b e) = done_data (Closure a) (Closure b) (closure a b e)
  same_one _ _ (builtin f) = done_data (Builtin f) (Builtin f) (builtin f)
  same_one _ _ (markup a b e) = done_data (Markup a) (Markup b) (markup a b e)

  same_raised : (v w : Value) → Same m v w → SameEnd m (end_of (Jumps (Raised v))) (end_of (Jumps (Raised w)))
  same_raised _ _ nil = failed []
  same_raised _ _ (truth b) = failed []
  same_raised _ _ (number n) = failed []
  same_raised _ _ (text t) = failed t
  same_raised _ _ (table a b e) = failed []
  same_raised _ _ (closure a b e) = failed []
  same_raised _ _ (builtin f) = failed []
  same_raised _ _ (markup a b e) = failed []

  same_end : (o o' : Outcome (List Value) Jump) → SameOutcome m o o' → SameEnd m (end_of o) (end_of o')
  same_end _ _ (values_ _ _ none) = done_data Nil Nil nil
  same_end _ _ (values_ _ _ (more v w _ _ e none)) = same_one v w e
  same_end _ _ (values_ _ _ (more v w _ _ e (more x y xs ys f rest))) = rw (many v x xs, many w y ys) (done_data v w e)
  same_end _ _ (jumps_ _ _ (returned vs ws e)) = failed []
  same_end _ _ (jumps_ _ _ broke) = failed []
  same_end _ _ (jumps_ _ _ (raised v w e)) = same_raised v w e

  same_text : (e e' : End) → SameEnd m e e' → end_text e ≡ end_text e'
  same_text _ _ (done t) = refl
  same_text _ _ (done_data v w e) = refl
  same_text _ _ (failed t) = refl

  same_outcome_end : (e e' : End) → SameEnd m e e' → end_outcome e ≡ end_outcome e'
  same_outcome_end _ _ (done t) = refl
  same_outcome_end _ _ (done_data v w e) = refl
  same_outcome_end _ _ (failed t) = refl

  -- so the run ended as its machine
  pub same_outcome : (o o' : Outcome (List Value) Jump) → SameOutcome m o o' → end_outcome (end_of o) ≡ end_outcome (end_of o')
  same_outcome o o' e = same_outcome_end (end_of o) (end_of o') (same_end o o' e)

  module _ (code : CWorld) (h : Heap Function) (s : Heap Proc) (st : Stands (SameFunction code) m h s) where
    same_data : (e e' : End) → SameEnd m e e' → data_answer h e ≡ data_told s e'
    same_data _ _ (done t) = refl
    same_data _ _ (done_data v w e) = ap graph_answer (taken-same (SameFunction code) m h s st v w e)
    same_data _ _ (failed t) = refl

    -- what is told of the run's end is told of the machine's
    pub same_told : (work : Work) (first : Left) (o o' : Outcome (List Value) Jump) (at : Moment State) → SameOutcome m o o' → at.heap.heap ≡ h → (lua_reply work first (Ended o at)).response ≡ Gives (end_told work s o')
    same_told (Invoke job) first o o' at e i = ap (λ x. Gives (Expanded x)) (same_text (end_of o) (end_of o') (same_end o o' e))
    same_told (DataOf title) first o o' at e i = ap (λ x. Gives (data_answer x (end_of o))) i ∙ ap Gives (same_data (end_of o) (end_of o') (same_end o o' e))

pub spent_response : (work : Work) (first : Left) (w : Which) (m : Moment State) → (lua_reply work first (Spent w m)).response ≡ spent_told work w
spent_response (Invoke job) first w m = refl
spent_response (DataOf title) first w m = refl

pub left_after : (work : Work) (first : Left) (e : Seen) → (lua_reply work first e).left ≡ (moment_of e).left
left_after (Invoke job) first e = refl
left_after (DataOf title) first e = refl
