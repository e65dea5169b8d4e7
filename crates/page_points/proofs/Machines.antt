-- A machine at its place: it is started, it asks, it has come to its end, it is spent, it is answered, and it waits while others go on.
use Rattle.std.proofs.Common.{◌≡◌, ℕ, ◌+◌, List, [], ◌∷◌, ◌++◌, append-nil, Some, IsTrue, refl, sym, ap, ◌∙◌, subst}
use Rattle.std.specs.Prelude.{max}
use Rattle.page_meaning.specs.WkBaseDeclaredTitleTitle.{Title}
use Rattle.page_meaning.specs.WkBaseDeclaredLeftLeft.{Left}
use Rattle.page_meaning.specs.PageRunDeclaredWhichWhich.{Which}
use Rattle.page_meaning.specs.PageRunOutcome.{Outcome}
use Rattle.page_meaning.specs.PageRunState.{no_tally, Gives as Says, Exhausts, Reply, Ended, Spent}
use Rattle.page_meaning.specs.PageRunWalk.{WalkState, tally_of}
use Rattle.page_meaning.specs.MwFrameDeclaredQuestionAsk.{Ask}
use Rattle.lua_points.specs.LuaHeapProc.{Proc}
use Rattle.lua_walk.specs.LuaHeapValue.{Value}
use Rattle.lua_walk.specs.LuaHeapHeap.{Heap, Ref, Obj, look}
use Rattle.lua_walk.specs.LuaHeapReach.{Set, nowhere, union, with_new, Frame}
use Rattle.page_meaning.specs.LuaMeaningQuestions.{Answer}
use Rattle.page_meaning.specs.LuaMeaningActs.{Jump}
use Rattle.page_meaning.specs.LuaMeaningStart.{Work, Invoke, DataOf, end_of, lua}
use Rattle.lua_points.specs.LuaSlotsCode.{CWorld}
use Rattle.lua_points.specs.LuaSlotsIsCode.{Agrees}
use Rattle.lua_points.specs.LuaSlotsSlots.{Slots, with_heap}
use Rattle.lua_points.specs.LuaSlotsPoints.{SFrame, Point, Gives, Asking, Works}
use Rattle.lua_points.specs.LuaSlotsEnact.{all_given_back, replied as with_reply}
use Rattle.lua_points.specs.LuaGoesGoing.{Over, Lacks, Waiting}
use Rattle.lua_points.specs.LuaAgreeMet.{moment_with}
use Rattle.lua_points.specs.At.{At}
use Rattle.lua_points.specs.Told.{IsToldAs, reply, spent_reply}
use Rattle.lua_points.specs.Laws.{telling}
use Rattle.lua_points.specs.Clauses.{fund, Starts, GoesOnWith, GoIs}
use Rattle.lua_points.proofs.Points.{point_looks_at_set}
use Rattle.lua_points.proofs.Answers.{question_is_asked, end_is_met, spent_answer_is_met}
use Rattle.page_meaning.specs.Wiki.{Wiki, world}
use Rattle.page_meaning.specs.declared.outcome.JobOutcome.TheVariants as ending
use Rattle.page_meaning.specs.Told.{Seen}
use Rattle.page_meaning.specs.Outcomes.{end_outcome}
use Rattle.page_meaning.specs.Tasks.{Running, OfLua, Wants, lua_reply, lua_progress, progress}
use Rattle.page_points.specs.Places.{Place, beginning, replied, next_of}
use Rattle.page_points.specs.Machines.{KnowsHeight, MachineStands, counts, gone, end_told, spent_told, EndsAs}
use Rattle.page_points.proofs.Ends.{has_ended, is_spent, same_outcome, same_told, spent_response, left_after}

-- HEIGHTS
height_goes : (work : Work) (told height high : ℕ) → KnowsHeight work told height → KnowsHeight work (max told high) (max height high)
height_goes (Invoke job) told height high k = tt
height_goes (DataOf title) told height high k = ap (λ n. max n high) k

height_told : (work : Work) (first : Left) (e : Seen) (n : ℕ) → KnowsHeight work (tally_of e).height n → KnowsHeight work (lua_reply work first e).tally.height n
height_told (Invoke job) first e n k = tt
height_told (DataOf title) first e n k = k

module _ (code : CWorld) (wiki : Wiki) (page : Title) where
  -- IT IS STARTED
  pub machine_starts : (work : Work) (before : Heap Proc) (s : Slots) → Starts code work before s → Agrees (world wiki page) code → (first : Left) (began : WalkState)
      → MachineStands code (world wiki page) (record (beginning (Running work) first began) { within = with_new nowhere before s.heap }) (Works work) s first 0 0
  machine_starts work before s st agrees first began = record { work = work; is = refl; tally = no_tally; at = st (world wiki page) agrees first; nodes = refl; knows = begins work }
    where
      begins : (work : Work) → KnowsHeight work 0 0
      begins (Invoke job) = tt
      begins (DataOf title) = refl

  module _ (p : Place) (point : Point) (s : Slots) (left : Left) (calls height : ℕ) (m : MachineStands code (world wiki page) p point s left calls height) where
    -- IT ASKS
    pub machine_asks : (q : Ask) (fs : List SFrame) (t : Slots) (left' : Left) (calls' high n : ℕ) → GoIs code point s left calls (Waiting q fs t (counts left' calls' high n))
        → MachineStands code (world wiki page) (gone p s.heap t.heap n) (Asking q fs) t left' calls' (max height high) × (next_of wiki page p ≡ Wants (OfLua q) left') × Frame p.within s.heap t.heap
    machine_asks q fs t left' calls' high n g =
        let e = g.goes_to p.within (world wiki page) m.work p.first p.given m.tally m.at in
        let f = telling m.tally (counts left' calls' high n) in
        let a = question_is_asked code (with_new p.within s.heap t.heap) (world wiki page) m.work p.first p.given q fs t f e.event in (
          record { work = m.work; is = m.is; tally = f.tally; at = e.event; nodes = ap (λ k. k + n) m.nodes; knows = height_goes m.work m.tally.height height high m.knows },
          ap (λ t. progress wiki page t p.first p.given) m.is ∙ ap (lua_progress m.work p.first) a.1,
          e.frame,
        )

    -- IT IS OVER
    pub machine_ends : (o : Outcome (List Value) Jump) (t : Slots) (left' : Left) (calls' high n : ℕ) → GoIs code point s left calls (Over o t (counts left' calls' high n))
        → EndsAs wiki page (gone p s.heap t.heap n) m.work (end_outcome (end_of o)) (Says (end_told m.work t.heap o)) (record left' { calls = left'.calls + calls' }) (max height high) × Frame p.within s.heap t.heap
    machine_ends o t left' calls' high n g =
        let e = g.goes_to p.within (world wiki page) m.work p.first p.given m.tally m.at in
        let f = telling m.tally (counts left' calls' high n) in
        let d = end_is_met code (with_new p.within s.heap t.heap) (world wiki page) m.work p.first p.given o t f e.event in
        let h : lua (world wiki page) m.work p.first p.given ≡ Ended d.outcome (moment_with d.state (all_given_back f)) = subst (λ given. lua (world wiki page) m.work p.first given ≡ Ended d.outcome (moment_with d.state (all_given_back f))) (append-nil p.given) (d.is_end []) in (
          record {
            is = m.is;
            reply = lua_reply m.work p.first (Ended d.outcome (moment_with d.state (all_given_back f)));
            comes = has_ended wiki page (gone p s.heap t.heap n) m.work d.outcome (moment_with d.state (all_given_back f)) m.is h (ap (λ k. k + n) m.nodes);
            says_so = same_told d.map code d.state.heap t.heap d.stands m.work p.first d.outcome o (moment_with d.state (all_given_back f)) d.same refl;
            leaves = left_after m.work p.first (Ended d.outcome (moment_with d.state (all_given_back f)));
            height = height_told m.work p.first (Ended d.outcome (moment_with d.state (all_given_back f))) (max height high) (height_goes m.work m.tally.height height high m.knows);
            ends_so = record { seen = Ended d.outcome (moment_with d.state (all_given_back f)); is_seen = h; over = tt; outcome_is = same_outcome d.map d.outcome o d.same };
          },
          e.frame,
        )

    -- IT IS SPENT
    pub machine_is_spent : (w : Which) (t : Heap Proc) (left' : Left) (calls' high n : ℕ) → GoIs code point s left calls (Lacks w t (counts left' calls' high n))
        → EndsAs wiki page (gone p s.heap t n) m.work (ending.Spent w) (spent_told m.work w) left' (max height high) × Frame p.within s.heap t
    machine_is_spent w t left' calls' high n g =
        let e = g.goes_to p.within (world wiki page) m.work p.first p.given m.tally m.at in
        let f = telling m.tally (counts left' calls' high n) in
        let h : lua (world wiki page) m.work p.first p.given ≡ Spent w (moment_with e.event.0 f) = subst (λ given. lua (world wiki page) m.work p.first given ≡ Spent w (moment_with e.event.0 f)) (append-nil p.given) (e.event.1 []) in (
          record {
            is = m.is;
            reply = lua_reply m.work p.first (Spent w (moment_with e.event.0 f));
            comes = is_spent wiki page (gone p s.heap t n) m.work w (moment_with e.event.0 f) m.is h (ap (λ k. k + n) m.nodes);
            says_so = spent_response m.work p.first w (moment_with e.event.0 f);
            leaves = left_after m.work p.first (Spent w (moment_with e.event.0 f));
            height = height_told m.work p.first (Spent w (moment_with e.event.0 f)) (max height high) (height_goes m.work m.tally.height height high m.knows);
            ends_so = record { seen = Spent w (moment_with e.event.0 f); is_seen = h; over = tt; outcome_is = refl };
          },
          e.frame,
        )

    -- IT WAITS while another one goes on, which leaves its set alone
    pub machine_waits : (t : Heap Proc) → ((r : Ref) (o : Obj Proc) → IsTrue (p.within r) → look s.heap r ≡ Some o → look t r ≡ Some o) → MachineStands code (world wiki page) p point (with_heap t s) left calls height
    machine_waits t same = record { work = m.work; is = m.is; tally = m.tally; at = point_looks_at_set code p.within (world wiki page) m.work p.first p.given point s (fund left calls m.tally) t m.at same; nodes = m.nodes; knows = m.knows }

  module _ (p : Place) (q : Ask) (fs : List SFrame) (s : Slots) (left : Left) (calls height : ℕ) (m : MachineStands code (world wiki page) p (Asking q fs) s left calls height) where
    -- IT IS ANSWERED
    pub machine_is_answered : (a : Answer) (o : Outcome (List Value) Jump) (K : Set) → GoesOnWith code q fs s a o → IsToldAs K p.within s.heap a o → (r : Reply Answer) → r.response ≡ Says a → (high : ℕ) → KnowsHeight m.work r.tally.height high
        → MachineStands code (world wiki page) (record (replied p r) { within = union p.within K }) (Gives o fs) s r.left calls (max height (calls + high))
    machine_is_answered a o K g k r e high h =
        let at = g p.within K (world wiki page) m.work p.first p.given (fund left calls m.tally) m.at k r.left r.tally in
        let f = with_reply (reply a r.left r.tally) (fund left calls m.tally) in
        let same : reply a r.left r.tally ≡ r = ap (λ x. record r { response = x }) (sym e) in
        record {
          work = m.work;
          is = m.is;
          tally = f.tally;
          at = subst (λ x. At code (union p.within K) (world wiki page) m.work p.first (p.given ++ x ∷ []) (Gives o fs) s f) same at;
          nodes = m.nodes;
          knows = answered m.work m.knows h;
        }
      where
        answered : (work : Work) → KnowsHeight work m.tally.height height → KnowsHeight work r.tally.height high → KnowsHeight work (max m.tally.height (calls + r.tally.height)) (max height (calls + high))
        answered (Invoke job) a b = tt
        answered (DataOf title) a b = ap (λ x. max x (calls + r.tally.height)) a ∙ ap (λ x. max height (calls + x)) b

    -- IT IS SPENT with the answer
    pub machine_is_refused : (w : Which) (r : Reply Answer) → r.response ≡ Exhausts w
        → (high : ℕ) × EndsAs wiki page (replied p r) m.work (ending.Spent w) (spent_told m.work w) (record r.left { calls = r.left.calls + calls }) high
    machine_is_refused w r e =
        let d = spent_answer_is_met code p.within (world wiki page) m.work p.first p.given q fs s (fund left calls m.tally) m.at w r.left r.tally in
        let f = all_given_back (with_reply (spent_reply w r.left r.tally) (fund left calls m.tally)) in
        let same : spent_reply w r.left r.tally ≡ r = ap (λ x. record r { response = x }) (sym e) in
        let h : lua (world wiki page) m.work p.first (p.given ++ r ∷ []) ≡ Spent w (moment_with d.0 f) =
        subst (λ x. lua (world wiki page) m.work p.first (p.given ++ x ∷ []) ≡ Spent w (moment_with d.0 f)) same (subst (λ given. lua (world wiki page) m.work p.first given ≡ Spent w (moment_with d.0 f)) (append-nil (p.given ++ spent_reply w r.left r.tally ∷ [])) (d.1 [])) in (
          f.tally.height,
          record {
            is = m.is;
            reply = lua_reply m.work p.first (Spent w (moment_with d.0 f));
            comes = is_spent wiki page (replied p r) m.work w (moment_with d.0 f) m.is h m.nodes;
            says_so = spent_response m.work p.first w (moment_with d.0 f);
            leaves = left_after m.work p.first (Spent w (moment_with d.0 f));
            height = height_told m.work p.first (Spent w (moment_with d.0 f)) f.tally.height (knows m.work f.tally.height);
            ends_so = record { seen = Spent w (moment_with d.0 f); is_seen = h; over = tt; outcome_is = refl };
          },
        )
      where
        knows : (work : Work) (n : ℕ) → KnowsHeight work n n
        knows (Invoke job) n = tt
        knows (DataOf title) n = refl
