-- Data loads: what was kept of one stands for it where it is covered; elsewhere it is fresh; and what is kept of one that completed.
use Rattle.std.proofs.Common.{◌≡◌, ℕ, ◌-◌, ◌≤◌, ◌⊎◌, inl, inr, Bool, true, false, List, [], Some, refl, sym, ap, ◌∙◌, subst, arith}
use Rattle.std.specs.Prelude.{◌<◌, ◌&&◌, Option, None, Ok, Err}
use Rattle.page_meaning.specs.WkBaseDeclaredLeftLeft.{Left}
use Rattle.page_meaning.specs.WkBaseDeclaredTitleTitle.{Title}
use Rattle.page_meaning.specs.WkBaseTitles.{title_text}
use Rattle.page_meaning.specs.PageRunState.{Response, Gives, Reply, Ended, Spent, Asked}
use Rattle.page_meaning.specs.PageRunWalk.{WalkState, walk, walk_load, is_in}
use Rattle.page_meaning.specs.MwFrameDeclaredQuestionAskTheVariants.{Template, Preprocess, Data}
use Rattle.lua_walk.specs.LuaHeapValue.{Text}
use Rattle.lua_walk.specs.LuaHeapHeap.{Heap}
use Rattle.lua_walk.specs.LuaHeapGraph.{Graph}
use Rattle.lua_walk.specs.Data.{Checked, taken}
use Rattle.lua_points.specs.LuaMeaningScope.{Function}
use Rattle.page_meaning.specs.LuaMeaningLawsLaws.{AsksForData}
use Rattle.page_meaning.proofs.LuaMeaningLawsRuns.{data_runs_ask_for_data}
use Rattle.page_meaning.specs.LuaMeaningWorld.{Module}
use Rattle.page_meaning.specs.LuaMeaningQuestions.{Answer, Expanded}
use Rattle.page_meaning.specs.LuaMeaningStart.{DataOf, End, Done, DoneData, Failed, end_of, lua}
use Rattle.page_meaning.specs.Wiki.{Wiki, world}
use Rattle.page_meaning.specs.Told.{Seen, graph_answer, data_answer, load_response, loaded, completes}
use Rattle.page_meaning.specs.Points.{drive_after}
use Rattle.page_meaning.specs.Drive.{load}
use Rattle.page_meaning.specs.Laws.{charge_of, height_of, IsKept}
use Rattle.page_meaning.specs.Tasks.{Running, Question, OfLua, Wants, lua_progress, loading, progress, total, total_or_absent, answer_to}
use Rattle.page_meaning.proofs.DriveLaws.{drive-is}
use Rattle.page_meaning.proofs.KeptLaws.{loads_are_covered, short_is_spent, kept_serves}
use Rattle.page_points.specs.Places.{Place, WaitsFor, from_start, IsFresh}
use Rattle.page_points.specs.Loads.{IsServed, IsPaid}

and_false : (b : Bool) → (b && false) ≡ false
and_false true = refl
and_false false = refl

module _ (wiki : Wiki) (page : Title) where
  load_is : (title : Title) (l : Left) → total wiki page (Running (DataOf title)) l [] ≡ load wiki page title l
  load_is title l = ap (loaded title l) (sym (drive-is wiki page (DataOf title) l))

  pub answer_is_load : (title : Title) (l : Left) (m : Module) → wiki.modules title ≡ Some m → answer_to wiki page (OfLua (Data title)) l ≡ load wiki page title l
  answer_is_load title l m e = ap (λ o. total_or_absent wiki page (loading o title) l) e ∙ load_is title l

  -- WHAT WAS KEPT serves where it is covered, as a repeat
  pub kept_is_served : (title : Title) (answer : Answer) (charge height : ℕ) (l : Left) (now : WalkState) → IsKept wiki page title answer charge height → charge ≤ l.steps → height ≤ l.calls → is_in (title_text title) now.completed_modules ≡ true
      → IsServed wiki page title answer charge height l now
  kept_is_served title answer charge height l now k paid covered found =
      let s = kept_serves wiki page title answer charge height k l paid covered in
      record {
        gives = s.gives;
        leaves = s.left;
        height_is = s.height_is;
        invokes = refl;
        walks = ap (λ v. walk v now) s.loads ∙ ap (λ b. walk_load b (title_text title) charge s.nodes true (walk s.inner) now) found;
      }

  -- ELSEWHERE a load is fresh: it was not kept, or it doesn't complete
  pub short_is_fresh : (title : Title) (answer : Answer) (charge height : ℕ) (l : Left) (now : WalkState) → IsKept wiki page title answer charge height → (l.steps < charge) ⊎ (l.calls < height) → IsFresh wiki page (Running (DataOf title)) l now
  short_is_fresh title answer charge height l now k few =
      let s = short_is_spent wiki page title k.now answer k.gives l (short few) in
      ap (λ (x : Response Answer). completes x && is_in (title_text title) now.completed_modules) (ap (λ (r : Reply Answer). r.response) (load_is title l) ∙ s.1)
    where
      short : (l.steps < charge) ⊎ (l.calls < height) → (l.steps < charge_of wiki page title k.now) ⊎ (l.calls < height_of wiki page title k.now)
      short (inl lt) = inl (omega (arith, lt, k.charge_is))
      short (inr lt) = inr (omega (arith, lt, k.height_is))

  pub new_is_fresh : (title : Title) (l : Left) (now : WalkState) → is_in (title_text title) now.completed_modules ≡ false → IsFresh wiki page (Running (DataOf title)) l now
  new_is_fresh title l now e = ap (λ b. completes (total wiki page (Running (DataOf title)) l []).response && b) e ∙ and_false (completes (total wiki page (Running (DataOf title)) l []).response)

  -- WHAT IS KEPT of a load that completed: it was paid and covered
  pub load_is_kept : (title : Title) (p : Place) (r : Reply Answer) (a : Answer) → p.task ≡ Running (DataOf title) → from_start wiki page p ≡ r → r.response ≡ Gives a
      → IsKept wiki page title a (p.first.steps - r.left.steps) r.tally.height × IsPaid p.first r
  load_is_kept title p r a is comes says =
      let same : load wiki page title p.first ≡ r = sym (load_is title p.first) ∙ ap (λ t. total wiki page t p.first []) (sym is) ∙ comes in
      let gives : (load wiki page title p.first).response ≡ Gives a = ap (λ (x : Reply Answer). x.response) same ∙ says in
      let c = loads_are_covered wiki page title p.first a gives in
      let steps = ap (λ (x : Reply Answer). x.left.steps) same in
      let high = ap (λ (x : Reply Answer). x.tally.height) same in
      let calls : r.left.calls ≡ p.first.calls = ap (λ (x : Reply Answer). x.left.calls) (sym same) ∙ ap (λ (l : Left). l.calls) c.left in
      let less = ap (λ (l : Left). l.steps) c.left in (
        record { now = p.first; gives = gives; charge_is = ap (λ n. p.first.steps - n) (sym steps); height_is = sym high },
        record { falls = omega (arith, less, steps, c.steps); keeps = calls; covers = omega (arith, c.calls, high) },
      )

-- A RUN OF DATA is told no text: it asks for data alone
graph_is_no_text : (a : Checked Graph) (x : List ℕ) → graph_answer a ≡ Expanded x → ⊥
graph_is_no_text (Ok g) x e = absurd cc
graph_is_no_text (Err f) x e = absurd cc

data_is_no_text : (h : Heap Function) (e : End) (x : List ℕ) → data_answer h e ≡ Expanded x → ⊥
data_is_no_text h (DoneData v) x e = graph_is_no_text (taken h v) x e
data_is_no_text h (Done t) x e = graph_is_no_text (taken h (Text t)) x e
data_is_no_text h (Failed t) x e = absurd cc

load_is_no_text : (e : Seen) (x : List ℕ) → load_response e ≡ Gives (Expanded x) → ⊥
load_is_no_text (Ended o m) x i = data_is_no_text m.heap.heap (end_of o) x cc
load_is_no_text (Spent w m) x i = absurd cc
load_is_no_text (Asked q m) x i = absurd cc

module _ (wiki : Wiki) (page : Title) where
  held_is_no_text : (title : Title) (held : Option Module) (l : Left) (x : List ℕ) → (total_or_absent wiki page (loading held title) l).response ≡ Gives (Expanded x) → ⊥
  held_is_no_text title (Some m) l x e = load_is_no_text (drive_after wiki page (DataOf title) l []) x e
  held_is_no_text title None l x e = absurd cc

  asked_is_no_text : (title : Title) (first : Left) (e : Seen) → AsksForData e → (q : Question) (l : Left) → lua_progress (DataOf title) first e ≡ Wants q l → (x : List ℕ) → (answer_to wiki page q l).response ≡ Gives (Expanded x) → ⊥
  asked_is_no_text title first (Ended o m) d q l i x e = absurd cc
  asked_is_no_text title first (Spent w m) d q l i x e = absurd cc
  asked_is_no_text title first (Asked (Template scene t args) m) d q l i x e = absurd d
  asked_is_no_text title first (Asked (Preprocess scene t) m) d q l i x e = absurd d
  asked_is_no_text title first (Asked (Data t) m) d q l i x e = held_is_no_text t (wiki.modules t) l x (subst (λ v. (answer_to wiki page v l).response ≡ Gives (Expanded x)) (sym (question_is i)) e)
    where
      question_is : Wants (OfLua (Data t)) m.left ≡ Wants q l → OfLua (Data t) ≡ q
      question_is i = cc

  pub load_gets_data : (p : Place) (title : Title) (r : Reply Answer) (w : WalkState) → p.task ≡ Running (DataOf title) → WaitsFor wiki page p r w → (x : List ℕ) → r.response ≡ Gives (Expanded x) → ⊥
  load_gets_data p title r w is k x e =
      asked_is_no_text title p.first (lua (world wiki page) (DataOf title) p.first p.given) (data_runs_ask_for_data (world wiki page) title p.first p.given) k.question k.left
      (sym (ap (λ t. progress wiki page t p.first p.given) is) ∙ k.wants) x (ap (λ (y : Reply Answer). y.response) k.answer ∙ e)
