-- CALLS of an expansion, and the answer to a machine, by their clauses (`MachineGoes` of Going is the call of a machine).
use Rattle.std.specs.Prelude.{◌≡◌, ℕ, ◌+◌, max, List, [], ◌∷◌, ◌++◌}
use Rattle.page_run.specs.WkBaseDeclaredLeftLeft.{Left}
use Rattle.mw_frame.specs.declared.question.Ask.{Ask}
use Rattle.page_run.specs.Outcome.{Outcome}
use Rattle.page_run.specs.State.{Gives as Says, Reply as PlainReply}
use Rattle.lua_code.specs.LuaHeapValue.{Value}
use Rattle.wiki_expand.specs.ExpandMeaningOutcome.{Work}
use Rattle.lua_machine.specs.LuaMeaningActs.{Jump}
use Rattle.page_ground.specs.LuaMeaningQuestions.{Answer}
use Rattle.lua_code.specs.LuaSlotsCode.{CWorld}
use Rattle.lua_machine.specs.LuaSlotsPoints.{Gives}
use Rattle.lua_machine.specs.LuaPointsClauses.{GoesOnWith as AnswersWith}
use Rattle.lua_machine.specs.LuaStoreSeen.{StoreView}
use Rattle.lua_machine.specs.LuaStoreParts.{IsLater}
use Rattle.page_ground.specs.LuaStateSeen.{slots_of, frames_of}
use Rattle.lua_machine.specs.declared.machine.Machine.{Machine}
use Rattle.lua_machine.specs.declared.event.Event.{Event}
use Rattle.lua_machine.specs.Moved.{point_of}
use Rattle.page_tasks.specs.declared.task.Halt.{Halt}
use Rattle.page_tasks.specs.Going.{MachineGoes, halt_of}
use Rattle.page_tasks.specs.Falling.{StepsFall}
use Rattle.wiki_expand.specs.WikiPagesPages.{Pages}
use Rattle.wiki_expand.specs.declared.expander.Expander.{Expander}
use Rattle.wiki_expand.specs.declared.expander.Move.{Move}
use Rattle.wiki_expand.specs.Standing.{At, Waits, IsMove, MoveAsks, MoveFalls, IsAfter, setting_of, depth_in, templates_in, allowed_in}

-- an expansion goes on
pub record ExpanderGoes (e : Expander) (l : Left) (m : Move) (e' : Expander) (l' : Left) : Type 0 where
  pub goes : (work : Work) (first : Left) (given : List (PlainReply (List ℕ))) → At e work first given l → IsMove m e' work first given l'
  pub pages : Pages
  pub asks : MoveAsks pages m
  pub setting : setting_of e' ≡ setting_of e
  pub depth : l'.depth + depth_in e' ≡ l.depth + depth_in e
  pub templates : l'.templates + templates_in e' ≡ l.templates + templates_in e
  pub after : IsAfter m e'
  pub used : (l'.steps ≡ l.steps) × (l'.calls ≡ l.calls)
  pub falls : MoveFalls m (allowed_in l e) (allowed_in l' e')

-- and halts so
pub record ExpandsTo (e : Expander) (l : Left) (e' : Expander) (l' : Left) (h : Halt) : Type 0 where
  pub next : Move
  pub goes : ExpanderGoes e l next e' l'
  pub halts : h ≡ halt_of next

-- it is told a text
pub record ExpanderIsTold (e : Expander) (l : Left) (text : List ℕ) (e' : Expander) (l' : Left) : Type 0 where
  pub at : (work : Work) (first : Left) (given : List (PlainReply (List ℕ))) (r : PlainReply (List ℕ)) → Waits e work first given → r.response ≡ Says text → r.left ≡ l → At e' work first (given ++ r ∷ []) l'
  pub left : l' ≡ l
  pub setting : setting_of e' ≡ setting_of e
  pub depth : depth_in e' ≡ depth_in e
  pub templates : templates_in e' ≡ templates_in e
  pub falls : allowed_in l' e' ≡ allowed_in l e

-- a machine is told an answer
pub record MachineIsTold (s : StoreView) (m : Machine) (o : Outcome (List Value) Jump) (high : ℕ) (s₁ : StoreView) (m₁ : Machine) : Type 0 where
  pub later : IsLater s s₁
  pub heap : s₁.heap ≡ s.heap
  pub state : m₁.state ≡ m.state
  pub point : point_of s₁ m₁.state m₁.next ≡ Gives o (frames_of s₁ m₁.state)
  pub slots : slots_of s₁ m₁.state ≡ slots_of s m.state
  pub goes_on : (code : CWorld) (q : Ask) (a : Answer) → AnswersWith code q (frames_of s₁ m₁.state) (slots_of s₁ m₁.state) a o
  pub height : m₁.height ≡ max m.height (m.state.calls + high)

-- a run of Lua goes on to an event, which is how its task halts
pub record RunsTo (Is : StoreView → Event → Halt → Type 0) (s : StoreView) (l : Left) (k : ℕ) (m : Machine) (s' : StoreView) (l' : Left) (k' : ℕ) (m' : Machine) (h : Halt) : Type 0 where
  pub event : Event
  pub goes : MachineGoes s l k m s' l' k' m' event
  pub halts : Is s' event h
  pub falls : StepsFall event l.steps l'.steps
