-- WHERE A MACHINE STANDS IN A RUN, stated at the store alone; and what a call does.
use Rattle.std.specs.Prelude.{◌≡◌, false, List, [], ◌++◌, Some, IsTrue}
use Rattle.page_run.specs.WkBaseDeclaredLeftLeft.{Left}
use Rattle.page_run.specs.State.{Reply, Spent}
use Rattle.lua_heap.specs.Proc.{Proc, proc_names}
use Rattle.lua_heap.specs.Heap.{Heap, Ref, tab, Obj, look, IsShared, table_at}
use Rattle.lua_heap.specs.Related.{Map, Each, Same, Stands}
use Rattle.lua_heap.specs.Reach.{Set, AllIn, obj_names, shared_at, with_new, Frame, FreezesNone}
use Rattle.lua_agree.specs.LuaMeaningQuestions.{Answer}
use Rattle.lua_goes.specs.LuaMeaningActs.{State, LuaRun}
use Rattle.lua_agree.specs.LuaMeaningWorld.{World}
use Rattle.lua_agree.specs.LuaMeaningStart.{Work, lua}
use Rattle.lua_goes.specs.LuaSlotsCode.{CWorld}
use Rattle.lua_agree.specs.LuaSlotsIsCode.{Agrees}
use Rattle.lua_goes.specs.LuaSlotsSlots.{Slots}
use Rattle.lua_goes.specs.LuaSlotsPoints.{Point, Gives, Asking}
use Rattle.lua_goes.specs.LuaSlotsEnact.{Funds}
use Rattle.lua_goes.specs.Going.{Stop, Over, Lacks, Waiting, heap_at}
use Rattle.lua_agree.specs.LuaLibraryAgreeSame.{SameFrame}
use Rattle.lua_agree.specs.Variables.{Var, Vars}
use Rattle.lua_agree.specs.Values.{SameProgress, SameTitled}
use Rattle.lua_agree.specs.Functions.{SameFunction}
use Rattle.lua_agree.specs.Agree.{SamePoint}
use Rattle.lua_agree.specs.Met.{moment_with, comes_to}

module _ (code : CWorld) where
  -- A RUN over names, from a state on, STANDS IN THE STORE at that point of a machine. There is a map from the objects of the run to some
  -- of the store, all within the set, under which: the run's heap stands in the store, and its open variables in the registers; what is kept
  -- of the run (environment, modules, loaded data, frames) stands for what the machine keeps; and what the run does next is what the
  -- machine does next. The table of the global variables can be written; and the read-only tables among the objects of the map name read-only
  -- tables alone.
  pub record Standing (S : Set) (h : State) (p : LuaRun) (point : Point) (s : Slots) : Type 0 where
    pub map : Map
    pub vars : List Var
    pub stands : Stands (SameFunction code) map h.heap s.heap
    pub open_ : Vars map h.heap vars s.regs
    pub globals : map.to (tab h.globals) ≡ Some (tab s.globals)
    pub writable : (table_at s.heap s.globals).frozen ≡ false
    pub strings : map.to (tab h.strings) ≡ Some (tab s.strings)
    pub modules : Each (SameTitled (SameProgress map)) h.modules s.modules
    pub data_modules : Each (SameTitled (Same map)) h.data_modules s.data_
    pub frames : Each (SameFrame map) h.frames s.frames
    pub inside : (q r : Ref) → map.to q ≡ Some r → IsTrue (S r)
    pub deep : (q r : Ref) (b : Obj Proc) → map.to q ≡ Some r → look s.heap r ≡ Some b → IsShared b → AllIn (shared_at s.heap) (obj_names proc_names b)
    pub same : SamePoint code map vars s.functions p point

  -- A MACHINE IS AT THE POINT of a work's run after these replies: the code is that of the world's modules, some run stands there, and
  -- whatever replies are still to come, the meaning of the whole is what that run comes to with what is left.
  pub record At (S : Set) (world : World) (work : Work) (first : Left) (given : List (Reply Answer)) (point : Point) (s : Slots) (f : Funds) : Type 0 where
    pub agrees : Agrees world code
    pub state : State
    pub run : LuaRun
    pub standing : Standing S state run point s
    pub means : (more : List (Reply Answer)) → lua world work first (given ++ more) ≡ comes_to world run state f more

  -- what is true of the run at an event of a machine: it is at its end, or at a question, as the machine is; or it is spent with the same
  -- allowance, and as much is left, whatever replies would have come
  abbrev pub AtEvent : Set → World → Work → Left → List (Reply Answer) → Stop → Type 0
  AtEvent S world work first given (Over o s f) = At S world work first given (Gives o []) s f
  AtEvent S world work first given (Lacks w t f) = (h : State) × ((more : List (Reply Answer)) → lua world work first (given ++ more) ≡ Spent w (moment_with h f))
  AtEvent S world work first given (Waiting q fs s f) = At S world work first given (Asking q fs) s f

  -- WHAT A CALL DOES that comes to that event, from the heap s of the store: the run is there too, in the set with what was made in the
  -- call; nothing that was outside of the set, and no read-only table, was changed; and no table became read-only.
  pub record Gone (S : Set) (world : World) (work : Work) (first : Left) (given : List (Reply Answer)) (s : Heap Proc) (e : Stop) : Type 0 where
    pub event : AtEvent (with_new S s (heap_at e)) world work first given e
    pub frame : Frame S s (heap_at e)
    pub freezes_none : FreezesNone s (heap_at e)

  -- Some run of the code's modules stands there: what a machine must be handed to go on.
  pub record IsAt (point : Point) (s : Slots) (f : Funds) : Type 0 where
    pub within : Set
    pub world : World
    pub work : Work
    pub first : Left
    pub given : List (Reply Answer)
    pub at : At within world work first given point s f
