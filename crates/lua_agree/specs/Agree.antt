-- WHEN A MACHINE OVER SLOTS STANDS WHERE A RUN OVER NAMES STANDS: things that begin, points, and what both hold.
use Rattle.std.specs.Prelude.{◌≡◌, ℕ, ℤ, Bool, false, List, [], Option, Some, None}
use Rattle.lua_slots.specs.LuaSyntaxTree.{Exp, Exps, Block}
use Rattle.lua_library_agree.specs.PageRunRun.{Begins, Asks}
use Rattle.lua_slots.specs.PageRunOutcome.{Outcome, Goes, Jumps, on_value, give}
use Rattle.lua_library_agree.specs.MwFrameDeclaredQuestionAsk.{Ask}
use Rattle.lua_heap.specs.Proc.{Proc}
use Rattle.lua_heap.specs.Value.{Value}
use Rattle.lua_heap.specs.declared.library.Library.{Library}
use Rattle.lua_heap.specs.Heap.{Heap, tab, table_at}
use Rattle.lua_heap.specs.Related.{Map, Each, Same, Stands, Later}
use Rattle.lua_slots.specs.LuaMeaningScope.{Bytes, Function, Scope, Levels}
use Rattle.lua_slots.specs.LuaMeaningActs.{Jump, State, Thing, WhileTurn, RepeatTurn, CountTurn, EachTurn, Body, LibraryBody, ChunkBody, IndexLink, SetLink, CallLink, LuaRun}
use Rattle.lua_slots.specs.LuaMeaningWorld.{World}
use Rattle.lua_library_agree.specs.LuaMeaningParts.{Target}
use Rattle.lua_library_agree.specs.LuaMeaningExpressions.{values}
use Rattle.lua_library_agree.specs.LuaMeaningStatements.{targets, assign_each}
use Rattle.lua_library_agree.specs.LuaMeaningMeaning.{expression, expressions, targets_of, block}
use Rattle.lua_library_agree.specs.LuaMeaningWaiting.{receive}
use Rattle.lua_slots.specs.LuaMeaningStart.{Work, answer_texts, run_of}
use Rattle.lua_slots.specs.Code.{CExp, CExps, CTarget, CBlock, CProto, CWorld}
use Rattle.lua_slots.specs.Sight.{Sight, with_local, with_locals, AreAsMany}
use Rattle.lua_slots.specs.IsCode.{any_sight, IsExp, IsExps, IsTargets, IsBlock, IsText, Agrees}
use Rattle.lua_slots.specs.Slots.{Activation, Slots, levels_at}
use Rattle.lua_slots.specs.Calls.{code_of, text_of_module}
use Rattle.lua_slots.specs.Points.{STarget, SThing, WhileTurnS, RepeatTurnS, CountTurnS, EachTurnS, BodyS, LibraryS, IndexLinkS, SetLinkS, CallLinkS, SFrame, Point, Gives, Evals, Lists, Finds, Sets, Runs, Starts, Texts, Asking, Works}
use Rattle.lua_library_agree.specs.Same.{SameFrame}
use Rattle.lua_agree.specs.Variables.{Var, Vars, Inside}
use Rattle.lua_agree.specs.Values.{SameJump, SameOutcome, SameTarget, SameSet, SameProgress, SameTitled}
use Rattle.lua_agree.specs.Functions.{SameFunction, here, end_of}
use Rattle.lua_agree.specs.Rests.{After, stays, all_targets, paid_text, SameRest, SameEnd}

module _ (code : CWorld) where
  -- THINGS that begin
  pub data SameThing (m : Map) (vars : List Var) (fns : List Activation) : Thing → SThing → Type 0 where
    while_turns : (e : Exp) (c : CExp) (b : Block) (d : CBlock) (see : Sight) (scope : Scope) → IsExp (here code fns) see e c → IsBlock (here code fns) any_sight see b d → Inside m vars fns see scope
        → SameThing m vars fns (WhileTurn e b scope) (WhileTurnS c d)
    repeat_turns : (b : Block) (c : CBlock) (e : Exp) (d : CExp) (see : Sight) (scope : Scope) → IsBlock (here code fns) (λ end. IsExp (here code fns) end e d) see b c → Inside m vars fns see scope
        → SameThing m vars fns (RepeatTurn b e scope) (RepeatTurnS c d)
    count_turns : (x : Bytes) (boxed : Bool) (index limit step : ℤ) (b : Block) (c : CBlock) (see : Sight) (scope : Scope) → IsBlock (here code fns) any_sight (with_local x boxed see) b c → Inside m vars fns see scope
        → SameThing m vars fns (CountTurn x index limit step b scope) (CountTurnS boxed index limit step c)
    each_turns : (names : List Bytes) (flags : List Bool) (f g t u : Value) (vs ws : List Value) (b : Block) (c : CBlock) (line : ℕ) (see : Sight) (scope : Scope) → AreAsMany names flags
        → IsBlock (here code fns) any_sight (with_locals names flags see) b c → Inside m vars fns see scope → Same m f g → Same m t u → Each (Same m) vs ws
        → SameThing m vars fns (EachTurn names f t vs b line scope) (EachTurnS flags g u ws c line)
    bodies : (a : Function) (b : Proc) (vs ws : List Value) (ls : Levels) (line : Option ℕ) → SameFunction code m a b → Each (Same m) vs ws → ls ≡ levels_at fns line
        → SameThing m vars fns (Body a vs ls) (BodyS b ws line)
    texts_of : (source : Bytes) (b : Block) (p : CProto) → IsText (code_of (code.modules source)) b p → SameThing m vars fns (ChunkBody source b) (BodyS (text_of_module source) [] None)
    libraries : (which : Library) (vs ws : List Value) (ls : Levels) (line : Option ℕ) → Each (Same m) vs ws → ls ≡ levels_at fns line → SameThing m vars fns (LibraryBody which vs ls) (LibraryS which ws line)
    index_links : (a b h i k l : Value) (ls : Levels) (line : Option ℕ) → Same m a b → Same m h i → Same m k l → ls ≡ levels_at fns line
        → SameThing m vars fns (IndexLink a h k ls) (IndexLinkS b i l line)
    set_links : (a b h i k l v w : Value) (ls : Levels) (line : Option ℕ) → Same m a b → Same m h i → Same m k l → Same m v w → ls ≡ levels_at fns line
        → SameThing m vars fns (SetLink a h k v ls) (SetLinkS b i l w line)
    call_links : (h i : Value) (vs ws : List Value) (ls : Levels) (line : Option ℕ) → Same m h i → Each (Same m) vs ws → ls ≡ levels_at fns line
        → SameThing m vars fns (CallLink h vs ls) (CallLinkS i ws line)

  -- POINTS: the run over names, and what the machine does next. A jump may come out of a block, whose end waits; and a block may end.
  pub data SamePoint (m : Map) (vars : List Var) (fns : List Activation) : LuaRun → Point → Type 0 where
    gives : (o o' : Outcome (List Value) Jump) (k : After (List Value)) (fs : List SFrame) → SameOutcome m o o' → SameRest code m vars fns k fs → SamePoint m vars fns (k o) (Gives o' fs)
    jumps : (tail : Option (Exp × CExp)) (j j' : Jump) (k : After Scope) (fs : List SFrame) → SameJump m j j' → SameEnd code m tail vars fns k fs → SamePoint m vars fns (k (Jumps j)) (Gives (Jumps j') fs)
    ends : (tail : Option (Exp × CExp)) (see : Sight) (scope : Scope) (k : After Scope) (fs : List SFrame) → end_of code fns tail see → Inside m vars fns see scope → SameEnd code m tail vars fns k fs → SamePoint m vars fns (k (Goes scope)) (Gives (Goes []) fs)
    evaluates : (e : Exp) (c : CExp) (see : Sight) (scope : Scope) (k : After (List Value)) (fs : List SFrame) → IsExp (here code fns) see e c → Inside m vars fns see scope → SameRest code m vars fns k fs
        → SamePoint m vars fns (expression e scope k) (Evals c fs)
    lists : (es : Exps) (cs : CExps) (vs ws : List Value) (see : Sight) (scope : Scope) (k : After (List Value)) (fs : List SFrame) → IsExps (here code fns) see es cs → Inside m vars fns see scope → Each (Same m) vs ws → SameRest code m vars fns k fs
        → SamePoint m vars fns (values (expressions es) scope vs k) (Lists cs ws fs)
    finds : (left : Exps) (ts : List CTarget) (found : List Target) (sfound : List STarget) (right : Exps) (cs : CExps) (see : Sight) (scope : Scope) (k : After Scope) (fs : List SFrame)
        → IsTargets (here code fns) see left ts → Each (SameTarget m vars fns) found sfound → IsExps (here code fns) see right cs → Inside m vars fns see scope → SameRest code m vars fns (stays scope k) fs
        → SamePoint m vars fns (targets (targets_of left) scope found (all_targets right scope k)) (Finds ts sfound cs fs)
    sets : (ps : List (Target × Value)) (qs : List (STarget × Value)) (scope : Scope) (k : After Scope) (fs : List SFrame) → Each (SameSet m vars fns) ps qs → SameRest code m vars fns (stays scope k) fs
        → SamePoint m vars fns (assign_each ps (on_value (λ _. give scope) k)) (Sets qs fs)
    runs : (tail : Option (Exp × CExp)) (b : Block) (c : CBlock) (see : Sight) (scope : Scope) (k : After Scope) (fs : List SFrame) → IsBlock (here code fns) (end_of code fns tail) see b c → Inside m vars fns see scope → SameEnd code m tail vars fns k fs
        → SamePoint m vars fns (block b scope k) (Runs c fs)
    starts : (t : Thing) (t' : SThing) (k : After (List Value)) (fs : List SFrame) → SameThing m vars fns t t' → SameRest code m vars fns k fs → SamePoint m vars fns (Begins t k) (Starts t' fs)
    texts : (vs ws : List Value) (before : Bytes) → vars ≡ [] → fns ≡ [] → Each (Same m) vs ws → SamePoint m vars fns (answer_texts vs before paid_text) (Texts ws before [])
    asks : (q : Ask) (k : After (List Value)) (fs : List SFrame) → SameRest code m vars fns k fs → SamePoint m vars fns (Asks q (λ a. receive a k)) (Asking q fs)
    -- before the first event, in any world whose modules have this code
    works : (world : World) (work : Work) → Agrees world code → vars ≡ [] → fns ≡ [] → SamePoint m vars fns (run_of world work) (Works work)

-- what stood in what when the machine last went on
pub record Base : Type 0 where
  pub map : Map
  pub heap : Heap Function
  pub store : Heap Proc

-- WHAT BOTH HOLD: the run's heap stands in the store, its open variables in the registers; what is kept of the run stands for what is
-- kept; and since the base all else is as it was. The table of the global variables can be written, as `require` of `strict` takes for
-- granted.
pub record Rel (code : CWorld) (B : Base) (m : Map) (vars : List Var) (h : State) (s : Slots) : Type 0 where
  pub stands : Stands (SameFunction code) m h.heap s.heap
  pub open_ : Vars m h.heap vars s.regs
  pub later : Later B.map m B.heap h.heap B.store s.heap
  pub globals : m.to (tab h.globals) ≡ Some (tab s.globals)
  pub writable : (table_at s.heap s.globals).frozen ≡ false
  pub strings : m.to (tab h.strings) ≡ Some (tab s.strings)
  pub modules : Each (SameTitled (SameProgress m)) h.modules s.modules
  pub data_modules : Each (SameTitled (Same m)) h.data_modules s.data_
  pub frames : Each (SameFrame m) h.frames s.frames
