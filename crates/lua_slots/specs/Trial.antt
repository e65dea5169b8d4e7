-- SMALL RUNS of a machine for worked examples, seen as those of the meaning are: how a run ends, and the steps that are left.
use Rattle.std.specs.Prelude.{ℕ, zero, suc, List, [], ◌∷◌, Option, Some, None, Ok, if◌then◌else◌, slice_get, bytes_eq}
use Rattle.lua_meaning.specs.WkBaseTitles.{title_text}
use Rattle.lua_meaning.specs.MwFrameDeclaredSceneArg.{Arg}
use Rattle.lua_meaning.specs.PageRunOutcome.{Outcome, Goes, Jumps}
use Rattle.lua_meaning.specs.PageRunState.{Reply}
use Rattle.lua_meaning.specs.LuaHeapValue.{Value, Text, Table}
use Rattle.lua_meaning.specs.Scope.{Bytes}
use Rattle.lua_meaning.specs.Questions.{Answer}
use Rattle.lua_meaning.specs.Acts.{Jump, Raised}
use Rattle.lua_meaning.specs.Start.{Work, Invoke, DataOf}
use Rattle.lua_meaning.specs.Trial as seen
use Rattle.lua_meaning.specs.Trial.{Seen, page, module_title, job, job_in_template, allowance}
use Rattle.lua_slots.specs.Code.{CProto, Protos, CModule, CWorld}
use Rattle.lua_slots.specs.Slots.{no_slots}
use Rattle.lua_slots.specs.Points.{Gives, Asking, Works}
use Rattle.lua_slots.specs.Moves.{moves}
use Rattle.lua_slots.specs.Enact.{funds, Enacted, Stands, Short, enact, takes_reply}

-- the constants of a text, and its functions in order, the text itself first
abbrev pub or_empty : Option Bytes → Bytes
or_empty (Some t) = t
or_empty None = []

abbrev pub code_with : List Bytes → List CProto → Protos
code_with constants ps = record { function = λ index. slice_get ps index; constant = λ number. or_empty (slice_get constants number) }

abbrev pub module_of : ℕ → Protos → CModule
module_of size at = record { size = size; code = Ok at }

abbrev pub seen_end : Outcome (List Value) Jump → ℕ → Seen
seen_end (Goes (Text t ∷ [])) steps = seen.Gives t steps
seen_end (Goes (Table t ∷ [])) steps = seen.Loads steps
seen_end (Jumps (Raised (Text t))) steps = seen.Fails t steps
seen_end _ steps = seen.Else

-- at most so many moves and replies, one after another
abbrev pub run : ℕ → CWorld → Enacted → List (Reply Answer) → Seen
run zero world e replies = seen.Else
run (suc n) world (Short which f) replies = seen.Spends which f.left.steps
run (suc n) world (Stands (Gives o []) s f) replies = seen_end o f.left.steps
run (suc n) world (Stands (Asking q fs) s f) [] = seen.Asks q f.left.steps
run (suc n) world (Stands (Asking q fs) s f) (r ∷ replies) = run n world (takes_reply r fs s f) replies
run (suc n) world (Stands p s f) replies = run n world (enact (moves world p s) f) replies

abbrev pub works_in : (Bytes → Option CModule) → Work → ℕ → ℕ → List (Reply Answer) → Seen
works_in modules work steps calls replies = run 3000 (record { page = page; modules = modules }) (Stands (Works work) no_slots (funds (allowance steps calls))) replies

-- the function `f` of a module is invoked: the arguments, the calls, the module's name, the size of its text, its code, and the steps
abbrev pub invoke_with_args : List Arg → ℕ → Bytes → ℕ → Protos → ℕ → Seen
invoke_with_args args calls name size at steps = works_in (λ title. Some (module_of size at)) (Invoke (job name args)) steps calls []

abbrev pub invoke_with_calls : ℕ → Bytes → ℕ → Protos → ℕ → Seen
invoke_with_calls calls name size at steps = invoke_with_args [] calls name size at steps

abbrev pub invoke_module : Bytes → ℕ → Protos → ℕ → Seen
invoke_module name size at steps = invoke_with_calls 20000 name size at steps

-- a module is loaded as data
abbrev pub load_module : Bytes → ℕ → Protos → ℕ → Seen
load_module name size at steps = works_in (λ title. Some (module_of size at)) (DataOf (module_title name)) steps 20000 []

-- several modules, and an invocation in the body of a template
pub record ModuleCode : Type 0 where
  pub name : Bytes
  pub size : ℕ
  pub code : Protos

abbrev pub module_text : Bytes → ℕ → Protos → ModuleCode
module_text name size at = record { name = name; size = size; code = at }

abbrev pub modules_of : List ModuleCode → Bytes → Option CModule
modules_of [] title = None
modules_of (m ∷ ms) title = if bytes_eq (title_text (module_title m.name)) title then Some (module_of m.size m.code) else modules_of ms title

abbrev pub invoke_in_template : List ModuleCode → List Arg → Bytes → ℕ → List (Reply Answer) → Seen
invoke_in_template modules args name steps replies = works_in (modules_of modules) (Invoke (job_in_template name args)) steps 20000 replies
