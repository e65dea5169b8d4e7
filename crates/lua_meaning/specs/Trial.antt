-- SMALL WORLDS for worked examples: a module, whose function `f` is invoked.
use Rattle.std.specs.Prelude.{ℕ, List, [], ◌∷◌, Some, None, Ok, Err, if◌then◌else◌, codes}
use Rattle.lua_syntax.specs.WkBaseDeclaredTitleTitle.{Title}
use Rattle.mw_frame.specs.WkBaseDeclaredTitleNamespaceTheVariants.{Main, Module as ModuleSpace, Template as TemplateSpace}
use Rattle.page_run.specs.WkBaseDeclaredLeftLeft.{Left}
use Rattle.page_run.specs.declared.which.Which.{Which}
use Rattle.page_run.specs.Outcome.{Outcome, Goes, Jumps}
use Rattle.page_run.specs.State.{Reply, Gives as Says, Exhausts, no_tally, Event, Ended, Spent, Asked, moment_of, start}
use Rattle.page_run.specs.Perform.{wait}
use Rattle.page_run.specs.Trace.{Note, trace}
use Rattle.lua_syntax.specs.Tree.{Block}
use Rattle.lua_walk.specs.LuaHeapValue.{Value, Text, Table}
use Rattle.lua_meaning.specs.Scope.{Bytes}
use Rattle.mw_frame.specs.declared.scene.Arg.{Arg}
use Rattle.mw_frame.specs.declared.scene.Scene.{Scene}
use Rattle.mw_frame.specs.declared.scene.Job.{Job}
use Rattle.mw_frame.specs.declared.question.Ask.{Ask}
use Rattle.lua_meaning.specs.Questions.{Answer}
use Rattle.lua_meaning.specs.Titled.{same_title}
use Rattle.lua_meaning.specs.Acts.{State, Jump, Raised}
use Rattle.lua_meaning.specs.World.{Modules, World}
use Rattle.lua_meaning.specs.Start.{Invoke, DataOf, run_of, lua}
use Rattle.lua_meaning.specs.Home.{home}
use Rattle.lua_meaning.specs.Things.{meaning_of}

abbrev pub module_title : Bytes → Title
module_title name = record { ns = ModuleSpace; name = name }

abbrev pub page : Title
page = record { ns = Main; name = codes "P" }

abbrev pub arg : Bytes → Bytes → Arg
arg name value = record { name = name; value = value }

abbrev pub scene : Title → List Arg → Scene
scene title args = record { title = title; args = args; chain = [] }

abbrev pub job : Bytes → List Arg → Job
job name args = record { «module» = module_title name; function = codes "f"; scene = scene (module_title name) args; parent = scene page [] }

abbrev pub one_module : ℕ → Block → Modules
one_module size body title = Some (record { size = size; chunk = Ok body })

-- a text that is no chunk, with the number of its fault and the line
abbrev pub no_chunk : ℕ → ℕ → ℕ → Modules
no_chunk size kind line title = Some (record { size = size; chunk = Err (record { kind = kind; line = line }) })

abbrev pub in_world : Modules → World
in_world modules = record { page = page; modules = modules }

-- so many steps and nested calls
abbrev pub allowance : ℕ → ℕ → Left
allowance steps calls = record { steps = steps; nodes = 0; bytes = 0; calls = calls; depth = 0; templates = 0 }

-- what is seen of a run: how it ends, and the steps that are left
pub data Seen : Type 0 where
  Gives : (text : Bytes) (steps : ℕ) → Seen
  Fails : (text : Bytes) (steps : ℕ) → Seen
  Spends : (which : Which) (steps : ℕ) → Seen
  Loads : (steps : ℕ) → Seen
  Asks : (question : Ask) (steps : ℕ) → Seen
  Else : Seen

abbrev pub seen : Event State Ask (Outcome (List Value) Jump) → Seen
seen (Ended (Goes (Text t ∷ [])) m) = Gives t m.left.steps
seen (Ended (Goes (Table t ∷ [])) m) = Loads m.left.steps
seen (Ended (Jumps (Raised (Text t))) m) = Fails t m.left.steps
seen (Spent w m) = Spends w m.left.steps
seen (Asked q m) = Asks q m.left.steps
seen _ = Else

-- with any steps left
abbrev pub without_steps : Seen → Seen
without_steps (Gives t steps) = Gives t 0
without_steps (Fails t steps) = Fails t 0
without_steps s = s

-- the function `f` of a module is invoked: the arguments, the calls, the module's name, the size of its text, its tree, and the steps
abbrev pub invoke_with_args : List Arg → ℕ → Bytes → ℕ → Block → ℕ → Seen
invoke_with_args args calls name size body steps = seen (lua (in_world (one_module size body)) (Invoke (job name args)) (allowance steps calls) [])

-- without arguments
abbrev pub invoke_with_calls : ℕ → Bytes → ℕ → Block → ℕ → Seen
invoke_with_calls calls name size body steps = invoke_with_args [] calls name size body steps

-- and with the calls of a page
abbrev pub invoke_module : Bytes → ℕ → Block → ℕ → Seen
invoke_module name size body steps = invoke_with_calls 20000 name size body steps

-- a module is loaded as data
abbrev pub load_module : Bytes → ℕ → Block → ℕ → Seen
load_module name size body steps = seen (lua (in_world (one_module size body)) (DataOf (module_title name)) (allowance steps 20000) [])

-- a text is invoked that is no chunk
abbrev pub invoke_fault : Bytes → ℕ → ℕ → ℕ → ℕ → Seen
invoke_fault name size kind line steps = seen (lua (in_world (no_chunk size kind line)) (Invoke (job name [])) (allowance steps 20000) [])

-- the nodes, turns of loops and functions entered that were counted, with enough of all
abbrev pub count_nodes : Bytes → ℕ → Block → ℕ → ℕ
count_nodes name size body steps = (moment_of (lua (in_world (one_module size body)) (Invoke (job name [])) (allowance steps 20000) [])).tally.nodes

-- what an invocation notes: the global variables that it names, each with the module that does
abbrev pub notes_of : Bytes → ℕ → Block → ℕ → List Note
notes_of name size body steps =
    let world = in_world (one_module size body) in
    trace (meaning_of world) wait (run_of world (Invoke (job name []))) (start home (allowance steps 20000) [])

abbrev pub named : Bytes → Bytes → Note
named source name = record { source = source; name = name }

-- SEVERAL MODULES, and an invocation in the body of template T, which has two arguments
pub record ModuleText : Type 0 where
  pub name : Bytes
  pub size : ℕ
  pub body : Block

abbrev pub module_text : Bytes → ℕ → Block → ModuleText
module_text name size body = record { name = name; size = size; body = body }

abbrev pub modules_of : List ModuleText → Modules
modules_of [] title = None
modules_of (m ∷ ms) title =
    if same_title (module_title m.name) title then Some (record { size = m.size; chunk = Ok m.body }) else modules_of ms title

abbrev pub template_title : Bytes → Title
template_title name = record { ns = TemplateSpace; name = name }

abbrev pub scene_in_template : Title → List Arg → Scene
scene_in_template title args = record { title = title; args = args; chain = template_title (codes "T") ∷ [] }

-- the scene of the invoked frame, and of its parent
abbrev pub own_scene : Bytes → List Arg → Scene
own_scene name args = scene_in_template (module_title name) args

abbrev pub parent_scene : Scene
parent_scene = scene_in_template (template_title (codes "T")) (arg (codes "1") (codes "p") ∷ arg (codes "n") (codes "q") ∷ [])

abbrev pub job_in_template : Bytes → List Arg → Job
job_in_template name args = record { «module» = module_title name; function = codes "f"; scene = own_scene name args; parent = parent_scene }

-- a reply, with so many steps left after it; of calls there are enough
abbrev pub reply : Answer → ℕ → Reply Answer
reply answer steps = record { response = Says answer; left = allowance steps 19000; tally = no_tally }

-- a reply that spends the run
abbrev pub exhausts : Which → Reply Answer
exhausts which = record { response = Exhausts which; left = allowance 0 19000; tally = no_tally }

abbrev pub invoke_in_template : List ModuleText → List Arg → Bytes → ℕ → List (Reply Answer) → Seen
invoke_in_template modules args name steps replies = seen (lua (in_world (modules_of modules)) (Invoke (job_in_template name args)) (allowance steps 20000) replies)
