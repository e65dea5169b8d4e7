-- Modules and data modules.
use Rattle.std.specs.Prelude.{codes, bytes_eq, true, List, [], ◌∷◌, Option, Some, None, Result, Ok, Err}
use Rattle.lua_meaning.specs.PageRunOutcome.{Outcome, Goes, Jumps}
use Rattle.lua_meaning.specs.WkBaseDeclaredTitleTitle.{Title}
use Rattle.lua_meaning.specs.WkBaseDeclaredTitleReadTitleFault.{TitleFault}
use Rattle.lua_meaning.specs.WkBaseDeclaredTitleNamespaceTheVariants.{Main}
use Rattle.lua_meaning.specs.WkBaseTitles.{title_of}
use Rattle.lua_meaning.specs.LuaSyntaxDeclaredFaultFaultAt.{FaultAt}
use Rattle.lua_meaning.specs.LuaSyntaxTree.{Block}
use Rattle.lua_meaning.specs.MwFrameDeclaredQuestionAskTheVariants.{Data}
use Rattle.lua_meaning.specs.LuaHeapValue.{Value, Truth, Table}
use Rattle.lua_meaning.specs.Scope.{Bytes, Levels}
use Rattle.lua_meaning.specs.Titled.{item_of, with_item, without_item}
use Rattle.lua_meaning.specs.World.{Module, World}
use Rattle.lua_meaning.specs.Acts.{Jump, Raised, Progress, Running, Finished}
use Rattle.lua_meaning.specs.Values.{first}
use Rattle.lua_meaning.specs.Charges.{filled_table_charge}
use Rattle.lua_meaning.specs.Arguments.{a_text}
use Rattle.lua_meaning.specs.Modules as modules
use Rattle.lua_meaning.specs.Modules.{value_or_true, with_meta}
use Rattle.lua_meaning_laws.proofs.OnlyData.{Quiet, ◌>>=◌, ◌>>◌, give, jump, catch, raise, tick, begin, choose, look, change}
use Rattle.lua_meaning_laws.proofs.Heaps.{fail_quoting}
use Rattle.lua_meaning_laws.proofs.CallBacks.{asking, argument, refuse_answer}

begin_chunk : (title : Title) (chunk : Result Block FaultAt) → Quiet (modules.begin_chunk title chunk)
begin_chunk title (Ok b) = begin _
begin_chunk title (Err fault) = raise _

pub run_chunk : (title : Title) (m : Module) → Quiet (modules.run_chunk title m)
run_chunk title m = do
  tick m.size
  begin_chunk title m.chunk

-- `require`
keep_module : (title : Title) (progress : Progress) → Quiet (modules.keep_module title progress)
keep_module title progress = look (λ s e. change (record s { modules = with_item s.modules title progress }) e)

forget_module : (title : Title) → Quiet (modules.forget_module title)
forget_module title = look (λ s e. change (record s { modules = without_item s.modules title }) e)

module_answer : (title : Title) (o : Outcome (List Value) Jump) → Quiet (modules.module_answer title o)
module_answer title (Goes vs) = do
  keep_module title (Finished (value_or_true (first vs)))
  give (value_or_true (first vs) ∷ [])
module_answer title (Jumps j) = do
  forget_module title
  jump j

run_module : (title : Title) (m : Module) → Quiet (modules.run_module title m)
run_module title m = do
  keep_module title Running
  catch (run_chunk title m) (module_answer title)

require_as : (text : Bytes) (title : Title) (progress : Option Progress) (m : Option Module) (callers : Levels) → Quiet (modules.require_as text title progress m callers)
require_as text title (Some (Finished v)) m callers = give _
require_as text title (Some Running) m callers = fail_quoting callers _
require_as text title None (Some m) callers = run_module title m
require_as text title None None callers = fail_quoting callers _

require_module : (world : World) (text : Bytes) (title : Title) (callers : Levels) → Quiet (modules.require_module world text title callers)
require_module world text title callers = look (λ s e. require_as text title (item_of s.modules title) (world.modules title) callers)

require_strict : Quiet modules.require_strict
require_strict = do
  tick (filled_table_charge 2)
  look (λ s e. change (with_meta s) e >> give (Truth true ∷ []))

require_titled : (world : World) (text : Bytes) (read : Result Title TitleFault) (callers : Levels) → Quiet (modules.require_titled world text read callers)
require_titled world text (Ok title) callers = require_module world text title callers
require_titled world text (Err fault) callers = fail_quoting callers _

require_text : (world : World) (text : Bytes) (callers : Levels) → Quiet (modules.require_text world text callers)
require_text world text callers = choose (bytes_eq text (codes "strict")) require_strict (require_titled world text (title_of text Main) callers)

pub require : (world : World) (args : List Value) (callers : Levels) → Quiet (modules.require world args callers)
require world args callers = do
  text ← argument callers (a_text 1 (codes "require") args)
  require_text world text callers

-- the handlers of `strict`
pub strict_index : (args : List Value) (callers : Levels) → Quiet (modules.strict_index args callers)
strict_index args callers = fail_quoting callers _

pub strict_new_index : (args : List Value) (callers : Levels) → Quiet (modules.strict_new_index args callers)
strict_new_index args callers = fail_quoting callers _

-- `mw.loadData`
keep_data : (title : Title) (root : Value) → Quiet (modules.keep_data title root)
keep_data title root = look (λ s e. change (record s { data_modules = with_item s.data_modules title root }) e)

data_answer : (text : Bytes) (title : Title) (callers : Levels) (o : Outcome (List Value) Jump) → Quiet (modules.data_answer text title callers o)
data_answer text title callers (Goes (Table t ∷ [])) = do
  keep_data title (Table t)
  give (Table t ∷ [])
data_answer text title callers (Goes []) = fail_quoting callers _
data_answer text title callers (Jumps (Raised v)) = raise v
data_answer text title callers outcome = refuse_answer

load_as : (text : Bytes) (title : Title) (root : Option Value) (callers : Levels) → Quiet (modules.load_as text title root callers)
load_as text title (Some root) callers = give _
load_as text title None callers = asking (Data title) tt (data_answer text title callers)

load_titled : (text : Bytes) (read : Result Title TitleFault) (callers : Levels) → Quiet (modules.load_titled text read callers)
load_titled text (Ok title) callers = look (λ s e. load_as text title (item_of s.data_modules title) callers)
load_titled text (Err fault) callers = fail_quoting callers _

pub load_data : (args : List Value) (callers : Levels) → Quiet (modules.load_data args callers)
load_data args callers = do
  text ← argument callers (a_text 1 (codes "loadData") args)
  load_titled text (title_of text Main) callers
