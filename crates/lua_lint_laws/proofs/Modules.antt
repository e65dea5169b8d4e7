-- Modules and data modules.
use Rattle.std.specs.Prelude.{codes, bytes_eq, true, List, [], ◌∷◌, Option, Some, None, Result, Ok, Err}
use Rattle.page_run.specs.Outcome.{Outcome, Goes, Jumps}
use Rattle.wk_base.specs.declared.title.Title.{Title}
use Rattle.wk_base.specs.declared.title_read.TitleFault.{TitleFault}
use Rattle.wk_base.specs.declared.title.Namespace.TheVariants.{Main}
use Rattle.wk_base.specs.Titles.{title_text, title_of}
use Rattle.lua_uses.specs.Uses.{block_uses}
use Rattle.lua_meaning.specs.LuaSyntaxDeclaredFaultFaultAt.{FaultAt}
use Rattle.lua_meaning.specs.LuaSyntaxTree.{Block}
use Rattle.lua_meaning.specs.MwFrameDeclaredQuestionAskTheVariants.{Data}
use Rattle.lua_walk.specs.LuaHeapValue.{Value, Truth, Table}
use Rattle.lua_meaning.specs.Scope.{Bytes, Levels}
use Rattle.lua_meaning.specs.Titled.{item_of, with_item, without_item}
use Rattle.lua_meaning.specs.World.{Module, World}
use Rattle.lua_meaning.specs.Acts.{Jump, Raised, Progress, Running, Finished}
use Rattle.lua_meaning.specs.Values.{first}
use Rattle.lua_meaning.specs.Charges.{filled_table_charge}
use Rattle.lua_meaning.specs.Arguments.{a_text}
use Rattle.lua_meaning.specs.Modules as modules
use Rattle.lua_meaning.specs.Modules.{value_or_true, with_meta}
use Rattle.lua_lint_laws.proofs.Told.{Allowed, AreAllowed, Quiet, ◌>>=◌, ◌>>◌, give, jump, catch, raise, tick, begin, choose, look, change}
use Rattle.lua_lint_laws.proofs.Heaps.{fail_quoting}
use Rattle.lua_lint_laws.proofs.CallBacks.{asking, argument, refuse_answer}

-- what is named in the text of a module is allowed, if it has a tree
abbrev pub IfChunk : Allowed → Title → Result Block FaultAt → Type 0
IfChunk P title (Ok b) = AreAllowed P (title_text title) (block_uses b [])
IfChunk P title (Err fault) = Unit {0}

abbrev pub IfModule : Allowed → Title → Option Module → Type 0
IfModule P title None = Unit {0}
IfModule P title (Some m) = IfChunk P title m.chunk

-- so it is with all modules of a world
abbrev pub IsAllowedWorld : Allowed → World → Type 0
IsAllowedWorld P world = (title : Title) → IfModule P title (world.modules title)

begin_chunk : {P : Allowed} → (title : Title) (chunk : Result Block FaultAt) → IfChunk P title chunk → Quiet P (modules.begin_chunk title chunk)
begin_chunk title (Ok b) ok = begin _ ok
begin_chunk title (Err fault) ok = raise _

pub run_chunk : {P : Allowed} → (title : Title) (m : Module) → IfChunk P title m.chunk → Quiet P (modules.run_chunk title m)
run_chunk title m ok = do
  tick m.size
  begin_chunk title m.chunk ok

-- `require`
keep_module : {P : Allowed} → (title : Title) (progress : Progress) → Quiet P (modules.keep_module title progress)
keep_module title progress = look (λ s e. change (record s { modules = with_item s.modules title progress }) e)

forget_module : {P : Allowed} → (title : Title) → Quiet P (modules.forget_module title)
forget_module title = look (λ s e. change (record s { modules = without_item s.modules title }) e)

module_answer : {P : Allowed} → (title : Title) (o : Outcome (List Value) Jump) → Quiet P (modules.module_answer title o)
module_answer title (Goes vs) = do
  keep_module title (Finished (value_or_true (first vs)))
  give (value_or_true (first vs) ∷ [])
module_answer title (Jumps j) = do
  forget_module title
  jump j

run_module : {P : Allowed} → (title : Title) (m : Module) → IfChunk P title m.chunk → Quiet P (modules.run_module title m)
run_module title m ok = do
  keep_module title Running
  catch (run_chunk title m ok) (module_answer title)

require_as : {P : Allowed} → (text : Bytes) (title : Title) (progress : Option Progress) (m : Option Module) → IfModule P title m → (callers : Levels) → Quiet P (modules.require_as text title progress m callers)
require_as text title (Some (Finished v)) m ok callers = give _
require_as text title (Some Running) m ok callers = fail_quoting callers _
require_as text title None (Some m) ok callers = run_module title m ok
require_as text title None None ok callers = fail_quoting callers _

pub require_module : {P : Allowed} → (world : World) → IsAllowedWorld P world → (text : Bytes) (title : Title) (callers : Levels) → Quiet P (modules.require_module world text title callers)
require_module world ok text title callers = look (λ s e. require_as text title (item_of s.modules title) (world.modules title) (ok title) callers)

require_strict : {P : Allowed} → Quiet P modules.require_strict
require_strict = do
  tick (filled_table_charge 2)
  look (λ s e. change (with_meta s) e >> give (Truth true ∷ []))

require_titled : {P : Allowed} → (world : World) → IsAllowedWorld P world → (text : Bytes) (read : Result Title TitleFault) (callers : Levels) → Quiet P (modules.require_titled world text read callers)
require_titled world ok text (Ok title) callers = require_module world ok text title callers
require_titled world ok text (Err fault) callers = fail_quoting callers _

require_text : {P : Allowed} → (world : World) → IsAllowedWorld P world → (text : Bytes) (callers : Levels) → Quiet P (modules.require_text world text callers)
require_text world ok text callers = choose (bytes_eq text (codes "strict")) require_strict (require_titled world ok text (title_of text Main) callers)

pub require : {P : Allowed} → (world : World) → IsAllowedWorld P world → (args : List Value) (callers : Levels) → Quiet P (modules.require world args callers)
require world ok args callers = do
  text ← argument callers (a_text 1 (codes "require") args)
  require_text world ok text callers

-- the handlers of `strict`
pub strict_index : {P : Allowed} → (args : List Value) (callers : Levels) → Quiet P (modules.strict_index args callers)
strict_index args callers = fail_quoting callers _

pub strict_new_index : {P : Allowed} → (args : List Value) (callers : Levels) → Quiet P (modules.strict_new_index args callers)
strict_new_index args callers = fail_quoting callers _

-- `mw.loadData`
keep_data : {P : Allowed} → (title : Title) (root : Value) → Quiet P (modules.keep_data title root)
keep_data title root = look (λ s e. change (record s { data_modules = with_item s.data_modules title root }) e)

pub data_answer : {P : Allowed} → (text : Bytes) (title : Title) (callers : Levels) (o : Outcome (List Value) Jump) → Quiet P (modules.data_answer text title callers o)
data_answer text title callers (Goes (Table t ∷ [])) = do
  keep_data title (Table t)
  give (Table t ∷ [])
data_answer text title callers (Goes []) = fail_quoting callers _
data_answer text title callers (Jumps (Raised v)) = raise v
data_answer text title callers outcome = refuse_answer

load_as : {P : Allowed} → (text : Bytes) (title : Title) (root : Option Value) (callers : Levels) → Quiet P (modules.load_as text title root callers)
load_as text title (Some root) callers = give _
load_as text title None callers = asking (Data title) (data_answer text title callers)

load_titled : {P : Allowed} → (text : Bytes) (read : Result Title TitleFault) (callers : Levels) → Quiet P (modules.load_titled text read callers)
load_titled text (Ok title) callers = look (λ s e. load_as text title (item_of s.data_modules title) callers)
load_titled text (Err fault) callers = fail_quoting callers _

pub load_data : {P : Allowed} → (args : List Value) (callers : Levels) → Quiet P (modules.load_data args callers)
load_data args callers = do
  text ← argument callers (a_text 1 (codes "loadData") args)
  load_titled text (title_of text Main) callers
