-- MODULES (manual 5.3; Scribunto, "require" and mw.loadData).
use Rattle.std.specs.Prelude.{true, List, [], ◌∷◌, length, Option, Some, None, Result, Ok, Err, if◌then◌else◌, bytes_eq, codes}
use Rattle.lua_syntax.specs.WkBaseDeclaredTitleTitle.{Title}
use Rattle.mw_frame.specs.WkBaseDeclaredTitleNamespaceTheVariants.{Main}
use Rattle.page_run.specs.WkBaseDeclaredTitleReadTitleFault.{TitleFault}
use Rattle.lua_syntax.specs.WkBaseTitles.{title_text, title_of}
use Rattle.lua_syntax.specs.declared.fault.FaultAt.{FaultAt}
use Rattle.lua_syntax.specs.FaultTexts.{fault_message}
use Rattle.lua_syntax.specs.Tree.{Block}
use Rattle.page_run.specs.Outcome.{Goes, Jumps, ◌>>=◌, ◌>>◌, give, jump, catch, tick, see, change, begin}
use Rattle.lua_walk.specs.LuaHeapValue.{Value, Nil, Truth, Text, Table, is_nil}
use Rattle.mw_html.specs.LuaHeapTable.{Entries}
use Rattle.lua_walk.specs.LuaHeapHeap.{set_meta_in}
use Rattle.lua_walk.specs.LuaHeapDeclaredLibraryLibraryTheVariants.{StrictIndex, StrictNewIndex}
use Rattle.lua_meaning.specs.Charges.{filled_table_charge}
use Rattle.lua_meaning.specs.Scope.{Bytes, Levels}
use Rattle.lua_meaning.specs.World.{Module, World}
use Rattle.lua_meaning.specs.Titled.{item_of, with_item, without_item}
use Rattle.mw_frame.specs.declared.question.Ask.TheVariants.{Data}
use Rattle.lua_meaning.specs.Values.{first, second}
use Rattle.lua_meaning.specs.Acts.{Act, Raised, Progress, Running, Finished, State, ChunkBody, raise, choose}
use Rattle.lua_meaning.specs.Messages.{fail_quoting, no_module, loop_in_require, no_data_module, undeclared_variable, undeclared_target}
use Rattle.lua_meaning.specs.Arguments.{a_text}
use Rattle.lua_meaning.specs.Frames.{function_entry, with_table}
use Rattle.lua_meaning.specs.CallBacks.{text_of}
use Rattle.lua_meaning.specs.Waiting.{Waits, asking, refuse_answer, argument}

-- THE TEXT OF A MODULE RUNS: it costs its length; a fault of its text is raised where it would begin
abbrev pub begin_chunk : Title → Result Block FaultAt → Act (List Value)
begin_chunk title (Ok b) = begin (ChunkBody (title_text title) b)
begin_chunk title (Err fault) = raise (Text (fault_message title fault))

abbrev pub run_chunk : Title → Module → Act (List Value)
run_chunk title m = do
  tick m.size
  begin_chunk title m.chunk

-- `require` OF A MODULE runs it once: while it runs, another call is an error; then its value is kept, its first one or true. A run that
-- failed is not kept.
abbrev pub keep_module : Title → Progress → Act (Unit {0})
keep_module title progress = do
  s ← see
  change (record s { modules = with_item s.modules title progress })

abbrev pub forget_module : Title → Act (Unit {0})
forget_module title = do
  s ← see
  change (record s { modules = without_item s.modules title })

abbrev pub value_or_true : Value → Value
value_or_true v = if is_nil v then Truth true else v

abbrev pub module_answer : Title → Waits
module_answer title (Goes vs) = do
  keep_module title (Finished (value_or_true (first vs)))
  give (value_or_true (first vs) ∷ [])
module_answer title (Jumps j) = do
  forget_module title
  jump j

abbrev pub run_module : Title → Module → Act (List Value)
run_module title m = do
  keep_module title Running
  catch (run_chunk title m) (module_answer title)

-- as it stands with the module, and as it is held; `text` is what the call was given
abbrev pub require_as : Bytes → Title → Option Progress → Option Module → Levels → Act (List Value)
require_as text title (Some (Finished v)) m callers = give (v ∷ [])
require_as text title (Some Running) m callers = fail_quoting callers (loop_in_require text)
require_as text title None (Some m) callers = run_module title m
require_as text title None None callers = fail_quoting callers (no_module text)

abbrev pub require_module : World → Bytes → Title → Levels → Act (List Value)
require_module world text title callers = do
  s ← see
  require_as text title (item_of s.modules title) (world.modules title) callers

-- `require('strict')` gives the table of the global variables a new metatable, whose handlers refuse what is absent. It costs a table
-- with two entries.
abbrev pub strict_meta : Entries
strict_meta = function_entry (codes "__index") StrictIndex ∷ function_entry (codes "__newindex") StrictNewIndex ∷ []

abbrev pub with_meta : State → State
with_meta s = record s { heap = set_meta_in (with_table s.heap strict_meta Nil) s.globals (Table (length s.heap.tables)) }

abbrev pub require_strict : Act (List Value)
require_strict = do
  tick (filled_table_charge 2)
  s ← see
  change (with_meta s)
  give (Truth true ∷ [])

-- what these do: they refuse the name that they are given
abbrev pub strict_index : List Value → Levels → Act (List Value)
strict_index args callers = fail_quoting callers (undeclared_variable (text_of (second args)))

abbrev pub strict_new_index : List Value → Levels → Act (List Value)
strict_new_index args callers = fail_quoting callers (undeclared_target (text_of (second args)))

-- `require(name)`
abbrev pub require_titled : World → Bytes → Result Title TitleFault → Levels → Act (List Value)
require_titled world text (Ok title) callers = require_module world text title callers
require_titled world text (Err fault) callers = fail_quoting callers (no_module text)

abbrev pub require_text : World → Bytes → Levels → Act (List Value)
require_text world text callers = choose (bytes_eq text (codes "strict")) require_strict (require_titled world text (title_of text Main) callers)

abbrev pub require : World → List Value → Levels → Act (List Value)
require world args callers = do
  text ← argument callers (a_text 1 (codes "require") args)
  require_text world text callers

-- `mw.loadData(name)` asks for the tables of a data module once, and keeps them. The message of a load that failed is raised as it is.
abbrev pub keep_data : Title → Value → Act (Unit {0})
keep_data title root = do
  s ← see
  change (record s { data_modules = with_item s.data_modules title root })

abbrev pub data_answer : Bytes → Title → Levels → Waits
data_answer text title callers (Goes (Table t ∷ [])) = do
  keep_data title (Table t)
  give (Table t ∷ [])
data_answer text title callers (Goes []) = fail_quoting callers (no_data_module text)
data_answer text title callers (Jumps (Raised v)) = raise v
data_answer text title callers outcome = refuse_answer

abbrev pub load_as : Bytes → Title → Option Value → Levels → Act (List Value)
load_as text title (Some root) callers = give (root ∷ [])
load_as text title None callers = asking (Data title) (data_answer text title callers)

abbrev pub load_titled : Bytes → Result Title TitleFault → Levels → Act (List Value)
load_titled text (Ok title) callers = do
  s ← see
  load_as text title (item_of s.data_modules title) callers
load_titled text (Err fault) callers = fail_quoting callers (no_data_module text)

abbrev pub load_data : List Value → Levels → Act (List Value)
load_data args callers = do
  text ← argument callers (a_text 1 (codes "loadData") args)
  load_titled text (title_of text Main) callers
