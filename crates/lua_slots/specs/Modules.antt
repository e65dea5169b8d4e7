-- MODULES (manual 5.3; Scribunto, "require" and mw.loadData).
use Rattle.std.specs.Prelude.{ℕ, true, List, [], ◌∷◌, length, Option, Some, None, Result, Ok, Err, bytes_eq, codes}
use Rattle.lua_meaning.specs.WkBaseDeclaredTitleTitle.{Title}
use Rattle.lua_meaning.specs.WkBaseDeclaredTitleNamespaceTheVariants.{Main}
use Rattle.lua_meaning.specs.WkBaseDeclaredTitleReadTitleFault.{TitleFault}
use Rattle.lua_meaning.specs.WkBaseTitles.{title_text, title_of}
use Rattle.lua_meaning.specs.MwFrameDeclaredQuestionAskTheVariants.{Data}
use Rattle.lua_meaning.specs.LuaSyntaxDeclaredFaultFaultAt.{FaultAt}
use Rattle.lua_meaning.specs.PageRunOutcome.{Outcome, Goes, Jumps}
use Rattle.lua_meaning.specs.LuaHeapValue.{Value, Nil, Truth, Text, Table}
use Rattle.lua_meaning.specs.LuaHeapHeap.{set_meta_in}
use Rattle.lua_meaning.specs.Charges.{filled_table_charge}
use Rattle.lua_meaning.specs.LuaSyntaxFaultTexts.{fault_message}
use Rattle.lua_meaning.specs.Scope.{Bytes}
use Rattle.lua_meaning.specs.Titled.{item_of, with_item, without_item}
use Rattle.lua_meaning.specs.Questions.{DataAsked}
use Rattle.lua_meaning.specs.Values.{first, second}
use Rattle.lua_meaning.specs.Acts.{Jump, Raised, Progress, Running, Finished}
use Rattle.lua_meaning.specs.Messages.{no_module, loop_in_require, no_data_module, undeclared_variable, undeclared_target, wrong_answer}
use Rattle.lua_meaning.specs.Arguments.{a_text}
use Rattle.lua_meaning.specs.Frames.{with_table}
use Rattle.lua_meaning.specs.CallBacks.{text_of}
use Rattle.lua_meaning.specs.Modules.{value_or_true, strict_meta}
use Rattle.lua_meaning.specs.Pending.{ModuleWaits}
use Rattle.lua_slots.specs.Code.{Protos, CModule, CWorld}
use Rattle.lua_slots.specs.Slots.{Slots, with_heap}
use Rattle.lua_slots.specs.Points.{BodyS, SFrame, Waits, Hears, Starts, Asking, Move, Costs, Now}
use Rattle.lua_slots.specs.Errors.{choose, gives, jumps, fails_quoting, with_argument}
use Rattle.lua_slots.specs.Calls.{text_of_module}

-- THE TEXT OF A MODULE RUNS: it costs its length; a fault of its text is raised where it would begin
abbrev pub begins_text : Title → Result Protos FaultAt → List SFrame → Slots → Move
begins_text title (Ok at) fs s = Now (Starts (BodyS (text_of_module (title_text title)) [] None) fs) s
begins_text title (Err fault) fs s = jumps (Raised (Text (fault_message title fault))) fs s

abbrev pub runs_text : Title → CModule → List SFrame → Slots → Move
runs_text title m fs s = Costs m.size (begins_text title m.code fs s)

-- `require` OF A MODULE runs it once, and keeps its value, its first one or true
abbrev pub with_module : Title → Progress → Slots → Slots
with_module title progress s = record s { modules = with_item s.modules title progress }

abbrev pub without_module : Title → Slots → Slots
without_module title s = record s { modules = without_item s.modules title }

abbrev pub runs_module : Title → CModule → Option ℕ → List SFrame → Slots → Move
runs_module title m line fs s = runs_text title m (Waits (ModuleWaits title) line ∷ fs) (with_module title Running s)

abbrev pub module_answer : Title → Outcome (List Value) Jump → List SFrame → Slots → Move
module_answer title (Goes vs) fs s = gives (value_or_true (first vs) ∷ []) fs (with_module title (Finished (value_or_true (first vs))) s)
module_answer title (Jumps j) fs s = jumps j fs (without_module title s)

-- as it stands with the module, and as it is held; `text` is what the call was given
abbrev pub require_as : Bytes → Title → Option Progress → Option CModule → Option ℕ → List SFrame → Slots → Move
require_as text title (Some (Finished v)) m line fs s = gives (v ∷ []) fs s
require_as text title (Some Running) m line fs s = fails_quoting line (loop_in_require text) fs s
require_as text title None (Some m) line fs s = runs_module title m line fs s
require_as text title None None line fs s = fails_quoting line (no_module text) fs s

abbrev pub require_module : CWorld → Bytes → Title → Option ℕ → List SFrame → Slots → Move
require_module world text title line fs s = require_as text title (item_of s.modules title) (world.modules (title_text title)) line fs s

-- `require('strict')`: a table with two entries is the metatable of the global variables
abbrev pub with_strict : Slots → Slots
with_strict s = with_heap (set_meta_in (with_table s.heap strict_meta Nil) s.globals (Table (length s.heap.tables))) s

abbrev pub require_titled : CWorld → Bytes → Result Title TitleFault → Option ℕ → List SFrame → Slots → Move
require_titled world text (Ok title) line fs s = require_module world text title line fs s
require_titled world text (Err fault) line fs s = fails_quoting line (no_module text) fs s

abbrev pub require_text : CWorld → Bytes → Option ℕ → List SFrame → Slots → Move
require_text world text line fs s =
    choose (bytes_eq text (codes "strict"))
    (Costs (filled_table_charge 2) (gives (Truth true ∷ []) fs (with_strict s)))
    (require_titled world text (title_of text Main) line fs s)

abbrev pub require : CWorld → List Value → Option ℕ → List SFrame → Slots → Move
require world args line fs s = with_argument (a_text 1 (codes "require") args) line fs s (λ text. require_text world text line fs s)

-- what the handlers of `strict` do: they refuse the name that they are given
abbrev pub strict_index : List Value → Option ℕ → List SFrame → Slots → Move
strict_index args line fs s = fails_quoting line (undeclared_variable (text_of (second args))) fs s

abbrev pub strict_new_index : List Value → Option ℕ → List SFrame → Slots → Move
strict_new_index args line fs s = fails_quoting line (undeclared_target (text_of (second args))) fs s

-- `mw.loadData(name)` asks for the tables of a data module once, and keeps them
abbrev pub with_data : Title → Value → Slots → Slots
with_data title root s = record s { data_ = with_item s.data_ title root }

abbrev pub data_answer : Bytes → Title → Outcome (List Value) Jump → Option ℕ → List SFrame → Slots → Move
data_answer text title (Goes (Table t ∷ [])) line fs s = gives (Table t ∷ []) fs (with_data title (Table t) s)
data_answer text title (Goes []) line fs s = fails_quoting line (no_data_module text) fs s
data_answer text title (Jumps (Raised v)) line fs s = jumps (Raised v) fs s
data_answer text title outcome line fs s = jumps (Raised (Text wrong_answer)) fs s

abbrev pub load_as : Bytes → Title → Option Value → Option ℕ → List SFrame → Slots → Move
load_as text title (Some root) line fs s = gives (root ∷ []) fs s
load_as text title None line fs s = Now (Asking (Data title) (Hears (DataAsked text title) line ∷ fs)) s

abbrev pub load_titled : Bytes → Result Title TitleFault → Option ℕ → List SFrame → Slots → Move
load_titled text (Ok title) line fs s = load_as text title (item_of s.data_ title) line fs s
load_titled text (Err fault) line fs s = fails_quoting line (no_data_module text) fs s

abbrev pub load_data : List Value → Option ℕ → List SFrame → Slots → Move
load_data args line fs s = with_argument (a_text 1 (codes "loadData") args) line fs s (λ text. load_titled text (title_of text Main) line fs s)
