-- THE TABLES OF WHAT WAITS, by name: a machine that runs Lua keeps these names, and what each does with an outcome is said here.
use Rattle.std.specs.Prelude.{[], ◌∷◌}
use Rattle.lua_syntax.specs.WkBaseDeclaredTitleTitle.{Title}
use Rattle.page_run.specs.Outcome.{Goes}
use Rattle.lua_walk.specs.LuaHeapValue.{Value, Text}
use Rattle.lua_meaning.specs.Scope.{Bytes, Levels}
use Rattle.lua_meaning.specs.Questions.{Asked, TemplateAsked, TextAsked, DataAsked}
use Rattle.lua_meaning.specs.Messages.{fail_quoting, no_template}
use Rattle.lua_meaning.specs.Waiting.{Waits, for_values, refuse_answer, text_value}
use Rattle.lua_meaning.specs.CallBacks.{pcall_answer, xpcall_answer, handler_answer, string_given, three_of}
use Rattle.lua_meaning.specs.Gsub.{Replacing, gsub_answer}
use Rattle.lua_meaning.specs.Modules.{module_answer, data_answer}

-- WHAT WAITS FOR A CALL
pub data Pending : Type 0 where
  -- `pcall`; `xpcall`, and its handler
  PcallWaits : Pending
  XpcallWaits : (handler : Value) → Pending
  HandlerWaits : Pending
  -- `__tostring`; `__pairs` and `__ipairs`
  ToStringWaits : Pending
  PairsWaits : Pending
  -- the replacement of a match in `gsub`
  GsubWaits : (replacing : Replacing) → Pending
  -- the text of a module
  ModuleWaits : (title : Title) → Pending

-- what it does with the outcome, where the function that waits has these levels
abbrev pub resumes : Pending → Levels → Waits
resumes PcallWaits callers = pcall_answer
resumes (XpcallWaits h) callers = xpcall_answer h
resumes HandlerWaits callers = handler_answer
resumes ToStringWaits callers = for_values (string_given callers)
resumes PairsWaits callers = for_values three_of
resumes (GsubWaits w) callers = gsub_answer w callers
resumes (ModuleWaits title) callers = module_answer title

-- WHAT WAITS FOR AN ANSWER. A text costs its bytes.
abbrev pub text_answer : Waits
text_answer (Goes (Text t ∷ [])) = text_value t
text_answer outcome = refuse_answer

abbrev pub template_answer : Bytes → Levels → Waits
template_answer text callers (Goes []) = fail_quoting callers (no_template text)
template_answer text callers outcome = text_answer outcome

abbrev pub hears : Asked → Levels → Waits
hears (TemplateAsked text) callers = template_answer text callers
hears TextAsked callers = text_answer
hears (DataAsked text title) callers = data_answer text title callers
