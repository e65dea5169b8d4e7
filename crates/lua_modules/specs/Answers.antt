-- What values are as an answer to `mw.loadData`: one table, nothing, or what does not belong to the question.
use Rattle.std.specs.Prelude.{ℕ, List, [], ◌∷◌, Option, Some, None}
use Rattle.lua_code.specs.WkBaseDeclaredTitleTitle.{Title}
use Rattle.lua_code.specs.LuaHeapValue as kind
use Rattle.lua_code.specs.LuaMeaningScope.{Bytes}
use Rattle.lua_code.specs.LuaMeaningActs.{Raised}
use Rattle.lua_state.specs.LuaMeaningMessages.{no_data_module, wrong_answer}
use Rattle.lua_state.specs.LuaSlotsErrors.{gives, jumps, fails_quoting}
use Rattle.lua_code.specs.LuaSlotsModules.{with_data}
use Rattle.lua_state.specs.LuaSlotsPoints.{SFrame, Move}
use Rattle.lua_state.specs.LuaSlotsSlots.{Slots}
use Rattle.lua_state.specs.LuaStoreDeclaredValueValue.{Value}
use Rattle.lua_state.specs.LuaStoreDeclaredValueValueTheVariants as own
use Rattle.lua_state.specs.LuaStoreSeen.{StoreView}
use Rattle.lua_state.specs.LuaStoreParts.{IsTableOf}
use Rattle.lua_state.specs.LuaStackDeclaredFocusJump.{Jump}
use Rattle.lua_state.specs.LuaStackDeclaredFocusJumpTheVariants as jump
use Rattle.lua_modules.specs.declared.loading.DataAnswer.{DataAnswer}
use Rattle.lua_modules.specs.declared.loading.DataAnswer.TheVariants as answer

abbrev pub one_answer_in : Value → DataAnswer
one_answer_in (own.Table table) = answer.Table table
one_answer_in _ = answer.Other

abbrev pub answer_in : List Value → DataAnswer
answer_in [] = answer.Nothing
answer_in (v ∷ []) = one_answer_in v
answer_in (v ∷ w ∷ more) = answer.Other

abbrev pub DataAnswerOf : StoreView → DataAnswer → Type 0
DataAnswerOf s (answer.Table table) = IsTableOf s table
DataAnswerOf s answer.Nothing = Unit {0}
DataAnswerOf s answer.Other = Unit {0}

-- and what is done with it (`data_answer` of `lua_slots`, case by case)
abbrev pub data_move : DataAnswer → Bytes → Title → Option ℕ → List SFrame → Slots → Move
data_move (answer.Table table) text title line fs s = gives (kind.Table table.at ∷ []) fs (with_data title (kind.Table table.at) s)
data_move answer.Nothing text title line fs s = fails_quoting line (no_data_module text) fs s
data_move answer.Other text title line fs s = jumps (Raised (kind.Text wrong_answer)) fs s

-- the value of an error, if a jump is one
abbrev pub raised_in : Jump → Option Value
raised_in (jump.Raised v) = Some v
raised_in _ = None
