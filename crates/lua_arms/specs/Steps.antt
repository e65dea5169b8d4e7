-- What a step is seen as: a move of `lua_slots` without charges before it, above these frames.
use Rattle.std.specs.Prelude.{List}
use Rattle.lua_code.specs.LuaMeaningScope.{Bytes}
use Rattle.lua_basic.specs.LuaMeaningMessages.{cannot_index, cannot_call, cannot_calculate, cannot_concatenate, cannot_compare, no_length, number_fault, nil_key, read_only, no_initial_value, no_limit, no_step}
use Rattle.lua_basic.specs.LuaStoreSeen.{StoreView, seen}
use Rattle.lua_basic.specs.LuaStoreParts.{IsOf}
use Rattle.lua_stack.specs.LuaSlotsSlots.{Slots}
use Rattle.lua_stack.specs.LuaSlotsPoints.{SFrame, Move, Now}
use Rattle.lua_stack.specs.LuaSlotsErrors.{fails}
use Rattle.lua_stack.specs.Seen.{Texts, focus_seen}
use Rattle.lua_stack.specs.Of.{FocusOf}
use Rattle.lua_arms.specs.declared.step.Failure.{Failure}
use Rattle.lua_arms.specs.declared.step.Failure.TheVariants as failure
use Rattle.lua_arms.specs.declared.step.Step.{Step}
use Rattle.lua_arms.specs.declared.step.Step.TheVariants as step

abbrev pub failure_text : Texts → Failure → Bytes
failure_text texts (failure.CannotIndex v) = cannot_index (seen texts v)
failure_text texts (failure.CannotCall v) = cannot_call (seen texts v)
failure_text texts (failure.CannotCalculate v) = cannot_calculate (seen texts v)
failure_text texts (failure.CannotConcatenate v) = cannot_concatenate (seen texts v)
failure_text texts (failure.CannotCompare a b) = cannot_compare (seen texts a) (seen texts b)
failure_text texts (failure.NoLength v) = no_length (seen texts v)
failure_text texts (failure.Number fault) = number_fault fault
failure_text texts failure.NilKey = nil_key
failure_text texts failure.ReadOnly = read_only
failure_text texts failure.NoInitialValue = no_initial_value
failure_text texts failure.NoLimit = no_limit
failure_text texts failure.NoStep = no_step

abbrev pub FailureOf : StoreView → Failure → Type 0
FailureOf s (failure.CannotIndex v) = IsOf s v
FailureOf s (failure.CannotCall v) = IsOf s v
FailureOf s (failure.CannotCalculate v) = IsOf s v
FailureOf s (failure.CannotConcatenate v) = IsOf s v
FailureOf s (failure.CannotCompare a b) = IsOf s a × IsOf s b
FailureOf s (failure.NoLength v) = IsOf s v
FailureOf s _ = Unit {0}

abbrev pub step_seen : StoreView → Step → List SFrame → Slots → Move
step_seen s (step.On f) fs slots = Now (focus_seen s f fs) slots
step_seen s (step.Fails line f) fs slots = fails line (failure_text s.texts f) fs slots

abbrev pub StepOf : StoreView → Step → Type 0
StepOf s (step.On f) = FocusOf s f
StepOf s (step.Fails line f) = FailureOf s f
