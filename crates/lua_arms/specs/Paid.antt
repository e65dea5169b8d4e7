-- What an arm that charges comes to: a step at what is left then, or an allowance that is spent.
use Rattle.std.specs.Prelude.{List}
use Rattle.lua_basic.specs.LuaStoreSeen.{StoreView}
use Rattle.lua_stack.specs.LuaSlotsSlots.{Slots}
use Rattle.lua_stack.specs.LuaSlotsPoints.{SFrame, Move, Costs, Marks}
use Rattle.lua_code.specs.LuaSlotsEnact.{Funds, all_given_back, Enacted, Short, enact}
use Rattle.lua_arms.specs.declared.step.Paid.{Paid}
use Rattle.lua_arms.specs.declared.step.Paid.TheVariants as paid
use Rattle.lua_arms.specs.declared.step.Step.TheVariants as step
use Rattle.lua_arms.specs.Steps.{step_seen, StepOf}

abbrev pub paid_seen : StoreView → Paid → List SFrame → Slots → Funds → Enacted
paid_seen s (paid.Goes st) fs slots f = enact (step_seen s st fs slots) f
paid_seen s (paid.Spent which) fs slots f = Short which (all_given_back f)

abbrev pub PaidOf : StoreView → Paid → Type 0
PaidOf s (paid.Goes st) = StepOf s st
PaidOf s (paid.Spent which) = Unit {0}

-- only where the machine doesn't go on: an allowance is spent, or something failed, and the charge for its message is still to be taken
abbrev pub IfSpent : Paid → Type 0 → Type 0
IfSpent (paid.Spent which) A = A
IfSpent (paid.Goes (step.Fails line f)) A = A
IfSpent (paid.Goes (step.On f)) A = Unit {0}

-- a move behind the charge and the count of a node
abbrev pub behind_node : Move → Move
behind_node (Costs n (Marks mv)) = mv
behind_node mv = mv
