use Rattle.std.proofs.Common.{◌∙◌, ap, sym, subst, Option}
use Rattle.std.specs.Prelude.{IfSome}
use Rattle.page_meaning.specs.LuaMeaningQuestions.{LoadFailed}
use Rattle.lua_graph.specs.LuaWalkData.{taken}
use Rattle.lua_graph.specs.LuaStoreDeclaredIdsTextId.{TextId}
use Rattle.lua_graph.specs.LuaStoreDeclaredValueValue.{Value}
use Rattle.lua_graph.specs.LuaStoreParts.{IsOf, IsTextOf}
use Rattle.lua_graph.specs.LuaStoreSeen.{seen}
use Rattle.lua_state.specs.LuaStackLists.{given_values}
use Rattle.lua_state.specs.Of.{OutcomeOf}
use Rattle.page_meaning.specs.Told.{graph_answer}
use Rattle.page_points.specs.Machines.{data_told}
use Rattle.page_ground.specs.Ending.{text_or_none}
use Rattle.page_ground.proofs.MachineEnds.{first_of, raised_text_of, given_data, jump_end}
use Rattle.page_ground.proofs.ending.end_data.Goals as goal

pub value_data-requires : goal.value_data-requires
value_data-requires c =
    subst (IsOf c.args.store.now) (sym c.first-value.ensures)
    (first_of c.args.store.now (given_values c.in-Goes.given) (subst (OutcomeOf c.args.store.now) c.in-Goes.is c.requires))

pub copied_text-requires : goal.copied_text-requires
copied_text-requires c =
    subst (λ (o : Option TextId). IfSome o (IsTextOf c.args.store.now)) (sym c.raised_text-found.ensures)
    (raised_text_of c.args.store.now c.in-Jumps.jump (subst (OutcomeOf c.args.store.now) c.in-Jumps.is c.requires))

pub returns-in_ok-data-in-Goes-clause-data : goal.returns-in_ok-data-in-Goes-clause-data
returns-in_ok-data-in-Goes-clause-data c =
    rw c.in-Goes.is
    (c.in_ok-data-in-Goes.ensures.data
    ∙ ap (λ (v : Value). graph_answer (taken c.args.store.now.heap (seen c.args.store.now.texts v))) c.first-value.ensures
    ∙ given_data c.args.store.now.texts c.args.store.now.heap (given_values c.in-Goes.given))

pub returns-in_ok-data-in-Goes-clause-put : goal.returns-in_ok-data-in-Goes-clause-put
returns-in_ok-data-in-Goes-clause-put c = c.in_ok-data-in-Goes.ensures.put

pub returns-in_ok-message-in-Jumps-clause-data : goal.returns-in_ok-message-in-Jumps-clause-data
returns-in_ok-message-in-Jumps-clause-data c =
    rw c.in-Jumps.is
    (ap LoadFailed (c.in_ok-message-in-Jumps.ensures ∙ ap (text_or_none c.args.store.now.texts) c.raised_text-found.ensures)
    ∙ sym (ap (data_told c.args.store.now.heap) (jump_end c.args.store.now.texts c.in-Jumps.jump)))

pub returns-in_ok-message-in-Jumps-clause-put : goal.returns-in_ok-message-in-Jumps-clause-put
returns-in_ok-message-in-Jumps-clause-put c = tt
