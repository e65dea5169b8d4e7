use Rattle.std.proofs.Common.{◌∙◌, ap, sym, subst}
use Rattle.lua_state.specs.LuaSlotsPoints.{Move}
use Rattle.lua_state.specs.LuaStoreSeen.{text_at}
use Rattle.lua_state.specs.LuaStackLists.{given_values}
use Rattle.lua_state.specs.Makes.{Makes}
use Rattle.lua_state.specs.Of.{OutcomeOf}
use Rattle.lua_state.specs.Seen.{slots_of, frames_of}
use Rattle.lua_modules.specs.declared.loading.DataAnswer.{DataAnswer}
use Rattle.lua_modules.specs.Answers.{data_move, DataAnswerOf}
use Rattle.lua_modules.proofs.GivenModules.{answer_of_values, answer_move}
use Rattle.lua_modules.proofs.loading.data_answer.Goals as goal

pub data_given-requires-clause-answer : goal.data_given-requires-clause-answer
data_given-requires-clause-answer c =
    subst (DataAnswerOf c.args.store.now) (sym c.answer_of-answer.ensures) (answer_of_values c.args.store.now (given_values c.in-Goes.given) (subst (OutcomeOf c.args.store.now) c.in-Goes.is c.requires.outcome))

pub data_failed-requires-clause-jump : goal.data_failed-requires-clause-jump
data_failed-requires-clause-jump c = subst (OutcomeOf c.args.store.now) c.in-Jumps.is c.requires.outcome

pub returns-in_ok-turn-in-Goes : goal.returns-in_ok-turn-in-Goes
returns-in_ok-turn-in-Goes c =
    let texts = c.args.store.now.texts in
    let fs = frames_of c.args.store.now c.args.state.now in
    let s = slots_of c.args.store.now c.args.state.now in
    rw c.in-Goes.is
    (subst (λ (mv : Move). Makes c.args.store.now c.args.state.now c.args.left.now c.data_given.new.store c.data_given.new.state c.data_given.new.left mv c.in_ok-turn-in-Goes.turn)
    (ap (λ (a : DataAnswer). data_move a (text_at texts c.args.text.at) c.args.title c.args.line fs s) c.answer_of-answer.ensures
    ∙ answer_move texts (given_values c.in-Goes.given) (text_at texts c.args.text.at) c.args.title c.args.line fs s) c.in_ok-turn-in-Goes.ensures)

pub returns-in_ok-turn-in-Jumps : goal.returns-in_ok-turn-in-Jumps
returns-in_ok-turn-in-Jumps c = rw c.in-Jumps.is (c.in_ok-turn-in-Jumps.ensures c.args.left.now (text_at c.args.store.now.texts c.args.text.at) c.args.title c.args.line)
