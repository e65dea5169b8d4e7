use Rattle.std.proofs.Common.{subst}
use Rattle.lua_state.specs.LuaMeaningMessages.{no_data_module}
use Rattle.lua_state.specs.LuaSlotsErrors.{fails_quoting}
use Rattle.lua_state.specs.Makes.{Makes}
use Rattle.lua_state.specs.Seen.{slots_of, frames_of}
use Rattle.lua_modules.specs.Answers.{DataAnswerOf}
use Rattle.lua_modules.proofs.loading.data_given.Goals as goal

pub keep_data-requires-clause-table : goal.keep_data-requires-clause-table
keep_data-requires-clause-table c = subst (DataAnswerOf c.args.store.now) c.in-Table.is c.requires.answer

pub returns-in-Table : goal.returns-in-Table
returns-in-Table c = rw c.in-Table.is (c.keep_data.ensures c.args.left.now)

pub returns-in_ok-turn-in-Nothing : goal.returns-in_ok-turn-in-Nothing
returns-in_ok-turn-in-Nothing c =
    rw c.in-Nothing.is
    (subst (λ b. Makes c.args.store.now c.args.state.now c.args.left.now c.lacks_data.new.store c.args.state.now c.lacks_data.new.left
    (fails_quoting c.args.line (no_data_module b) (frames_of c.args.store.now c.args.state.now) (slots_of c.args.store.now c.args.state.now)) c.in_ok-turn-in-Nothing.turn) c.bytes-bytes.ensures c.in_ok-turn-in-Nothing.ensures)

pub returns-in-Other : goal.returns-in-Other
returns-in-Other c = rw c.in-Other.is (c.wrong_answer.ensures c.args.left.now)
