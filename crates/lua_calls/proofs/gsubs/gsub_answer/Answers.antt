use Rattle.lua_code.specs.LuaHeapValue.{Value as Plain}
use Rattle.lua_gsubs.specs.LuaMeaningGsub.{replacement_given}
use Rattle.lua_code.specs.LuaMeaningValues.{first}
use Rattle.lua_modules.specs.LuaSlotsErrors.{with_argument}
use Rattle.lua_code.specs.LuaSlotsGsub.{puts}
use Rattle.lua_modules.specs.LuaSlotsPoints.{Move}
use Rattle.lua_tables.specs.LuaStoreSeen.{seen}
use Rattle.lua_modules.specs.LuaStackLists.{given_values}
use Rattle.lua_modules.specs.LuaStackSeen.{values_seen}
use Rattle.lua_modules.proofs.LuaStackOpenings.{first_of}
use Rattle.lua_modules.specs.LuaStateSeen.{slots_of, frames_of}
use Rattle.lua_acts.proofs.Lists.{with_first}
use Rattle.lua_gsubs.specs.LuaReplacingSeen.{replacing_seen}
use Rattle.lua_calls.proofs.Replaces.{each_made}
use Rattle.lua_calls.proofs.gsubs.gsub_answer.Goals as goal

pub go_on-requires-clause-value : goal.go_on-requires-clause-value
go_on-requires-clause-value c = first_of c.args.store.now (given_values c.in-Goes.given) c.first-value.result c.first-value.ensures (rw c.in-Goes.is at c.requires.outcome)

pub returns-in-Goes : goal.returns-in-Goes
returns-in-Goes c =
    let s = c.args.store.now in
    let m = c.args.state.now in
    let w = replacing_seen s.texts c.args.waits.value in
    let vs = given_values c.in-Goes.given in
    let go : Plain → Move = λ v. with_argument (replacement_given w.matched v) c.args.line (frames_of s m) (slots_of s m) (λ piece. puts w piece c.args.line (frames_of s m) (slots_of s m)) in
    let t = c.go_on.new.store in
    let n = c.go_on.new.state in
    let k = c.go_on.new.left in
    let made = rw c.into_inner.ensures at c.go_on.ensures in
    rw c.in-Goes.is (each_made s s t m m n c.args.left.now c.args.left.now k (go (first (values_seen s.texts vs))) (go (seen s.texts c.first-value.result)) c.go_on.result
    (λ x. with_first s t m n c.args.left.now k x vs c.first-value.result go c.first-value.ensures) made)

pub returns-in-Jumps : goal.returns-in-Jumps
returns-in-Jumps c = rw c.in-Jumps.is (c.pass.ensures c.args.left.now)
