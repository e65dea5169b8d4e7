use Rattle.std.proofs.Common.{◌≡◌, refl, rules}
use Rattle.lua_gsubs.specs.LuaMeaningGsub.{replacement_given}
use Rattle.lua_tables.specs.LuaStoreSeen.{seen}
use Rattle.lua_gsubs.specs.LuaReplacingSeen.{replacing_seen}
use Rattle.lua_calls.proofs.Replaces.{given_put, given_spent, given_refused}
use Rattle.lua_calls.proofs.gsubs.go_on.Goals as goal

pub returns-in-Put : goal.returns-in-Put
returns-in-Put c =
    let s = c.args.store.now in
    let w = c.args.waits in
    let is = rw (c.in-Put.is, c.span-whole.ensures, c.bytes.ensures) at c.in_ok-given.ensures.given in
    given_put s c.replace.new.store c.args.state.now c.replace.new.state c.args.left.now c.put_given.new.left c.replace.new.left c.replace.result (replacing_seen s.texts w) c.args.line w.far c.put_given.new.far refl
    (replacement_given (replacing_seen s.texts w).matched (seen s.texts c.args.value)) is c.replace.ensures

pub returns-in-Spent : goal.returns-in-Spent
returns-in-Spent c =
    let s = c.args.store.now in
    let w = c.args.waits in
    let is = rw (c.in-Spent.is, c.span-whole.ensures, c.bytes.ensures) at c.in_ok-given.ensures.given in
    given_spent s c.args.state.now c.args.left.now c.put_given.new.left (replacing_seen s.texts w) c.args.line w.far c.put_given.new.far c.requires.state
    (replacement_given (replacing_seen s.texts w).matched (seen s.texts c.args.value)) is

pub returns : goal.returns
returns c =
    let s = c.args.store.now in
    let w = c.args.waits in
    let said : c.as_slice.result.now ≡ c.in-Refused.message.items = search rules in
    let is = rw (c.in-Refused.is, c.span-whole.ensures, c.bytes.ensures) at c.in_ok-given.ensures.given in
    given_refused s c.fail.new.store c.args.state.now c.args.state.now c.args.left.now c.put_given.new.left c.fail.new.left c.fail.result (replacing_seen s.texts w) c.args.line w.far c.put_given.new.far refl
    (replacement_given (replacing_seen s.texts w).matched (seen s.texts c.args.value)) c.in-Refused.message c.as_slice.result.now said is c.fail.ensures.makes
