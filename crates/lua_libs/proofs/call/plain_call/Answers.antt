use Rattle.lua_basic.proofs.Found.{for_nothing}
use Rattle.lua_libs.proofs.call.plain_call.Goals as goal

pub returns-in-Assert-clause-answer : goal.returns-in-Assert-clause-answer
returns-in-Assert-clause-answer c = rw c.in-Assert.is (for_nothing _ c.args.store.now c.assert.new.store c.args.left.now c.assert.result c.assert.ensures.answer)

pub returns-in-Error-clause-answer : goal.returns-in-Error-clause-answer
returns-in-Error-clause-answer c = rw c.in-Error.is (for_nothing _ c.args.store.now c.error.new.store c.args.left.now c.error.result c.error.ensures.answer)

pub returns-in-GetMetatable-clause-answer : goal.returns-in-GetMetatable-clause-answer
returns-in-GetMetatable-clause-answer c = rw c.in-GetMetatable.is (for_nothing _ c.args.store.now c.get_metatable.new.store c.args.left.now c.get_metatable.result c.get_metatable.ensures.answer)

pub returns-in-SetMetatable-clause-answer : goal.returns-in-SetMetatable-clause-answer
returns-in-SetMetatable-clause-answer c = rw c.in-SetMetatable.is (for_nothing _ c.args.store.now c.set_metatable.new.store c.args.left.now c.set_metatable.result c.set_metatable.ensures.answer)

pub returns-in-RawEqual-clause-answer : goal.returns-in-RawEqual-clause-answer
returns-in-RawEqual-clause-answer c = rw c.in-RawEqual.is (for_nothing _ c.args.store.now c.raw_equal.new.store c.args.left.now c.raw_equal.result c.raw_equal.ensures.answer)

pub returns-in-RawGet-clause-answer : goal.returns-in-RawGet-clause-answer
returns-in-RawGet-clause-answer c = rw c.in-RawGet.is (for_nothing _ c.args.store.now c.raw_get.new.store c.args.left.now c.raw_get.result c.raw_get.ensures.answer)

pub returns-in-Select-clause-answer : goal.returns-in-Select-clause-answer
returns-in-Select-clause-answer c = rw c.in-Select.is (for_nothing _ c.args.store.now c.select.new.store c.args.left.now c.select.result c.select.ensures.answer)

pub returns-in-ToNumber-clause-answer : goal.returns-in-ToNumber-clause-answer
returns-in-ToNumber-clause-answer c = rw c.in-ToNumber.is (for_nothing _ c.args.store.now c.to_number.new.store c.args.left.now c.to_number.result c.to_number.ensures.answer)

pub returns-in-Kind-clause-answer : goal.returns-in-Kind-clause-answer
returns-in-Kind-clause-answer c = rw c.in-Kind.is (for_nothing _ c.args.store.now c.kind.new.store c.args.left.now c.kind.result c.kind.ensures.answer)

pub returns-in-Log-clause-answer : goal.returns-in-Log-clause-answer
returns-in-Log-clause-answer c = rw c.in-Log.is (for_nothing _ c.args.store.now c.log.new.store c.args.left.now c.log.result c.log.ensures.answer)

pub returns-in-Expand-clause-answer : goal.returns-in-Expand-clause-answer
returns-in-Expand-clause-answer c = rw c.in-Expand.is (for_nothing _ c.args.store.now c.argument_expand.new.store c.args.left.now c.argument_expand.result c.argument_expand.ensures.answer)
