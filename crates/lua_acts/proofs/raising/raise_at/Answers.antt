use Rattle.std.proofs.Common.{w64}
use Rattle.std.proofs.lemmas.Int.{to_z-of_z}
use Rattle.lua_acts.proofs.raising.raise_at.Goals as goal

pub returns-in-Text : goal.returns-in-Text
returns-in-Text c = rw (c.in-Text.is, ← c.bytes-message.ensures) (rw (to_z-of_z w64 c.args.level c.ranges.level) at c.raise_text_at.ensures)

pub returns-in-Nil : goal.returns-in-Nil
returns-in-Nil c = rw c.in-Nil.is (rw c.in-Nil.is at (c.pass.ensures c.args.left.now))

pub returns-in-Bool : goal.returns-in-Bool
returns-in-Bool c = rw c.in-Bool.is (rw c.in-Bool.is at (c.pass-in-Bool.ensures c.args.left.now))

pub returns-in-Number : goal.returns-in-Number
returns-in-Number c = rw c.in-Number.is (rw c.in-Number.is at (c.pass-in-Number.ensures c.args.left.now))

pub returns-in-Table : goal.returns-in-Table
returns-in-Table c = rw c.in-Table.is (rw c.in-Table.is at (c.pass-in-Table.ensures c.args.left.now))

pub returns-in-Closure : goal.returns-in-Closure
returns-in-Closure c = rw c.in-Closure.is (rw c.in-Closure.is at (c.pass-in-Closure.ensures c.args.left.now))

pub returns-in-Builtin : goal.returns-in-Builtin
returns-in-Builtin c = rw c.in-Builtin.is (rw c.in-Builtin.is at (c.pass-in-Builtin.ensures c.args.left.now))

pub returns-in-Markup : goal.returns-in-Markup
returns-in-Markup c = rw c.in-Markup.is (rw c.in-Markup.is at (c.pass-in-Markup.ensures c.args.left.now))
