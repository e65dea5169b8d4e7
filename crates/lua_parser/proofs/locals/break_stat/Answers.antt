use Rattle.std.proofs.lemmas.Bool.{not-true, not-false}
use Rattle.lua_reading.proofs.statements.PlainExits.{break_stands, break_outside, break_deep}
use Rattle.lua_parser.proofs.locals.break_stat.Goals as goal

pub returns-then-context-gt200 : goal.returns-then-context-gt200
returns-then-context-gt200 c = rw c.fault_at.ensures (break_deep _ _ _ _ c.requires.inside c.requires.begins c.if-context-gt200.true)

pub returns-then-not-context : goal.returns-then-not-context
returns-then-not-context c = rw c.fault_at-then-not-context.ensures (break_outside _ _ _ _ c.requires.inside c.requires.begins c.if-context-gt200.false (not-true _ c.if-not-context.true))

pub returns : goal.returns
returns c = rw (c.break_stat.ensures, c.line_at.ensures) (break_stands _ _ _ _ c.requires.ended c.requires.inside c.requires.begins c.if-context-gt200.false (not-false _ c.if-not-context.false))
