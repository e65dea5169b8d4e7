use Rattle.lua_basic.proofs.Found.{refused}
use Rattle.lua_strings.proofs.arguments.check_codes.Goals as goal

pub returns-in-All-clause-found : goal.returns-in-All-clause-found
returns-in-All-clause-found c = rw c.in-All.is at (c.in_ok-check.ensures c.args.function.now)

pub returns-in-NotANumber-clause-refused : goal.returns-in-NotANumber-clause-refused
returns-in-NotANumber-clause-refused c =
    refused _ _ c.args.store.now c.refuse_kind.new.store c.refuse_kind.result (rw c.in-NotANumber.is at (c.in_ok-check.ensures c.args.function.now)) c.refuse_kind.ensures.raises

pub returns-in-OutOfRange-clause-refused : goal.returns-in-OutOfRange-clause-refused
returns-in-OutOfRange-clause-refused c =
    refused _ _ c.args.store.now c.refuse.new.store c.refuse.result (rw c.in-OutOfRange.is at (c.in_ok-check.ensures c.args.function.now)) c.refuse.ensures.raises
