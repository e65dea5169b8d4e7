use Rattle.lua_basic.proofs.Found.{refused}
use Rattle.lua_strings.proofs.arguments.all_numbers.Goals as goal

pub returns-in-All-clause-found : goal.returns-in-All-clause-found
returns-in-All-clause-found c = rw c.in-All.is at (c.in_ok-read.ensures c.args.function.now)

pub returns-in-Refused-clause-refused : goal.returns-in-Refused-clause-refused
returns-in-Refused-clause-refused c =
    refused _ _ c.args.store.now c.refuse_kind.new.store c.refuse_kind.result (rw c.in-Refused.is at (c.in_ok-read.ensures c.args.function.now)) c.refuse_kind.ensures.raises
