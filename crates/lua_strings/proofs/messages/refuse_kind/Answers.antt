use Rattle.std.proofs.Common.{◌∙◌, subst}
use Rattle.lua_basic.specs.LuaMeaningMessages.{bad_argument}
use Rattle.lua_basic.specs.LuaMeaningArguments.{fails}
use Rattle.lua_basic.specs.Seen.{Stops}
use Rattle.lua_strings.proofs.messages.refuse_kind.Goals as goal

pub returns-in-Ok-clause-raises : goal.returns-in-Ok-clause-raises
returns-in-Ok-clause-raises c =
    subst (λ why. Stops (fails c.args.store.now.heap (bad_argument c.args.n c.args.function.now why)) c.refuse.new.store c.refuse.result)
    (c.as_slice.ensures.value ∙ c.in-Ok.ensures c.args.store.now.texts) c.refuse.ensures.raises
