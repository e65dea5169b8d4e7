use Rattle.std.proofs.Common.{◌∙◌, subst}
use Rattle.mw_frame_texts.specs.LuaMeaningMessages.{bad_argument}
use Rattle.mw_frame_texts.specs.LuaMeaningArguments.{fails}
use Rattle.mw_frame_texts.specs.LuaBasicSeen.{Stops}
use Rattle.mw_ustrings.proofs.arguments.refuse_kind_at.Goals as goal

pub returns-in-Ok-clause-raises : goal.returns-in-Ok-clause-raises
returns-in-Ok-clause-raises c =
    subst (λ why. Stops (fails c.args.store.now.heap (bad_argument c.args.n c.args.function.now why)) c.refuse_at.new.store c.refuse_at.result)
    (c.as_slice.ensures.value ∙ c.in-Ok.ensures c.args.store.now.texts) c.refuse_at.ensures.raises
