use Rattle.std.proofs.Common.{◌∙◌, subst}
use Rattle.lua_format.specs.Format.{formatted}
use Rattle.lua_basic.specs.Seen.{values_seen, Paid}
use Rattle.lua_basic.specs.LuaMeaningFormats.{laid_out}
use Rattle.lua_strings.proofs.formatting.format_by.Goals as goal

pub returns-in-Ok-clause-answer : goal.returns-in-Ok-clause-answer
returns-in-Ok-clause-answer c =
    let s = c.args.store.now in
    let vs = values_seen s.texts c.args.values.now in
    subst (λ made. Paid (laid_out vs (formatted made c.args.spec.now 0) s.heap) s c.args.left.now c.give_formatted.new.store c.give_formatted.new.left c.give_formatted.result)
    (c.as_slice-in-Ok.ensures ∙ c.in_ok-made.ensures) (c.give_formatted.ensures.answer vs)
