use Rattle.std.proofs.Common.{◌∙◌, ◌-◌, ap, length, drop, reverse}
use Rattle.lua_stack.proofs.StackLemmas.{cut_to}
use Rattle.lua_stack.proofs.stack.Stack.cut.Goals as goal

pub returns : goal.returns
returns g c = ap reverse c.truncate.ensures.items ∙ cut_to c.args.depth c.self.inside.items.items ∙ ap (λ l. drop (length l - c.args.depth) l) c.self.view_is
