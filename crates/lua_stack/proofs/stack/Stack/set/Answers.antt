use Rattle.std.proofs.Common.{◌≡◌, ◌<◌, ◌∙◌, ◌-◌, ap, length, reverse, slice_set, arith, rules}
use Rattle.lua_stack.proofs.StackLemmas.{set_at}
use Rattle.lua_stack.proofs.stack.Stack.set.Goals as goal

pub returns-then-at-count : goal.returns-then-at-count
returns-then-at-count g c =
    let n : c.len-count.result ≡ length c.self.inside.items.items = search rules in
    let h : c.args.at < length c.self.inside.items.items = search (arith, rules) in
    ap (λ m. reverse (slice_set c.self.inside.items.items (m - 1 - c.args.at) c.args.item)) n ∙ set_at c.self.inside.items.items c.args.at c.args.item h ∙ ap (λ l. slice_set l c.args.at c.args.item) c.self.view_is
