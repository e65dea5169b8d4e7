use Rattle.std.proofs.Common.{◌∙◌, ◌++◌, ap, sym, map, take, replicate}
use Rattle.lua_basic.specs.LuaStoreDeclaredValueValueTheVariants as own
use Rattle.lua_tables.specs.Repeated.{repeated, named_values}
use Rattle.lua_tables.proofs.Repeats.{repeated-with, take_get}
use Rattle.lua_tables.proofs.distinct.spread_out.Goals as goal

pub texts-preserved : goal.texts-preserved
texts-preserved c =
    let xs = c.args.named.now in
    let at = c.texts.place in
    let x = c.item_at-next.result in
    c.in_ok-put_times.ensures ∙ ap (λ vs. vs ++ replicate x.count (own.Text x.text)) c.texts.invariant ∙ sym (repeated-with named_values (take at xs) x)
    ∙ ap (λ ys. repeated (map named_values ys)) (sym (take_get xs at x c.item_at-next.ensures))
