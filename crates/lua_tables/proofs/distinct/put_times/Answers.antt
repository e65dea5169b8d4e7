use Rattle.std.proofs.Common.{◌≡◌, ◌∙◌, ◌++◌, ◌∷◌, [], ap, append_assoc, replicate}
use Rattle.lua_basic.specs.LuaStoreDeclaredValueValueTheVariants as own
use Rattle.lua_tables.proofs.Repeats.{replicate-more}
use Rattle.lua_tables.proofs.distinct.put_times.Goals as goal

pub times-preserved : goal.times-preserved
times-preserved c =
    let old = c.args.values.now in
    let text = own.Text c.args.text in
    c.in_ok-push.ensures.ok ∙ ap (λ xs. xs ++ text ∷ []) c.times.invariant ∙ append_assoc old (replicate c.times._turn text) (text ∷ []) ∙ ap (λ xs. old ++ xs) (replicate-more c.times._turn text)
