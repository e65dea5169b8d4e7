use Rattle.std.proofs.Common.{◌≡◌, ◌++◌, drop}
use Rattle.lua_syntax.specs.View.{exprs_view, stats_view, arms_view, fields_view}
use Rattle.lua_uses.specs.Uses.{exprs_uses, block_uses, arms_uses, fields_uses, block_scope}
use Rattle.lua_lint.specs.Seen.{uses_seen}
use Rattle.lua_lint.proofs.places.+places.Given as goal

abbrev pub invariant-arms-loop-a : goal.invariant-arms-loop-a
invariant-arms-loop-a l =
    (uses_seen l.out ++ arms_uses (arms_view (drop l.a-index l.list)) l.scope ≡ uses_seen l.initial.out ++ arms_uses (arms_view l.list) l.initial.scope)
    × (l.scope ≡ l.initial.scope)

abbrev pub invariant-stats-loop-s : goal.invariant-stats-loop-s
invariant-stats-loop-s l =
    (uses_seen l.out ++ block_uses (stats_view (drop l.s-index l.list)) l.scope ≡ uses_seen l.initial.out ++ block_uses (stats_view l.list) l.initial.scope)
    × (block_scope (stats_view (drop l.s-index l.list)) l.scope ≡ block_scope (stats_view l.list) l.initial.scope)

abbrev pub invariant-exprs-loop-e : goal.invariant-exprs-loop-e
invariant-exprs-loop-e l =
    (uses_seen l.out ++ exprs_uses (exprs_view (drop l.e-index l.list)) l.scope ≡ uses_seen l.initial.out ++ exprs_uses (exprs_view l.list) l.initial.scope)
    × (l.scope ≡ l.initial.scope)

abbrev pub invariant-fields-loop-f : goal.invariant-fields-loop-f
invariant-fields-loop-f l =
    (uses_seen l.out ++ fields_uses (fields_view (drop l.f-index l.list)) l.scope ≡ uses_seen l.initial.out ++ fields_uses (fields_view l.list) l.initial.scope)
    × (l.scope ≡ l.initial.scope)
