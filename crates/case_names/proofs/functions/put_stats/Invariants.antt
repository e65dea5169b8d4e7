use Rattle.std.proofs.Common.{◌≡◌, ◌++◌, map, drop}
use Rattle.lua_syntax.specs.View.{stats_view}
use Rattle.case_names.specs.Cases.{block_keys}
use Rattle.case_names.proofs.functions.put_stats.Given as goal

abbrev pub invariant-loop-stat : goal.invariant-loop-stat
invariant-loop-stat l = map (λ k. k.now) l.out ++ block_keys (stats_view (drop l.stat-index l.list)) ≡ map (λ k. k.now) l.initial.out ++ block_keys (stats_view l.list)
