use Rattle.std.proofs.Common.{◌≡◌, ◌++◌, drop}
use Rattle.lua_syntax.specs.Nodes.{exprs_lines, block_lines, arms_lines, fields_lines}
use Rattle.lua_syntax.specs.View.{exprs_view, stats_view, arms_view, fields_view}
use Rattle.lua_syntax.proofs.nodes.+lines.Given as goal

abbrev pub invariant-arms-loop-a : goal.invariant-arms-loop-a
invariant-arms-loop-a l = l.out ++ arms_lines (arms_view (drop l.a-index l.list)) ≡ l.initial.out ++ arms_lines (arms_view l.list)

abbrev pub invariant-stats-loop-s : goal.invariant-stats-loop-s
invariant-stats-loop-s l = l.out ++ block_lines (stats_view (drop l.s-index l.list)) ≡ l.initial.out ++ block_lines (stats_view l.list)

abbrev pub invariant-exprs-loop-e : goal.invariant-exprs-loop-e
invariant-exprs-loop-e l = l.out ++ exprs_lines (exprs_view (drop l.e-index l.list)) ≡ l.initial.out ++ exprs_lines (exprs_view l.list)

abbrev pub invariant-fields-loop-f : goal.invariant-fields-loop-f
invariant-fields-loop-f l = l.out ++ fields_lines (fields_view (drop l.f-index l.list)) ≡ l.initial.out ++ fields_lines (fields_view l.list)
