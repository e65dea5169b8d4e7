use Rattle.std.proofs.Common.{drop}
use Rattle.lua_syntax.specs.View.{exprs_view, fields_view, stats_view, arms_view}
use Rattle.lua_resolve.specs.Parts.{state_of, ExpressionsSoFar, EntriesSoFar, TargetsSoFar, BranchesSoFar, BlockSoFar}
use Rattle.lua_resolve.proofs.resolver.Resolver.+parts.Given as goal

abbrev pub invariant-branches-loop-a : goal.invariant-branches-loop-a
invariant-branches-loop-a l = BranchesSoFar (state_of l.initial.self) (state_of l.self) (arms_view l.list) (arms_view (drop l.a-index l.list)) l.out

abbrev pub invariant-entries-loop-f : goal.invariant-entries-loop-f
invariant-entries-loop-f l = EntriesSoFar (state_of l.initial.self) (state_of l.self) (fields_view l.list) (fields_view (drop l.f-index l.list)) l.out

abbrev pub invariant-expressions-loop-e : goal.invariant-expressions-loop-e
invariant-expressions-loop-e l = ExpressionsSoFar (state_of l.initial.self) (state_of l.self) (exprs_view l.list) (exprs_view (drop l.e-index l.list)) l.out

abbrev pub invariant-stats-loop-s : goal.invariant-stats-loop-s
invariant-stats-loop-s l = BlockSoFar (state_of l.initial.self) (state_of l.self) (stats_view l.list) (stats_view (drop l.s-index l.list)) l.out

abbrev pub invariant-targets-loop-e : goal.invariant-targets-loop-e
invariant-targets-loop-e l = TargetsSoFar (state_of l.initial.self) (state_of l.self) (exprs_view l.list) (exprs_view (drop l.e-index l.list)) l.out
