use Rattle.std.proofs.Common.{◌≡◌, ◌++◌, drop, map}
use Rattle.lua_syntax.specs.Functions.{exprs_functions, block_functions, arms_functions, fields_functions}
use Rattle.lua_syntax.specs.View.{exprs_view, stats_view, arms_view, fields_view, function_view}
use Rattle.lua_syntax.proofs.functions.+functions.Given as goal

abbrev pub invariant-arms-loop-a : goal.invariant-arms-loop-a
invariant-arms-loop-a l = map (λ f. function_view f.now) l.out ++ arms_functions (arms_view (drop l.a-index l.list)) ≡ map (λ f. function_view f.now) l.initial.out ++ arms_functions (arms_view l.list)

abbrev pub invariant-stats-loop-s : goal.invariant-stats-loop-s
invariant-stats-loop-s l = map (λ f. function_view f.now) l.out ++ block_functions (stats_view (drop l.s-index l.list)) ≡ map (λ f. function_view f.now) l.initial.out ++ block_functions (stats_view l.list)

abbrev pub invariant-exprs-loop-e : goal.invariant-exprs-loop-e
invariant-exprs-loop-e l = map (λ f. function_view f.now) l.out ++ exprs_functions (exprs_view (drop l.e-index l.list)) ≡ map (λ f. function_view f.now) l.initial.out ++ exprs_functions (exprs_view l.list)

abbrev pub invariant-fields-loop-f : goal.invariant-fields-loop-f
invariant-fields-loop-f l = map (λ f. function_view f.now) l.out ++ fields_functions (fields_view (drop l.f-index l.list)) ≡ map (λ f. function_view f.now) l.initial.out ++ fields_functions (fields_view l.list)
