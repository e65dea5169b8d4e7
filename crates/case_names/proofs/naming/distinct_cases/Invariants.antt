use Rattle.std.proofs.Common.{◌≡◌, [], map, drop}
use Rattle.case_names.specs.Cases.{with_cases}
use Rattle.case_names.proofs.naming.distinct_cases.Given as goal

abbrev pub invariant-loop-key : goal.invariant-loop-key
invariant-loop-key l = with_cases (map (λ k. k.now) l.met.keys) (map (λ k. k.now) (drop l.key-index l.keys)) ≡ with_cases [] (map (λ k. k.now) l.keys)
