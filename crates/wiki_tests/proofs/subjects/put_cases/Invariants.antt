use Rattle.std.proofs.Common.{◌≡◌, ◌++◌, drop, map}
use Rattle.wiki_tests.specs.declared.subjects.Subject.TheVariants.{Case}
use Rattle.wiki_tests.proofs.subjects.put_cases.Given as goal

abbrev pub invariant-loop-name : goal.invariant-loop-name
invariant-loop-name l = l.all ++ map (λ name. Case l.title name) (drop l.name-index l.names) ≡ l.initial.all ++ map (λ name. Case l.title name) l.names
