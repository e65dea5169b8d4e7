use Rattle.lua_pattern.proofs.RunLemmas.{idle_skipped, idle_further}
use Rattle.lua_pattern.proofs.items.go_on_from.Goals as goal

pub returns-in-None-clause-further : goal.returns-in-None-clause-further
returns-in-None-clause-further g c = idle_further c.args.idle.now c.args.index c.behind.result c.behind.ensures

pub returns-in-None-clause-same : goal.returns-in-None-clause-same
returns-in-None-clause-same g c =
    idle_skipped g.A.Alphabet.letters c.args.idle.now c.args.subject.now c.args.index c.behind.result c.args.at c.in-None.ensures.symbols c.behind.ensures
