use Rattle.std.proofs.Common.{refl}
use Rattle.wiki_pages.proofs.TableLaws.{held_right}
use Rattle.wiki_pages.proofs.tables.table_of.Goals as goal

pub returns : goal.returns
returns c = λ nodes at r. held_right nodes at c.args.run (record { seed = c.hasher-seed.result.now; cases = c.in_ok-cases.cases; values = c.shrink_to_fit.new.self; stop = c.args.run.stop; end = c.args.run.end })
    c.hasher-seed.ensures c.in_ok-cases.ensures.same c.in_ok-cases.ensures.order c.shrink_to_fit.ensures.items refl refl r
