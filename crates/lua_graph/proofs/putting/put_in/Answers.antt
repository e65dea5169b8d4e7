use Rattle.std.proofs.Common.{rules, length, sym, subst, ap, ◌∙◌}
use Rattle.lua_store.specs.Seen.{StoreView}
use Rattle.lua_graph.specs.Put.{named, AreFrom}
use Rattle.lua_graph.proofs.Wholes.{put_all}
use Rattle.lua_graph.proofs.putting.put_in.Goals as goal

pub returns-clause-put : goal.returns-clause-put
returns-clause-put c =
    let names = c.as_slice-3.ensures in
    let from = subst (AreFrom (length c.names_of.new.store.heap.tables)) (sym c.as_slice-2.ensures) c.in_ok-tables.ensures.tables.from in
    put_all c.args.frozen c.args.graph.now c.args.store.now c.names_of.new.store c.new_tables.new.store c.fill_all.new.store (length c.as_slice-nodes.result.now) (named c.new_tables.new.store.texts c.as_slice-3.result.now)
    (search (rules, c.in_ok-names.ensures.put, c.as_slice.ensures)) (search rules) c.in_ok-tables.ensures.put
    (ap (named c.new_tables.new.store.texts) names ∙ ap (λ (x : StoreView). named x.texts c.in_ok-names.names) c.in_ok-tables.ensures.put ∙ c.in_ok-names.ensures.names.same ∙ c.as_slice.ensures)
    c.requires.plain
    (search (rules, c.in_ok-fill_all.ensures.put (length c.names_of.new.store.heap.tables) from, c.as_slice-nodes.ensures))
