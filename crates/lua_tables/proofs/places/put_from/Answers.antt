use Rattle.std.proofs.Common.{◌≡◌, rules, w64, to_z, of_z}
use Rattle.std.proofs.lemmas.Int.{to_z-of_z}
use Rattle.lua_tables.proofs.Put.{Putting, putting-on}
use Rattle.lua_tables.proofs.places.put_from.Goals as goal

pub places-preserved : goal.places-preserved
places-preserved c =
    let first = to_z-of_z w64 c.args.first c.ranges.first in
    let place : to_z w64 (of_z w64 c.place_behind.result) ≡ c.place_behind.result = search rules in
    let inv = c.places.invariant in
    let more = rw first at inv.more in
    let so_far : Putting c.args.store.now c.args.table.at c.args.first c.args.values.now c.places.offset c.places.rest.now c.places.store =
    record { put = inv.put; more = more; of = inv.of; later = inv.later; writable = inv.writable; sum = inv.sum } in
    let at_ = rw first at c.place_behind.ensures in
    let made = rw place at c.in_ok-put_at.ensures.put in
    let p = putting-on c.args.store.now c.places.store c.put_at.new.store c.args.table.at c.args.first c.place_behind.result c.args.values.now c.places.rest.now c.in-Some.more.now c.in-Some.value c.places.offset
    c.requires.table c.in-Some.ensures at_ made c.in_ok-put_at.ensures.later so_far in
    rw first (record { put = p.put; more = p.more; of = p.of; later = p.later; writable = p.writable; sum = p.sum })
