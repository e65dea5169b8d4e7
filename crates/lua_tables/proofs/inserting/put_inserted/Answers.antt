use Rattle.std.proofs.Common.{ap, arith, length, w64}
use Rattle.std.proofs.lemmas.Int.{to_z-of_z, ints}
use Rattle.lua_tables.proofs.Moved.{length-read}
use Rattle.lua_tables.proofs.inserting.put_inserted.Goals as goal

pub put_from-requires-clause-within : goal.put_from-requires-clause-within
put_from-requires-clause-within c =
    let place = to_z-of_z w64 c.args.place c.ranges.place in
    let same = ap length c.as_slice.ensures in
    let size = length-read _ _ _ _ _ _ c.in_ok-read_onto.ensures.values in
    let one = ap length c.in_ok-values.ensures in
    rw place (omega (arith, ints, same, size, one, c.requires.within))
