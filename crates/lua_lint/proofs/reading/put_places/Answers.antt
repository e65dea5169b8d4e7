use Rattle.std.proofs.Common.{◌≡◌, ◌-◌, ◌<◌, suc, length, arith}
use Rattle.lua_lint.proofs.ReadingLemmas.{one_placed}
use Rattle.lua_lint.proofs.reading.put_places.Goals as goal

pub loop-place-preserved : goal.loop-place-preserved
loop-place-preserved c =
    let whole : suc (c.loop-place.place - 1) ≡ c.loop-place.place = omega arith in
    let less : c.loop-place.place - 1 < length c.args.modules.now = omega arith in
    (one_placed c.args.modules.now (c.loop-place.place - 1) c.loop-place.place c.index-modules-place.result c.loop-place.places.entries c.put_place.new.places.entries whole less c.index-modules-place.is c.loop-place.invariant.0 c.in_ok-put_place.ensures, omega arith)
