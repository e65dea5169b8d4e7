use Rattle.std.proofs.Common.{◌≡◌, ◌∙◌, ◌∷◌, [], map, drop, length, ap, rules, arith}
use Rattle.std.proofs.lemmas.List.{drop_more, drop_all}
use Rattle.lua_code.specs.Seen.{place_seen}
use Rattle.lua_flat_code.specs.Making.{state_of}
use Rattle.lua_flat_code.proofs.OriginLaws.{origins_start, origins_step, origins_said}
use Rattle.lua_flat_code.proofs.maker.Maker.captures.Goals as goal

pub loop-place-init : goal.loop-place-init
loop-place-init c = origins_start _ _

pub loop-place-preserved : goal.loop-place-preserved
loop-place-preserved c = origins_step _ _ _ _ _ _ _ c.loop-place.invariant (ap (map place_seen) (drop_more c.args.places.now c.loop-place.place-index _ c.loop-place-test.true)) c.in_ok-capture.ensures

pub returns : goal.returns
returns c =
    let none : drop c.loop-place.place-index c.args.places.now ≡ [] = drop_all c.loop-place.place-index c.args.places.now (omega (arith, c.loop-place-test.false)) in
    let first : c.in_ok-first.first ≡ length (state_of c.args.self.now).origins = search rules in
    let end : c.in_ok-end.end ≡ length (state_of c.loop-place.self).origins = search rules in
    origins_said _ _ _ _ _ _ c.loop-place.invariant (ap (map place_seen) none) first end
