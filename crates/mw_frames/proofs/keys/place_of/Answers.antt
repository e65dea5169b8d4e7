use Rattle.std.proofs.Common.{◌∙◌, ◌<◌, ◌^◌, ap, pos, arith, w64}
use Rattle.std.proofs.lemmas.Int.{to_z_pos}
use Rattle.mw_frames.proofs.Digits.{place-digits, place-within}
use Rattle.mw_frames.proofs.keys.place_of.Goals as goal

pub number_of-requires-clause-digits : goal.number_of-requires-clause-digits
number_of-requires-clause-digits c = place-digits c.args.name.now c.requires

pub number_of-requires-clause-within : goal.number_of-requires-clause-within
number_of-requires-clause-within c = place-within c.args.name.now c.requires

pub overflow_cast-result : goal.overflow_cast-result
overflow_cast-result c = let h = place-within c.args.name.now c.requires in omega (arith, h, c.number_of.ensures)

pub returns : goal.returns
returns c =
    let h = place-within c.args.name.now c.requires in
    let below : c.number_of.result < 2 ^ 63 = omega (arith, h, c.number_of.ensures) in
    to_z_pos w64 c.number_of.result below ∙ ap pos c.number_of.ensures
