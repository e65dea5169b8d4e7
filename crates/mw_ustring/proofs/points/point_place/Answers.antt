use Rattle.std.proofs.lemmas.Str.{IsUtf8-take}
use Rattle.mw_ustring.proofs.points.point_place.Goals as goal

pub count_points-requires : goal.count_points-requires
count_points-requires c = record { text = IsUtf8-take c.args.s.now c.args.at c.requires.text c.requires.place }
