use Rattle.std.proofs.Common.{◌≡◌, ◌∙◌, chars, rules}
use Rattle.mw_ustring.specs.Texts.{points_of}
use Rattle.mw_ustring.proofs.Offsets.{spelled}
use Rattle.mw_ustring.proofs.parts.sub.Goals as goal

pub returns-in-Ok : goal.returns-in-Ok
returns-in-Ok c =
    let same : c.in-Ok.made.items ≡ c.part.result.now = search rules in
    let points : chars c.part.result.now ≡ points_of c.args.s.now c.args.from c.args.to = search rules in
    same ∙ spelled c.part.result.now (points_of c.args.s.now c.args.from c.args.to) c.part.ensures.text points
