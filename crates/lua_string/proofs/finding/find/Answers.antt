use Rattle.std.proofs.Common.{◌≡◌, ◌∙◌, ap, length, sym, w64}
use Rattle.std.proofs.lemmas.Int.{to_z-of_z}
use Rattle.lua_pattern.specs.declared.pattern.Search.TheVariants as search
use Rattle.lua_pattern.specs.Sizes.{find_bytes}
use Rattle.lua_string.specs.Places.{first_place}
use Rattle.lua_string.proofs.Prices.{answer_exceeds, find_pattern}
use Rattle.lua_string.proofs.finding.find.Goals as goal

pub returns-then-not-find_fits : goal.returns-then-not-find_fits
returns-then-not-find_fits c =
    let place : c.first_place-from.result ≡ first_place (length c.args.s.now) c.args.init =
    c.first_place-from.ensures.place ∙ ap (first_place (length c.args.s.now)) (to_z-of_z w64 c.args.init c.ranges.init) in
    find_pattern find_bytes c.args.plain c.args.budget c.args.s.now c.args.pattern.now c.args.init search.Spent c.if-plain.false
    (answer_exceeds find_bytes c.args.budget c.args.s.now c.args.pattern.now c.args.init c.first_place-from.result c.in-Ok.pattern.anchored c.in-Ok.pattern.items c.in-Ok.pattern.slots
    c.in-Ok-Found.found c.in-Ok-Found.tries place c.in-Ok.ensures (rw c.in-Ok-Found.field-0-is at c.in-Ok-Found.ensures.first) (sym c.if-not-find_fits.ensures))
