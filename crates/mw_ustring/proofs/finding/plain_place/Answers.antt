use Rattle.lua_string.proofs.Plain.{place_found}
use Rattle.mw_ustring.proofs.Boundaries.{found_between}
use Rattle.mw_ustring.proofs.finding.plain_place.Goals as goal

pub returns-clause-place : goal.returns-clause-place
returns-clause-place c = place_found c.args.text.now c.args.needle.now c.find.result c.find.ensures

pub returns-clause-boundaries : goal.returns-clause-boundaries
returns-clause-boundaries c =
    found_between c.args.text.now c.args.needle.now c.find.result c.requires.text c.requires.needle c.find.ensures
