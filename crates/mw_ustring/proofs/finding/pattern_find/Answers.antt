use Rattle.mw_ustring.proofs.finding.pattern_find.Goals as goal

pub returns-in-Ok-Found-clause-places : goal.returns-in-Ok-Found-clause-places
returns-in-Ok-Found-clause-places c =
    rw c.in-Ok-Found.field-0-is at (c.in-Ok-Found.ensures.places c.requires.text c.requires.place)
