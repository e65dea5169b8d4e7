use Rattle.mw_ustring.proofs.Offsets.{tail_text}
use Rattle.mw_ustring.proofs.finding.plain_find.Goals as goal

pub plain_place-requires-clause-text : goal.plain_place-requires-clause-text
plain_place-requires-clause-text c = tail_text c.args.s.now c.args.from c.requires.text c.requires.place
