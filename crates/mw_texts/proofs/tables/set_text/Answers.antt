use Rattle.mw_texts.proofs.tables.set_text.Goals as goal

pub set-requires-clause-key : goal.set-requires-clause-key
set-requires-clause-key c = c.in_ok-key.ensures.of c.text.new.self
