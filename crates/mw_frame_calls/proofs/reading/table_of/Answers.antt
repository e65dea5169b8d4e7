use Rattle.std.proofs.Common.{sym}
use Rattle.mw_frame_texts.specs.MwFramesScenes.{made}
use Rattle.mw_frame_texts.proofs.MwFramesKept.{frame-there}
use Rattle.mw_frame_calls.proofs.Values.{table_there, no_table}
use Rattle.mw_frame_calls.proofs.reading.table_of.Goals as goal

pub returns-in-Some-clause-of : goal.returns-in-Some-clause-of
returns-in-Some-clause-of c = λ s h. (frame-there s (made c.args.scenes.now) c.args.number c.in-Some.frame.now h.frames (sym c.in-Some.ensures.frame)).table

pub returns-in-Some-clause-value : goal.returns-in-Some-clause-value
returns-in-Some-clause-value c = λ texts. table_there (made c.args.scenes.now) c.args.number c.in-Some.frame.now (sym c.in-Some.ensures.frame)

pub returns-in-None-clause-value : goal.returns-in-None-clause-value
returns-in-None-clause-value c = λ texts. no_table (made c.args.scenes.now) c.args.number (sym c.in-None.ensures.frame)
