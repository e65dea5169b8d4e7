use Rattle.mw_frame_texts.proofs.LuaBasicFound.{for_nothing}
use Rattle.mw_ustrings.proofs.call.give.Goals as goal

pub returns-in-Byteoffset-clause-answer : goal.returns-in-Byteoffset-clause-answer
returns-in-Byteoffset-clause-answer c = rw c.in-Byteoffset.is (for_nothing _ c.args.store.now c.byteoffset.new.store c.args.left.now c.byteoffset.result c.byteoffset.ensures.answer)

pub returns-in-Len-clause-answer : goal.returns-in-Len-clause-answer
returns-in-Len-clause-answer c = rw c.in-Len.is (for_nothing _ c.args.store.now c.len.new.store c.args.left.now c.len.result c.len.ensures.answer)

pub returns-in-IsUtf8-clause-answer : goal.returns-in-IsUtf8-clause-answer
returns-in-IsUtf8-clause-answer c = rw c.in-IsUtf8.is (for_nothing _ c.args.store.now c.isutf8.new.store c.args.left.now c.isutf8.result c.isutf8.ensures.answer)
