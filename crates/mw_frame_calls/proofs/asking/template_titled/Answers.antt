use Rattle.std.proofs.Common.{subst, sym}
use Rattle.mw_frame.specs.WkBaseDeclaredTitleNamespaceTheVariants.{Template as TemplateSpace}
use Rattle.mw_frame_texts.specs.LuaMeaningFrameMethods.{read_title}
use Rattle.mw_frame_calls.specs.Seen.{scenes_seen, Paid}
use Rattle.mw_frame_calls.proofs.Found.{titled, quoted}
use Rattle.mw_frame_calls.proofs.asking.template_titled.Goals as goal

pub template_read-requires-clause-table : goal.template_read-requires-clause-table
template_read-requires-clause-table c = rw (rw c.in-Found.is at c.in_ok-title.ensures.same) c.requires.table

pub returns-in-Found-clause-answer : goal.returns-in-Found-clause-answer
returns-in-Found-clause-answer c =
    let s = c.args.store.now in
    let frames = scenes_seen c.args.scenes.now in
    let read = rw c.in-Found.is at c.in_ok-title.ensures.read in
    let is = titled (read_title c.args.text.now TemplateSpace) c.in-Found.title s.heap frames _ read in
    let answer = rw (rw c.in-Found.is at c.in_ok-title.ensures.same) at c.template_read.ensures.answer in
    subst (λ q. Paid q s frames c.args.left.now c.template_read.new.store frames c.template_read.new.left c.template_read.result) (sym is) answer

pub returns-in-Quotes-clause-answer : goal.returns-in-Quotes-clause-answer
returns-in-Quotes-clause-answer c =
    let read = rw c.in-Quotes.is at c.in_ok-title.ensures.read in
    quoted (read_title c.args.text.now TemplateSpace) c.args.store.now c.a_title.new.store (scenes_seen c.args.scenes.now) c.args.left.now _ c.in-Quotes.message read c.in_ok-title.ensures.heap
