use Rattle.std.proofs.Common.{◌∙◌, sym}
use Rattle.lua_machine.specs.Events.{answer_outcome}
use Rattle.page_ground.specs.Seen.{data_seen}
use Rattle.page_tasks.specs.Seen.{answered_text}
use Rattle.page_tasks.specs.Going.{Halts}
use Rattle.page_tasks.proofs.Passing.{if_ok}
use Rattle.page_tasks.proofs.Waiting.{task_later}
use Rattle.page_tasks.proofs.Answering.{put_first, put_halts, no_text}
use Rattle.page_tasks.proofs.telling.tell_data.Goals as goal

pub put_data-requires : goal.put_data-requires
put_data-requires g c = c.requires.data

pub tell-requires-clause-waits : goal.tell-requires-clause-waits
tell-requires-clause-waits g c = c.requires.waits

pub tell-requires-clause-back : goal.tell-requires-clause-back
tell-requires-clause-back g c = c.requires.back

pub tell-requires-clause-answer : goal.tell-requires-clause-answer
tell-requires-clause-answer g c = (rw c.in-Ok.is at c.put_data.ensures.of)

pub tell-requires-clause-height : goal.tell-requires-clause-height
tell-requires-clause-height g c = c.requires.height

pub tell-requires-clause-of : goal.tell-requires-clause-of
tell-requires-clause-of g c = task_later c.args.store.now c.put_data.new.store (rw c.in-Ok.is at c.put_data.ensures.later) c.args.task c.requires.of

pub returns-in-Ok-clause-halts : goal.returns-in-Ok-clause-halts
returns-in-Ok-clause-halts g c =
    if_ok (Halts c.put_data.new.store c.args.left.now c.args.turns.now c.args.task c.tell.new.store c.tell.new.left c.tell.new.turns) (Halts c.args.store.now c.args.left.now c.args.turns.now c.args.task c.tell.new.store c.tell.new.left c.tell.new.turns) c.tell.result
    (λ x. put_halts c.args.store.now c.put_data.new.store c.tell.new.store c.args.left.now c.tell.new.left c.args.turns.now c.tell.new.turns c.args.task x (rw c.in-Ok.is at c.put_data.ensures.later)) c.tell.ensures.halts

pub returns-in-Ok-clause-goes : goal.returns-in-Ok-clause-goes
returns-in-Ok-clause-goes g c =
    put_first c.args.left.now c.args.task c.tell.new.store c.tell.new.left c.tell.result c.args.store.now c.put_data.new.store c.args.turns.now c.tell.new.turns (answered_text c.in-Ok.answer) (data_seen c.args.given.now) (answer_outcome c.put_data.new.store.texts c.in-Ok.answer) c.args.height
    ((rw c.in-Ok.is at c.put_data.ensures.text) ∙ sym (no_text c.args.given.now)) c.requires.of (rw c.in-Ok.is at c.put_data.ensures.later) (rw c.in-Ok.is at c.put_data.ensures.puts) c.tell.ensures.goes

pub returns-in-Ok-clause-falls : goal.returns-in-Ok-clause-falls
returns-in-Ok-clause-falls g c = c.tell.ensures.falls
