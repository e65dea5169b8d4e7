use Rattle.std.proofs.Common.{codes}
use Rattle.mw_frame_texts.specs.LuaMeaningMessages.{bad_argument, expected}
use Rattle.mw_frame_texts.specs.LuaMeaningFrameMethods.{a_frame}
use Rattle.mw_frame_texts.specs.LuaBasicSeen.{values_seen}
use Rattle.mw_frame_texts.proofs.LuaBasicFound.{refused}
use Rattle.mw_frame_calls.specs.Seen.{scenes_seen}
use Rattle.mw_frame_calls.specs.Parts.{numbered}
use Rattle.mw_frame_calls.proofs.Values.{frame_told, none_told}
use Rattle.mw_frame_calls.proofs.finding.a_frame.Goals as goal

pub metatable-meta-requires : goal.metatable-meta-requires
metatable-meta-requires c = c.first.ensures.of c.args.store.now c.requires

pub returns-in-Some-clause-found : goal.returns-in-Some-clause-found
returns-in-Some-clause-found c = λ f at.
    let texts = c.args.store.now.texts in
    frame_told c.args.store.now.heap (scenes_seen c.args.scenes.now) c.args.function.now (values_seen texts c.args.args.now) _ _ _ (numbered c.in-Some.number f) (c.in-Some.ensures.found texts f at)
    c.number_at.ensures c.metatable-meta.ensures.value (c.first.ensures.value texts)

pub returns-in-None-clause-refused : goal.returns-in-None-clause-refused
returns-in-None-clause-refused c =
    let texts = c.args.store.now.texts in
    let h = c.args.store.now.heap in
    let given = values_seen texts c.args.args.now in
    refused (a_frame h (scenes_seen c.args.scenes.now) c.args.function.now given) (bad_argument 1 c.args.function.now (expected (codes "frame") given)) c.args.store.now c.refuse_kind.new.store c.refuse_kind.result
    (none_told h (scenes_seen c.args.scenes.now) c.args.function.now given _ _ _ (c.in-None.ensures.found texts) c.number_at.ensures c.metatable-meta.ensures.value (c.first.ensures.value texts))
    c.refuse_kind.ensures.raises
