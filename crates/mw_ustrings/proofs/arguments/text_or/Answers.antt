use Rattle.std.proofs.Common.{sym, true, false, subst}
use Rattle.std.specs.Result.{IfErr}
use Rattle.mw_frame_texts.specs.LuaHeapValue.{is_nil}
use Rattle.mw_frame_texts.specs.LuaBasicSeen.{values_seen, Refuses}
use Rattle.mw_frame_texts.proofs.LuaBasicLists.{tested}
use Rattle.mw_ustrings.proofs.ReadArguments.{left_out, not_left_out}
use Rattle.mw_ustrings.proofs.arguments.text_or.Goals as goal

pub a_text-requires : goal.a_text-requires
a_text-requires c = c.requires

pub returns-then-is_nil-clause-found : goal.returns-then-is_nil-clause-found
returns-then-is_nil-clause-found c =
    let texts = c.args.store.now.texts in
    left_out c.args.default.now c.args.n c.args.function.now (values_seen texts c.args.given.now) (tested is_nil _ _ true (c.first.ensures.value texts) (c.if-is_nil.ensures texts))

pub returns-clause-found : goal.returns-clause-found
returns-clause-found c =
    let texts = c.args.store.now.texts in
    let some = tested is_nil _ _ false (c.first.ensures.value texts) (c.if-is_nil.ensures texts) in
    rw (not_left_out c.args.default.now c.args.n c.args.function.now (values_seen texts c.args.given.now) some) c.a_text.ensures.found

pub returns-clause-refused : goal.returns-clause-refused
returns-clause-refused c =
    let texts = c.args.store.now.texts in
    let some = tested is_nil _ _ false (c.first.ensures.value texts) (c.if-is_nil.ensures texts) in
    subst (λ a. IfErr c.a_text.result (Refuses a c.args.store.now c.a_text.new.store)) (sym (not_left_out c.args.default.now c.args.n c.args.function.now (values_seen texts c.args.given.now) some)) c.a_text.ensures.refused
