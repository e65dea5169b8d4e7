use Rattle.std.proofs.Common.{◌∙◌, ap, sym, true, false, Ok, codes}
use Rattle.lua_strings.specs.LuaHeapValue.{is_nil, is_true}
use Rattle.lua_strings.specs.LuaMeaningMessages.{bad_argument, expected}
use Rattle.lua_strings.specs.LuaBasicSeen.{values_seen}
use Rattle.lua_strings.proofs.LuaBasicLists.{tested}
use Rattle.lua_strings.proofs.LuaBasicFound.{refused}
use Rattle.mw_htmls.proofs.Given.{no_options, options, bad_options}
use Rattle.mw_htmls.proofs.arguments.closing_option.Goals as goal

pub returns-then-is_nil-clause-found : goal.returns-then-is_nil-clause-found
returns-then-is_nil-clause-found c =
    let texts = c.args.store.now.texts in
    no_options c.args.store.now.heap c.args.n c.args.function.now (values_seen texts c.args.given.now) (tested is_nil _ _ true (c.first.ensures.value texts) (c.if-is_nil.ensures texts))

pub returns-in_ok-closing-in-Some-clause-found : goal.returns-in_ok-closing-in-Some-clause-found
returns-in_ok-closing-in-Some-clause-found c =
    let s = c.args.store.now in
    let given = values_seen s.texts c.args.given.now in
    options s.heap c.args.n c.args.function.now given c.in-Some.table.at (c.in-Some.ensures.table s.texts c.args.n c.args.function.now)
    ∙ ap (λ v. Ok (is_true v)) (sym c.in_ok-closing-in-Some.ensures.value) ∙ ap Ok (sym (c.is_true.ensures c.field.new.store.texts))

pub returns-in-None-clause-refused : goal.returns-in-None-clause-refused
returns-in-None-clause-refused c =
    let s = c.args.store.now in
    let given = values_seen s.texts c.args.given.now in
    let some = tested is_nil _ _ false (c.first.ensures.value s.texts) (c.if-is_nil.ensures s.texts) in
    refused _ (bad_argument c.args.n c.args.function.now (expected (codes "table") given)) s c.refuse_kind.new.store c.refuse_kind.result
    (bad_options s.heap c.args.n c.args.function.now given _ some (c.in-None.ensures.table s.texts c.args.n c.args.function.now)) c.refuse_kind.ensures.raises
