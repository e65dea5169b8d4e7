use Rattle.std.proofs.Common.{◌<◌, ◌∙◌, ap, sym, true, false, arith, rules, length}
use Rattle.std.proofs.lemmas.List.{length-map}
use Rattle.lua_basic.specs.LuaMeaningValues.{first}
use Rattle.lua_basic.specs.LuaStoreSeen.{seen}
use Rattle.lua_basic.specs.Seen.{values_seen}
use Rattle.lua_basic.proofs.Lists.{tested}
use Rattle.lua_basic.specs.LuaMeaningTableLibrary.{walk, may_stand, is_number}
use Rattle.lua_tables.proofs.Orders.{number_list, text_list}
use Rattle.lua_tables.proofs.ordering.in_order.Goals as goal

pub returns-then-is_number-clause-values : goal.returns-then-is_number-clause-values
returns-then-is_number-clause-values c =
    let texts = c.args.store.now.texts in
    let vs = values_seen texts c.args.values.now in
    let size = length-map c.args.values.now (seen texts) in
    let long : 1 < length c.args.values.now = search rules in
    let more : 1 < length vs = omega (arith, size, long) in
    let is = tested is_number _ _ true (c.first.ensures.value texts) (c.if-is_number.ensures texts) in
    let kinds = ap (λ n. walk (may_stand n (first vs)) vs) size ∙ c.requires.kinds in
    c.in_ok-numbers.ensures.values texts ∙ sym (number_list vs more is kinds)

pub returns-then-is_number-clause-of : goal.returns-then-is_number-clause-of
returns-then-is_number-clause-of c = c.in_ok-numbers.ensures.of c.args.store.now

pub returns-clause-values : goal.returns-clause-values
returns-clause-values c =
    let texts = c.args.store.now.texts in
    let vs = values_seen texts c.args.values.now in
    let size = length-map c.args.values.now (seen texts) in
    let long : 1 < length c.args.values.now = search rules in
    let more : 1 < length vs = omega (arith, size, long) in
    let is = tested is_number _ _ false (c.first.ensures.value texts) (c.if-is_number.ensures texts) in
    let kinds = ap (λ n. walk (may_stand n (first vs)) vs) size ∙ c.requires.kinds in
    c.in_ok-texts.ensures.values ∙ sym (text_list vs more is kinds)
