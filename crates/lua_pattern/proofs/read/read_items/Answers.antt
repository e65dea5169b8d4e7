use Rattle.std.proofs.Common.{◌≤◌, Some, None, length, sym, ap, ◌∙◌, arith}
use Rattle.lua_pattern.specs.Read.{Fine, read_from, begun, last_open}
use Rattle.lua_pattern.proofs.Nexts.{read_ends}
use Rattle.lua_pattern.proofs.read.read_items.Goals as goal

pub returns-in-Some : goal.returns-in-Some
returns-in-Some g c =
    let none : length c.items.rest.now ≤ 0 = omega (arith, c.items-test.false) in
    read_ends (read_from c.args.anchored (length c.args.body.now) c.args.body.now begun) c.args.anchored c.items.turns c.items.rest.now c.items.reading (Some c.in-Some.field-0) c.items.invariant.same none
    (c.in-Some.ensures.value ∙ ap last_open c.as_slice.ensures)

pub returns-in-Ok-new : goal.returns-in-Ok-new
returns-in-Ok-new g c =
    let none : length c.items.rest.now ≤ 0 = omega (arith, c.items-test.false) in
    read_ends (read_from c.args.anchored (length c.args.body.now) c.args.body.now begun) c.args.anchored c.items.turns c.items.rest.now c.items.reading None c.items.invariant.same none
    (c.in-None.ensures.value ∙ ap last_open c.as_slice.ensures)
    ∙ ap (λ items. Fine c.args.anchored items c.items.reading.slots) (sym c.in-Ok-new.ensures)
    ∙ ap (λ slots. Fine c.args.anchored c.in-Ok-new.items slots) (sym c.into_list.ensures)
