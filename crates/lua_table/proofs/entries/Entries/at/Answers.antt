use Rattle.std.proofs.Common.{rules, arith, sym, ◌∙◌, ◌+◌, ◌-◌}
use Rattle.lua_table.proofs.FrontLemmas.{at_front, at_rest, past_end}
use Rattle.lua_table.proofs.entries.Entries.at.Goals as goal

pub returns-then-place-count : goal.returns-then-place-count
returns-then-place-count g c =
    let here = at_front g.V.Slot.number_of 0 c.args.place (c.args.place + 1) c.self.inside.front.items c.self.inside.rest.entries c.item_at.result (omega arith) (rw c.deref.ensures.value at c.item_at.ensures) in
    rw (← c.self.view_is) (grind (arith, rules, here, c.number.ensures, c.self.inside.front.ok.0, c.len-count.ensures, c.if-place-count.true))

pub returns-then-later-len : goal.returns-then-later-len
returns-then-later-len g c =
    rw (← c.self.view_is) (sym c.entry_at.ensures ∙ sym (at_rest g.V.Slot.number_of 0 c.args.place (c.args.place - c.len-count.result) c.self.inside.front.items c.self.inside.rest.entries (omega (arith, c.len-count.ensures, c.self.inside.front.ok.0, c.if-place-count.false))))

pub returns : goal.returns
returns g c =
    rw (← c.self.view_is) (sym (at_rest g.V.Slot.number_of 0 c.args.place (c.args.place - c.len-count.result) c.self.inside.front.items c.self.inside.rest.entries (omega (arith, c.len-count.ensures, c.self.inside.front.ok.0, c.if-place-count.false))
    ∙ past_end c.self.inside.rest.entries (c.args.place - c.len-count.result) (omega (arith, c.len.ensures.len, c.if-later-len.false))))
