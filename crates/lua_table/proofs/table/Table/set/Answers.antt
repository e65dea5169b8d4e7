use Rattle.std.proofs.Common.{rules, ap, sym, ◌∙◌, is_some, true≢false}
use Rattle.lua_table.proofs.BorderLemmas.{table-set}
use Rattle.lua_table.proofs.SetLemmas.{set_at-stored, set_at-skipped}
use Rattle.lua_table.proofs.table.Table.set.Goals as goal

pub returns-then-there-cleared-clause-ok : goal.returns-then-there-cleared-clause-ok
returns-then-there-cleared-clause-ok g c =
    let same = set_at-skipped g.V.PartialEq.eq g.V.Slot.nil_value c.self.inside.entries c.args.key c.args.value c.is_some-there.result c.is_nil-cleared.result
    (c.is_some-there.ensures ∙ ap is_some c.get.ensures) c.is_nil-cleared.ensures.test c.if-there-cleared.true in
    rw (← c.self.view_is) (search (rules, same))

pub returns-in-Ok-put-clause-ok : goal.returns-in-Ok-put-clause-ok
returns-in-Ok-put-clause-ok g c =
    let stored = set_at-stored g.V.PartialEq.eq g.V.Slot.nil_value c.self.inside.entries c.args.key c.args.value c.is_some-there.result c.is_nil-cleared.result
    (c.is_some-there.ensures ∙ ap is_some c.get.ensures) c.is_nil-cleared.ensures.test c.if-there-cleared.false in
    let is = c.in-Ok-put.ensures.ok ∙ sym stored in
    rw (← c.self.view_is) (search (rules, is))

pub invariant_of-self-in-Ok-put : goal.invariant_of-self-in-Ok-put
invariant_of-self-in-Ok-put g c =
    let stored = set_at-stored g.V.PartialEq.eq g.V.Slot.nil_value c.self.inside.entries c.args.key c.args.value c.is_some-there.result c.is_nil-cleared.result
    (c.is_some-there.ensures ∙ ap is_some c.get.ensures) c.is_nil-cleared.ensures.test c.if-there-cleared.false in
    table-set g.V.PartialEq.eq g.V.Slot.nil_value g.V.Slot.number_of g.met.V.Eq.laws g.met.V.Slot.same c.self.inside.entries c.args.key c.args.value
    _ _ _ c.is_nil-cleared.result _ (c.in-Ok-put.ensures.ok ∙ sym stored) (λ h. true≢false (sym (c.if-is_nil.ensures.exact.1 h))) c.self.invariant.1
    c.in-Ok.ensures.ok c.is_nil-cleared.ensures.test c.mark_key.ensures.longer c.mark_key.ensures.here c.mark_key.ensures.others
