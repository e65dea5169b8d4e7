use Rattle.std.proofs.Common.{◌<◌, ◌≤◌, rules, arith}
use Rattle.lua_table.proofs.BorderLemmas.{border-marked, border-end}
use Rattle.lua_table.proofs.table.Table.border.Goals as goal

pub returns-then-place-self : goal.returns-then-place-self
returns-then-place-self g c =
    let told = c.self.invariant.0 in
    let most : c.self.inside.run ≤ 9223372036854775807 = told.most in
    let within : c.in-Some.place < c.self.inside.run = c.if-place-self.true in
    let small : c.in-Some.place ≤ 9223372036854775807 = omega arith in (
      c.in-Some.place,
      search rules,
      rw (← c.self.view_is)
          (border-marked g.V.PartialEq.eq g.V.Slot.nil_value g.V.Slot.number_of c.self.inside.entries c.self.inside.holes c.self.inside.run told g.met.V.Eq.laws g.met.V.Slot.same
          c.in-Some.place within c.in-Some.ensures.found.1 c.in-Some.ensures.found.2),
    )

pub returns-else-place-self : goal.returns-else-place-self
returns-else-place-self g c =
    let told = c.self.invariant.0 in
    let most : c.self.inside.run ≤ 9223372036854775807 = told.most in
    let past : c.self.inside.run ≤ c.in-Some.place = c.if-place-self.false in (
      c.self.inside.run,
      search rules,
      rw (← c.self.view_is)
          (border-end g.V.PartialEq.eq g.V.Slot.nil_value g.V.Slot.number_of c.self.inside.entries c.self.inside.holes c.self.inside.run told g.met.V.Eq.laws g.met.V.Slot.same
          (λ k low. c.in-Some.ensures.found.2 k (omega arith))),
    )

pub returns-in-None : goal.returns-in-None
returns-in-None g c =
    let told = c.self.invariant.0 in
    let most : c.self.inside.run ≤ 9223372036854775807 = told.most in (
      c.self.inside.run,
      search rules,
      rw (← c.self.view_is)
          (border-end g.V.PartialEq.eq g.V.Slot.nil_value g.V.Slot.number_of c.self.inside.entries c.self.inside.holes c.self.inside.run told g.met.V.Eq.laws g.met.V.Slot.same
          (λ k low. c.in-None.ensures.absent k)),
    )
