use Rattle.std.proofs.Common.{◌+◌, ◌∙◌, pos, arith, refl, sym, ap}
use Rattle.lua_table.proofs.FrontLemmas.{insert-here, past_from, put-front, put-rest, absent-past, absent-empty}
use Rattle.lua_table.proofs.entries.Entries.put.Goals as goal
use Rattle.lua_table.proofs.entries.Entries.put.Goals.{in-Ok, in-Err, in-Ok-insert, in-Err-insert}

pub returns-in-Some-clause-ok : goal.returns-in-Some-clause-ok
returns-in-Some-clause-ok g c =
    let here = insert-here g.V.PartialEq.eq g.V.Slot.number_of g.met.V.Eq.laws g.met.V.Slot.same g.V.Slot.whole_of g.met.V.Slot.reads_back
    0 c.in-Some.at (c.in-Some.at + 1) c.self.inside.front.items c.self.inside.rest.entries c.args.value (omega arith) (omega (arith, c.in-Some.ensures.found.0, c.len-count.ensures, c.self.inside.front.ok.0)) in
    rw (← c.self.view_is, c.in-Some.ensures.found.1) (sym here)

pub returns-after-push-clause-ok : goal.returns-after-push-clause-ok
returns-after-push-clause-ok g c =
    let count = c.len-count.ensures ∙ c.self.inside.front.ok.0 in
    let past = past_from g.V.PartialEq.eq g.V.Slot.number_of g.met.V.Slot.same c.args.key c.len-count.result c.self.inside.front.items count c.in-None.ensures.absent in
    elim c.match-push.branch [
      | in-Ok w ↦ rw (w.result-is, ← c.self.view_is) (put-front g.V.PartialEq.eq g.V.Slot.number_of c.args.key c.self.inside.front.items c.self.inside.rest.entries past
          c.push.new.self.items c.args.value (c.if-goes_to_front.ensures refl).0 w.in-Ok.ensures.items ((c.if-goes_to_front.ensures refl).1 ∙ ap (λ n. g.V.Slot.number_of (pos (n + 1))) count))
      | in-Err w ↦ rw w.result-is tt
    ]

pub returns-after-push-clause-absent : goal.returns-after-push-clause-absent
returns-after-push-clause-absent g c =
    let count = c.len-count.ensures ∙ c.self.inside.front.ok.0 in
    let past = past_from g.V.PartialEq.eq g.V.Slot.number_of g.met.V.Slot.same c.args.key c.len-count.result c.self.inside.front.items count c.in-None.ensures.absent in
    elim c.match-push.branch [
      | in-Ok w ↦ rw w.result-is tt
      | in-Err w ↦ rw (w.result-is, ← c.self.view_is) (absent-empty g.V.PartialEq.eq g.V.Slot.number_of c.args.key c.self.inside.front.items c.self.inside.rest.entries past (c.if-goes_to_front.ensures refl).0)
    ]

pub returns-after-insert-clause-ok : goal.returns-after-insert-clause-ok
returns-after-insert-clause-ok g c =
    let count = c.len-count.ensures ∙ c.self.inside.front.ok.0 in
    let past = past_from g.V.PartialEq.eq g.V.Slot.number_of g.met.V.Slot.same c.args.key c.len-count.result c.self.inside.front.items count c.in-None.ensures.absent in
    elim c.match-insert.branch [
      | in-Ok-insert w ↦ rw (w.result-is, ← c.self.view_is) (put-rest g.V.PartialEq.eq g.V.Slot.number_of c.args.key c.self.inside.front.items c.self.inside.rest.entries past
          c.insert.new.self.entries c.args.value w.in-Ok-insert.ensures.entries)
      | in-Err-insert w ↦ rw w.result-is tt
    ]

pub returns-after-insert-clause-absent : goal.returns-after-insert-clause-absent
returns-after-insert-clause-absent g c =
    let count = c.len-count.ensures ∙ c.self.inside.front.ok.0 in
    let past = past_from g.V.PartialEq.eq g.V.Slot.number_of g.met.V.Slot.same c.args.key c.len-count.result c.self.inside.front.items count c.in-None.ensures.absent in
    elim c.match-insert.branch [
      | in-Ok-insert w ↦ rw w.result-is tt
      | in-Err-insert w ↦ rw (w.result-is, ← c.self.view_is) (absent-past g.V.PartialEq.eq g.V.Slot.number_of c.args.key c.self.inside.front.items c.self.inside.rest.entries past w.in-Err-insert.ensures.absent)
    ]
