use Rattle.std.proofs.Common.{◌∙◌, ap, Err}
use Rattle.std.proofs.lemmas.Result.{err_from_is_err_and}
use Rattle.lua_pattern.specs.Way.{first, answer_tries}
use Rattle.lua_gsubs.proofs.Searches.{met_none, met_found, met_spent, met_unpaid, met_no_memory, found_tries, place_ahead}
use Rattle.lua_gsubs.proofs.meeting.meet.Goals as goal

pub returns-in-Err-clause-met : goal.returns-in-Err-clause-met
returns-in-Err-clause-met g c =
    let a = g.A.Alphabet.letters in
    let p = c.args.pattern.now in
    met_no_memory a c.args.s.now p.anchored p.slots (first a p.anchored p.items c.args.s.now c.args.at) c.args.left.now c.args.left.now

pub returns-in-Ok-Spent-clause-met : goal.returns-in-Ok-Spent-clause-met
returns-in-Ok-Spent-clause-met g c =
    let a = g.A.Alphabet.letters in
    let p = c.args.pattern.now in
    let found = rw c.in-Ok-Spent.field-0-is at c.in-Ok-Spent.ensures.first in
    met_spent a c.args.s.now p.anchored p.slots (first a p.anchored p.items c.args.s.now c.args.at) c.args.left.now c.spend.new.left c.spend.result found c.spend.ensures.stop_ c.spend.ensures.rest

pub returns-in_err-pay-in-Ok-NotFound-clause-met : goal.returns-in_err-pay-in-Ok-NotFound-clause-met
returns-in_err-pay-in-Ok-NotFound-clause-met g c =
    let a = g.A.Alphabet.letters in
    let p = c.args.pattern.now in
    let found = rw c.in-Ok-NotFound.field-0-is at c.in-Ok-NotFound.ensures.first in
    let q = err_from_is_err_and c.from_residual.result c.from_residual.ensures.1 in
    met_unpaid a c.args.s.now p.anchored p.slots (first a p.anchored p.items c.args.s.now c.args.at) c.in-Ok-NotFound.tries c.args.left.now c.pay.new.left c.in_err-pay-in-Ok-NotFound.field-0.0 c.from_residual.result
    (ap answer_tries found.1) c.in_err-pay-in-Ok-NotFound.ensures (q.1 ∙ ap Err q.2)

pub returns-in_ok-pay-in-Ok-NotFound-clause-met : goal.returns-in_ok-pay-in-Ok-NotFound-clause-met
returns-in_ok-pay-in-Ok-NotFound-clause-met g c =
    let a = g.A.Alphabet.letters in
    let p = c.args.pattern.now in
    let found = rw c.in-Ok-NotFound.field-0-is at c.in-Ok-NotFound.ensures.first in
    met_none a c.args.s.now p.anchored p.slots (first a p.anchored p.items c.args.s.now c.args.at) c.in-Ok-NotFound.tries c.args.left.now c.pay.new.left found.1 c.in_ok-pay-in-Ok-NotFound.ensures

pub returns-in_err-pay-in-Ok-Found-clause-met : goal.returns-in_err-pay-in-Ok-Found-clause-met
returns-in_err-pay-in-Ok-Found-clause-met g c =
    let a = g.A.Alphabet.letters in
    let p = c.args.pattern.now in
    let found = rw c.in-Ok-Found.field-0-is at c.in-Ok-Found.ensures.first in
    let q = err_from_is_err_and c.from_residual-in_err-pay-in-Ok-Found.result c.from_residual-in_err-pay-in-Ok-Found.ensures.1 in
    let answer = first a p.anchored p.items c.args.s.now c.args.at in
    met_unpaid a c.args.s.now p.anchored p.slots answer c.in-Ok-Found.tries c.args.left.now c.pay-in-Ok-Found.new.left c.in_err-pay-in-Ok-Found.field-0.0 c.from_residual-in_err-pay-in-Ok-Found.result
    (found_tries a c.args.s.now p.anchored p.slots answer c.in-Ok-Found.found c.in-Ok-Found.tries found.1) c.in_err-pay-in-Ok-Found.ensures (q.1 ∙ ap Err q.2)

pub returns-in_ok-pay-in-Ok-Found-clause-met : goal.returns-in_ok-pay-in-Ok-Found-clause-met
returns-in_ok-pay-in-Ok-Found-clause-met g c =
    let a = g.A.Alphabet.letters in
    let p = c.args.pattern.now in
    let found = rw c.in-Ok-Found.field-0-is at c.in-Ok-Found.ensures.first in
    rw c.next_place-next.ensures (met_found a c.args.s.now p.anchored p.slots (first a p.anchored p.items c.args.s.now c.args.at) c.in-Ok-Found.found c.in-Ok-Found.tries c.args.left.now c.pay-in-Ok-Found.new.left found.1 c.in_ok-pay-in-Ok-Found.ensures)

pub returns-in_ok-pay-in-Ok-Found-clause-within : goal.returns-in_ok-pay-in-Ok-Found-clause-within
returns-in_ok-pay-in-Ok-Found-clause-within g c =
    let a = g.A.Alphabet.letters in
    let p = c.args.pattern.now in
    let found = rw c.in-Ok-Found.field-0-is at c.in-Ok-Found.ensures.first in
    rw c.next_place-next.ensures (place_ahead a g.met.A.Alphabet.lawful c.args.s.now p.anchored p.items p.slots c.args.at c.in-Ok-Found.found c.in-Ok-Found.tries c.requires found.1)
