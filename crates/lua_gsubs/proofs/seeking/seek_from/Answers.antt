use Rattle.std.proofs.Common.{◌∙◌, ap, Err}
use Rattle.std.proofs.lemmas.Result.{err_from_is_err_and}
use Rattle.lua_replacing.specs.LuaStringWalk.{walk}
use Rattle.lua_replacing.specs.Seen.{stand_seen}
use Rattle.lua_gsubs.proofs.Sights.{walked_none, walked_error, walked_unpaid, walked_held}
use Rattle.lua_gsubs.proofs.seeking.seek_from.Goals as goal

pub returns-in-Err-clause-walked : goal.returns-in-Err-clause-walked
returns-in-Err-clause-walked g c =
    let a = g.A.Alphabet.letters in
    let p = c.args.pattern.now in
    let is = rw c.in-Err.is at c.meet.ensures.met in
    walked_error a c.args.s.now (stand_seen c.args.stand) p.slots (walk a p.anchored p.items c.args.s.now c.args.stand.at) c.args.store.now c.args.far.now c.args.left.now c.meet.new.left c.in-Err.stop is

pub returns-in-Ok-Nothing-clause-walked : goal.returns-in-Ok-Nothing-clause-walked
returns-in-Ok-Nothing-clause-walked g c =
    let a = g.A.Alphabet.letters in
    let p = c.args.pattern.now in
    let is = rw c.in-Ok-Nothing.field-0-is at c.in-Ok-Nothing.ensures.met in
    walked_none a c.args.s.now (stand_seen c.args.stand) p.slots (walk a p.anchored p.items c.args.s.now c.args.stand.at) c.args.store.now c.args.far.now c.args.left.now c.meet.new.left is

pub returns-in_err-pay-in-Ok-Found-clause-walked : goal.returns-in_err-pay-in-Ok-Found-clause-walked
returns-in_err-pay-in-Ok-Found-clause-walked g c =
    let a = g.A.Alphabet.letters in
    let p = c.args.pattern.now in
    let is = rw c.in-Ok-Found.field-0-is at c.in-Ok-Found.ensures.met in
    let q = err_from_is_err_and c.from_residual.result c.from_residual.ensures.1 in
    walked_unpaid a c.args.s.now (stand_seen c.args.stand) p.slots (walk a p.anchored p.items c.args.s.now c.args.stand.at) c.in-Ok-Found.found c.in-Ok-Found.next c.span-between.result.now c.args.store.now c.args.far.now
    c.args.left.now c.meet.new.left c.pay.new.left c.in_err-pay-in-Ok-Found.field-0.0 c.from_residual.result is c.span-between.ensures c.in_err-pay-in-Ok-Found.ensures (q.1 ∙ ap Err q.2)

pub hold_match-requires : goal.hold_match-requires
hold_match-requires g c = let within = rw c.in-Ok-Found.field-0-is at c.in-Ok-Found.ensures.within in within

pub returns-in_ok-sought-in-Ok-Found-clause-walked : goal.returns-in_ok-sought-in-Ok-Found-clause-walked
returns-in_ok-sought-in-Ok-Found-clause-walked g c =
    let a = g.A.Alphabet.letters in
    let p = c.args.pattern.now in
    let is = rw c.in-Ok-Found.field-0-is at c.in-Ok-Found.ensures.met in
    walked_held a c.args.s.now (stand_seen c.args.stand) p.slots (walk a p.anchored p.items c.args.s.now c.args.stand.at) c.in-Ok-Found.found c.in-Ok-Found.next c.span-between.result.now c.args.store.now c.hold_match.new.store
    c.args.far.now c.hold_match.new.far c.args.left.now c.meet.new.left c.pay.new.left c.in_ok-sought-in-Ok-Found.sought is c.span-between.ensures c.in_ok-pay-in-Ok-Found.ensures c.in_ok-sought-in-Ok-Found.ensures.holds_match
