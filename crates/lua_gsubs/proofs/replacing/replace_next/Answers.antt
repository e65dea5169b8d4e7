use Rattle.std.proofs.Common.{refl, None}
use Rattle.lua_replacing.specs.LuaStringWalk.{walk}
use Rattle.lua_replacing.specs.declared.far.Far.{Far}
use Rattle.lua_replacing.specs.Seen.{stand_seen}
use Rattle.lua_gsubs.proofs.Walked.{step_meets, step_stops, step_halts}
use Rattle.lua_gsubs.proofs.replacing.replace_next.Goals as goal

pub returns-in-Err-clause-part : goal.returns-in-Err-clause-part
returns-in-Err-clause-part g c = λ whole l limit part.
    let a = g.A.Alphabet.letters in
    let p = c.args.pattern.now in
    let is = rw c.in-Err.is at c.meet.ensures.met in
    rw c.halt_of.ensures (step_halts a p.anchored p.items p.slots c.args.s.now c.args.replacement.now whole (stand_seen c.args.stand) limit (walk a p.anchored p.items c.args.s.now c.args.stand.at) l c.args.left.now c.meet.new.left c.args.far.now c.in-Err.stop part is)

pub returns-in-Ok-Nothing-clause-part : goal.returns-in-Ok-Nothing-clause-part
returns-in-Ok-Nothing-clause-part h c = λ whole l limit part.
    let a = h.A.Alphabet.letters in
    let p = c.args.pattern.now in
    let is = rw c.in-Ok-Nothing.field-0-is at c.in-Ok-Nothing.ensures.met in
    let g : Far = record c.args.far.now { next = None } in
    step_stops a p.anchored p.items p.slots c.args.s.now c.args.replacement.now whole (stand_seen c.args.stand) limit (walk a p.anchored p.items c.args.s.now c.args.stand.at) l c.args.left.now c.meet.new.left c.args.far.now g part is refl refl refl refl

pub put_match-requires : goal.put_match-requires
put_match-requires g c = let within = rw c.in-Ok-Found.field-0-is at c.in-Ok-Found.ensures.within in within

pub returns-in-Ok-Found-clause-part : goal.returns-in-Ok-Found-clause-part
returns-in-Ok-Found-clause-part g c = λ whole l limit part.
    let a = g.A.Alphabet.letters in
    let p = c.args.pattern.now in
    let is = rw c.in-Ok-Found.field-0-is at c.in-Ok-Found.ensures.met in
    step_meets a p.anchored p.items p.slots c.args.s.now c.args.replacement.now whole (stand_seen c.args.stand) limit (walk a p.anchored p.items c.args.s.now c.args.stand.at) c.in-Ok-Found.found c.in-Ok-Found.next l c.args.left.now c.meet.new.left c.put_match.new.left c.args.far.now c.put_match.new.far c.put_match.result part is c.put_match.ensures.replaced
