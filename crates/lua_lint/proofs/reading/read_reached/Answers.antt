use Rattle.std.proofs.Common.{◌≡◌, ◌∙◌, ◌+◌, ◌-◌, ◌<◌, suc, sym, length, arith}
use Rattle.std.specs.Prelude.{Some, None, slice_get}
use Rattle.lua_lint.specs.Reading.{modules_seen, reads_seen}
use Rattle.lua_lint.proofs.ReadingLemmas.{reach_none, reads_end, reads_next}
use Rattle.lua_lint.proofs.reading.read_reached.Goals as goal

pub returns-in_default : goal.returns-in_default
returns-in_default c =
    let modules = modules_seen c.args.modules.now in
    let none : slice_get c.loop-next.seen.keys c.loop-next.next ≡ None = sym (c.in_default.ensures ∙ c.get_index.ensures.key) in
    reads_end modules (reads_seen c.loop-next.all) _ _ (reach_none modules (length c.args.modules.now - c.loop-next.next) c.loop-next.next c.loop-next.seen.keys none) c.loop-next.invariant

pub loop-next-preserved : goal.loop-next-preserved
loop-next-preserved c =
    let modules = modules_seen c.args.modules.now in
    let place = c.in-Some.place in
    let after : c.loop-next.next + 1 ≡ suc c.loop-next.next = omega arith in
    let less : c.loop-next.next < length c.args.modules.now = omega arith in
    let some : slice_get c.loop-next.seen.keys c.loop-next.next ≡ Some c.in-Some.place = sym (c.in-Some.ensures ∙ c.get_index.ensures.key) in
    reads_next modules (length c.args.modules.now) c.loop-next.next (c.loop-next.next + 1) c.loop-next.seen.keys c.read_behind.new.seen.keys place
    (reads_seen c.loop-next.all) (reads_seen c.read_behind.new.all) _ after less some (c.in_ok-read_behind.ensures.seen c.requires) c.in_ok-read_behind.ensures.all c.loop-next.invariant
