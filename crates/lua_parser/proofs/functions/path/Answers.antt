use Rattle.std.proofs.Common.{refl}
use Rattle.lua_reading.proofs.statements.PlainExits.{read_is, read_not}
use Rattle.lua_reading.proofs.functions.PathExits.{path_none, state_start, state_more, state_done, state_deep, state_unnamed, state_method, key_inside, index_is}
use Rattle.lua_parser.proofs.functions.path.Goals as goal

pub returns-in_default : goal.returns-in_default
returns-in_default c = rw c.fault_at.ensures (path_none _ c.args.context _ c.requires.inside (read_not c.class_at.ensures c.in_default.not-Name))

pub marks-init : goal.marks-init
marks-init c =
    state_start _ c.args.context _ _ c.requires.ended c.requires.inside c.requires.room (read_is c.class_at.ensures c.in-Name.is) c.in_ok-first.ensures.ok

pub returns-in_default-mark_of : goal.returns-in_default-mark_of
returns-in_default-mark_of c =
    let e = c.in_default-mark_of.ensures in
    state_done c.marks.invariant (read_not c.class_at-in-marks.ensures e.0, read_not c.class_at-in-marks.ensures e.1)

pub returns-then-context-height-gt200 : goal.returns-then-context-height-gt200
returns-then-context-height-gt200 c =
    rw c.fault_at-then-context-height-gt200.ensures (state_deep _ c.marks.invariant c.if-context-height-gt200.true (read_is c.class_at-in-marks.ensures c.in-Some.ensures))

pub class_at-requires-in-marks-2 : goal.class_at-requires-in-marks-2
class_at-requires-in-marks-2 c = key_inside _ c.requires.ended c.marks.invariant (read_is c.class_at-in-marks.ensures c.in-Some.ensures)

pub returns-in_default-class_at : goal.returns-in_default-class_at
returns-in_default-class_at c =
    rw c.fault_at-in_default-class_at.ensures (state_unnamed _ c.requires.ended c.marks.invariant c.if-context-height-gt200.false (read_is c.class_at-in-marks.ensures c.in-Some.ensures) (read_not c.class_at-in-marks-2.ensures c.in_default-class_at.not-Name))

pub copy_at-requires : goal.copy_at-requires
copy_at-requires c = key_inside _ c.requires.ended c.marks.invariant (read_is c.class_at-in-marks.ensures c.in-Some.ensures)

pub line_at-requires-in-marks : goal.line_at-requires-in-marks
line_at-requires-in-marks c = key_inside _ c.requires.ended c.marks.invariant (read_is c.class_at-in-marks.ensures c.in-Some.ensures)

pub returns-then-method : goal.returns-then-method
returns-then-method c =
    state_method _ _ c.requires.ended c.marks.invariant c.if-context-height-gt200.false c.if-method.true (read_is c.class_at-in-marks.ensures c.in-Some.ensures) (read_is c.class_at-in-marks-2.ensures c.in-Name-class_at.is)
    (index_is _ _ c.in_ok-path.ensures.ok refl c.line_at.ensures c.line_at-in-marks.ensures c.in_ok-bytes.ensures)

pub marks-preserved : goal.marks-preserved
marks-preserved c =
    state_more _ _ _ _ _ _ _ _ c.requires.ended c.marks.invariant c.if-context-height-gt200.false c.if-method.false (read_is c.class_at-in-marks.ensures c.in-Some.ensures) (read_is c.class_at-in-marks-2.ensures c.in-Name-class_at.is)
    (index_is _ _ c.in_ok-path.ensures.ok refl c.line_at.ensures c.line_at-in-marks.ensures c.in_ok-bytes.ensures)
