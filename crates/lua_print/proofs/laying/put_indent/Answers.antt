use Rattle.std.proofs.Common.{sym, refl, append-nil}
use Rattle.lua_print.proofs.LayLemmas.{indent_more}
use Rattle.lua_print.proofs.laying.put_indent.Goals as goal

pub loop-done-init : goal.loop-done-init
loop-done-init c = sym (append-nil c.args.made.now.items)

pub loop-done-preserved : goal.loop-done-preserved
loop-done-preserved c = indent_more _ c.loop-done.made.items c.put.new.made.items c.loop-done._done _ c.loop-done.invariant c.in_ok-put.ensures refl
