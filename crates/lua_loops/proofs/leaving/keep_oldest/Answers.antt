use Rattle.lua_loops.proofs.Left.{kept_of, kept_seen}
use Rattle.lua_loops.proofs.leaving.keep_oldest.Goals as goal

pub returns-clause-of : goal.returns-clause-of
returns-clause-of c = λ s h. kept_of s c.args.depth c.args.regs.now c.cut.new.self c.cut.ensures h

pub returns-clause-cuts : goal.returns-clause-cuts
returns-clause-cuts c = λ texts. kept_seen texts c.args.depth c.args.regs.now c.cut.new.self c.cut.ensures
