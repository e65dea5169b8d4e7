use Rattle.lua_number.proofs.Printed.{read_printed}
use Rattle.lua_number.proofs.printing.reads_back.Goals as goal

pub returns : goal.returns
returns c = read_printed c.args.n c.ranges.n
