use Rattle.lua_blocks.proofs.Parts.{nothing_given}
use Rattle.lua_blocks.proofs.exits.nothing.Goals as goal

pub returns : goal.returns
returns c = λ l. nothing_given c.args.store.now c.args.state.now l c.new.result c.new.ensures c.requires
