use Rattle.std.proofs.Common.{rules}
use Rattle.lua_store.proofs.Later.{later-itself}
use Rattle.lua_machine.proofs.frames.pass_frame.Goals as goal

-- (the frame is gone, and nothing else has changed)
pub returns-in-Expression : goal.returns-in-Expression
returns-in-Expression c = let same = later-itself c.args.store.now in search rules

pub returns-in-Constructor : goal.returns-in-Constructor
returns-in-Constructor c = let same = later-itself c.args.store.now in search rules

pub returns-in-Assignment : goal.returns-in-Assignment
returns-in-Assignment c = let same = later-itself c.args.store.now in search rules

pub returns-in-Statement : goal.returns-in-Statement
returns-in-Statement c = let same = later-itself c.args.store.now in search rules

pub returns-in-Loop : goal.returns-in-Loop
returns-in-Loop c = let same = later-itself c.args.store.now in search rules
