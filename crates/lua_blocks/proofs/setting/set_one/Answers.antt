use Rattle.lua_blocks.proofs.setting.set_one.Goals as goal

pub returns-in-Variable : goal.returns-in-Variable
returns-in-Variable c = rw c.in-Variable.is (c.set_place.ensures c.args.left.now)

pub returns-in-Global : goal.returns-in-Global
returns-in-Global c = rw c.in-Global.is c.set_global.ensures

pub returns-in-At : goal.returns-in-At
returns-in-At c = rw c.in-At.is c.set_entry.ensures
