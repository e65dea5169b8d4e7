use Rattle.lua_turns.proofs.waiting.of_list.Goals as goal

pub returns : goal.returns
returns c = λ fs h. (c.args.before.now, h)
