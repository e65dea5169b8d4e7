use Rattle.std.proofs.Common.{◌≤◌, arith}
use Rattle.lua_print.proofs.FrontLemmas.{token_ends, token_front}
use Rattle.lua_print.proofs.fronts.token_front.Goals as goal

pub overflow_sub-size : goal.overflow_sub-size
overflow_sub-size c =
    let ends : c.args.place ≤ c.args.token.now.end = token_ends c.args.left.now c.args.place c.args.token.now c.requires.next c.requires.here in
    omega (arith, ends)

pub returns : goal.returns
returns c = token_front c.args.left.now c.args.place _ c.args.token.now _ c.requires.next c.requires.here c.class_of.ensures (omega arith)
