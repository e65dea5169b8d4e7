use Rattle.lua_print.proofs.FrontLemmas.{comment_inside, comment_front, comment_ended}
use Rattle.lua_print.proofs.fronts.comment_front.Goals as goal

pub rest-requires : goal.rest-requires
rest-requires c = comment_inside c.args.left.now c.args.place c.args.token.now c.requires.next c.requires.elsewhere c.requires.dark

pub returns : goal.returns
returns c = comment_front c.args.left.now _ c.args.place _ c.args.token.now c.requires.next c.requires.elsewhere c.requires.dark c.rest.ensures c.in-Some.ensures

pub unreachable-requires : goal.unreachable-requires
unreachable-requires c = comment_ended c.args.left.now _ c.args.place c.args.token.now c.requires.next c.requires.elsewhere c.requires.dark c.rest.ensures c.in-None.ensures
