use Rattle.lua_strides.proofs.Paths.{idle_here}
use Rattle.lua_operators.proofs.Joins.{text_is}
use Rattle.lua_turns.proofs.joining.join.Goals as goal

pub returns-in-None : goal.returns-in-None
returns-in-None c = λ k. idle_here c.args.store.now c.args.state.now c.args.left.now k

pub returns-in-None-2 : goal.returns-in-None-2
returns-in-None-2 c = λ k. idle_here c.args.store.now c.args.state.now c.args.left.now k

pub join_texts-requires-clause-first : goal.join_texts-requires-clause-first
join_texts-requires-clause-first c = text_is _ c.in-Some.a _ _ c.in_ok-text_in.ensures c.in-Some.is c.as_slice.ensures

pub join_texts-requires-clause-second : goal.join_texts-requires-clause-second
join_texts-requires-clause-second c = text_is _ c.in-Some-2.b _ _ c.in_ok-text_in-in-Some.ensures c.in-Some-2.is c.as_slice-in-Some-2.ensures

pub returns : goal.returns
returns c = c.join_texts.ensures
