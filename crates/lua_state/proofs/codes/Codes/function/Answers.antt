use Rattle.lua_state.proofs.FoundCode.{function_is}
use Rattle.lua_state.proofs.codes.Codes.function.Goals as goal

pub returns-in-Some-clause-codes : goal.returns-in-Some-clause-codes
returns-in-Some-clause-codes c = c.remember.ensures.codes c.args.store.now c.requires.codes (rw c.in-Some.is at (c.find.ensures c.args.store.now c.requires.codes))

pub returns-in-Some-clause-found : goal.returns-in-Some-clause-found
returns-in-Some-clause-found c =
    let k = rw c.in-Some.is at (c.find.ensures c.args.store.now c.requires.codes) in
    function_is _ _ c.args.index _ k.code c.get-function.ensures
