use Rattle.lua_state.proofs.FoundCode.{constant_is}
use Rattle.lua_state.proofs.codes.Codes.constant_bytes.Goals as goal

pub returns-in-Some : goal.returns-in-Some
returns-in-Some c =
    let k = rw c.in-Some.is at (c.find.ensures c.args.store.now c.requires.codes) in
    constant_is _ _ c.args.number _ k.code c.constant.ensures

pub returns-in_ok-code-in-None : goal.returns-in_ok-code-in-None
returns-in_ok-code-in-None c = c.constant_in.ensures _ c.in_ok-code-in-None.ensures
