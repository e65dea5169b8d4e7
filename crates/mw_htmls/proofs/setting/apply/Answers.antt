use Rattle.std.proofs.Common.{ap}
use Rattle.std.specs.Option.{option_map}
use Rattle.lua_strings.specs.LuaBasicArguments.{text_bytes}
use Rattle.mw_htmls.proofs.setting.apply.Goals as goal

pub returns-in-Some-clause-set : goal.returns-in-Some-clause-set
returns-in-Some-clause-set c =
    let set = rw (c.as_slice.ensures, c.as_slice-in-Some.ensures) at c.set.ensures.set in
    rw (ap (option_map text_bytes) c.in-Some.is) set

pub returns-in-None-clause-set : goal.returns-in-None-clause-set
returns-in-None-clause-set c =
    let set = rw c.as_slice-in-None.ensures at c.set-in-None.ensures.set in
    rw (ap (option_map text_bytes) c.in-None.is) set
