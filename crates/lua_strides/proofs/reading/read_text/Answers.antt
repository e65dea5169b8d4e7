use Rattle.std.proofs.Common.{ap, sym, Some}
use Rattle.lua_code.specs.LuaHeapValue.{Text}
use Rattle.lua_state.specs.Seen.{constants_in}
use Rattle.lua_strides.proofs.reading.read_text.Goals as goal

pub returns-in-Some : goal.returns-in-Some
returns-in-Some c s of =
    let known = rw c.in-Some.is at (c.constant_at_hand.ensures s of) in
    c.read_with.ensures s (Some (Text (constants_in s c.args.state.now c.args.number))) (known.of, ap (λ b. Some (Text b)) (sym known.is))
