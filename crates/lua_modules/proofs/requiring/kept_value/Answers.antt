use Rattle.std.proofs.Common.{ap, Bool, true, if◌then◌else◌}
use Rattle.lua_code.specs.LuaHeapValue.{Truth}
use Rattle.lua_state.specs.LuaStoreSeen.{seen}
use Rattle.lua_modules.proofs.requiring.kept_value.Goals as goal

pub returns-then-is_nil-clause-seen : goal.returns-then-is_nil-clause-seen
returns-then-is_nil-clause-seen c = λ texts. ap (λ (b : Bool). if b then Truth true else seen texts c.args.value) (c.if-is_nil.ensures texts)

pub returns-clause-seen : goal.returns-clause-seen
returns-clause-seen c = λ texts. ap (λ (b : Bool). if b then Truth true else seen texts c.args.value) (c.if-is_nil.ensures texts)
