-- Errors at a level.
use Rattle.std.proofs.Common.{◌≡◌, subst, Option}
use Rattle.std.specs.Option.{option_map}
use Rattle.page_run.specs.WkBaseDeclaredLeftLeft.{Left}
use Rattle.lua_code.specs.LuaMeaningScope.{Bytes, Place}
use Rattle.lua_state.specs.LuaStoreSeen.{StoreView}
use Rattle.lua_state.specs.LuaStoreParts.{IsLater}
use Rattle.lua_state.specs.LuaSlotsErrors.{raises}
use Rattle.lua_state.specs.LuaStackDeclaredActivationLevel.{Level}
use Rattle.lua_state.specs.LuaStackDeclaredRaisingRaising.{Raising}
use Rattle.lua_state.specs.LuaStackSeen.{level_seen}
use Rattle.lua_state.specs.LuaStackRaised.{RaisingOf}
use Rattle.lua_state.specs.declared.state.State.{State}
use Rattle.lua_state.specs.Seen.{slots_of, frames_of}
use Rattle.lua_state.specs.Of.{StateOf}
use Rattle.lua_state.specs.Makes.{Makes}
use Rattle.lua_state.proofs.Raised.{turn_of, Raises, raised_at}

-- where a turn is known to be what the error comes to
pub raised_as : (s t : StoreView) (m : State) (l l' : Left) (p : Option Place) (place : Option Level) (message : Bytes) (r z : Raising) → r ≡ z → StateOf s m → IsLater s t → t.heap ≡ s.heap → RaisingOf t r
    → option_map (level_seen s.texts) place ≡ p → Raises s l t l' place message r → Makes s m l t m l' (raises p message (frames_of s m) (slots_of s m)) (turn_of z)
raised_as s t m l l' p place message r z e of later heap raised at move_ =
    subst (λ (y : Raising). Makes s m l t m l' (raises p message (frames_of s m) (slots_of s m)) (turn_of y)) e (raised_at s t m l l' p place message r of later heap raised at move_)
