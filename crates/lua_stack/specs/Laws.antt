-- WHAT A MACHINE HOLDS STAYS: what is of a store is of each later one, and is seen there as it was.
use Rattle.std.specs.Prelude.{◌≡◌, List}
use Rattle.lua_store.specs.Seen.{StoreView}
use Rattle.lua_store.specs.Parts.{IsLater}
use Rattle.lua_code.specs.LuaSlotsPoints.{SFrame}
use Rattle.lua_stack.specs.declared.register.Slot.{Slot}
use Rattle.lua_stack.specs.declared.activation.Activation.{Activation}
use Rattle.lua_stack.specs.declared.frame.Frame.{Frame}
use Rattle.lua_stack.specs.declared.focus.Focus.{Focus}
use Rattle.lua_stack.specs.declared.environment.Environment.{Environment}
use Rattle.lua_stack.specs.Seen.{registers_seen, activations_seen, frames_seen, focus_seen}
use Rattle.lua_stack.specs.Of.{RegistersOf, ActivationsOf, FramesOf, FocusOf, EnvironmentOf}

abbrev pub RegistersStay : Type 0
RegistersStay = (s t : StoreView) (regs : List Slot) → IsLater s t → RegistersOf s regs → RegistersOf t regs × (registers_seen t.texts regs ≡ registers_seen s.texts regs)

abbrev pub ActivationsStay : Type 0
ActivationsStay = (s t : StoreView) (fs : List Activation) → IsLater s t → ActivationsOf s fs → ActivationsOf t fs × (activations_seen t fs ≡ activations_seen s fs)

abbrev pub FramesStay : Type 0
FramesStay = (s t : StoreView) (fs : List Frame) → IsLater s t → FramesOf s fs → FramesOf t fs × (frames_seen t.texts fs ≡ frames_seen s.texts fs)

abbrev pub FocusStays : Type 0
FocusStays = (s t : StoreView) (f : Focus) (fs : List SFrame) → IsLater s t → FocusOf s f → FocusOf t f × (focus_seen t f fs ≡ focus_seen s f fs)

abbrev pub EnvironmentStays : Type 0
EnvironmentStays = (s t : StoreView) (e : Environment) → IsLater s t → EnvironmentOf s e → EnvironmentOf t e
