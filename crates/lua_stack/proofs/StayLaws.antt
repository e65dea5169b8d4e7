-- What a machine holds stays: the laws.
use Rattle.lua_stack.specs.Laws.{RegistersStay, ActivationsStay, FramesStay, FocusStays, EnvironmentStays}
use Rattle.lua_stack.proofs.Stay.{registers_later, registers_as, activations_later, activations_as, frames_later, frames_as, focus_later, focus_as, environment_later}

pub registers_stay : RegistersStay
registers_stay s t regs l h = (registers_later s t l regs h, registers_as s t l regs h)

pub activations_stay : ActivationsStay
activations_stay s t fs l h = (activations_later s t l fs h, activations_as s t l fs h)

pub frames_stay : FramesStay
frames_stay s t fs l h = (frames_later s t l fs h, frames_as s t l fs h)

pub focus_stays : FocusStays
focus_stays s t f fs l h = (focus_later s t l f h, focus_as s t l f fs h)

pub environment_stays : EnvironmentStays
environment_stays s t e l h = environment_later s t l e h
