-- When all that a machine holds names only what a store has.
use Rattle.std.specs.Prelude.{◌≡◌, ℕ}
use Rattle.std.specs.List.{AllByRecursion}
use Rattle.mw_frames.specs.LuaStoreDeclaredIdsTextId.{TextId}
use Rattle.mw_frames.specs.LuaStoreDeclaredValueValue.{Value}
use Rattle.mw_frames.specs.LuaStoreSeen.{StoreView, text_at}
use Rattle.mw_frames.specs.LuaStoreParts.{IsOf, IsTextOf}
use Rattle.lua_arms.specs.LuaStackOf.{FramesOf, RegistersOf, ActivationsOf, FocusOf, EnvironmentOf, GivenOf, JumpOf}
use Rattle.lua_state.specs.declared.progress.Progress.{Progress}
use Rattle.lua_state.specs.declared.progress.Progress.TheVariants as progress
use Rattle.lua_state.specs.declared.state.State.{State}
use Rattle.lua_state.specs.declared.turn.Turn.{Turn}
use Rattle.lua_state.specs.declared.turn.Turn.TheVariants as turn
use Rattle.mw_frames.specs.Scenes.{ScenesOf}
use Rattle.lua_code.specs.WkBaseDeclaredTitleTitle.{Title}
use Rattle.lua_state.specs.declared.outcome.Outcome.{Outcome}
use Rattle.lua_state.specs.declared.outcome.Outcome.TheVariants as outcome
use Rattle.lua_state.specs.Seen.{constants_in}
use Rattle.lua_state.specs.Worlds.{CodesOf}

abbrev pub ProgressOf : StoreView → Progress → Type 0
ProgressOf s progress.Running = Unit {0}
ProgressOf s (progress.Finished v) = IsOf s v

pub record StateOf (s : StoreView) (m : State) : Type 0 where
  pub frames : FramesOf s m.frames
  pub regs : RegistersOf s m.regs
  pub functions : ActivationsOf s m.functions
  pub env : EnvironmentOf s m.env
  pub modules : AllByRecursion (λ (x : Title × Progress). ProgressOf s x.1) m.modules
  pub loaded : AllByRecursion (λ (x : Title × Value). IsOf s x.1) m.loaded
  pub scenes : ScenesOf s m.scenes
  pub codes : CodesOf s m.codes

abbrev pub TurnOf : StoreView → Turn → Type 0
TurnOf s (turn.On focus) = FocusOf s focus
TurnOf s (turn.Spent which) = Unit {0}

abbrev pub OutcomeOf : StoreView → Outcome → Type 0
OutcomeOf s (outcome.Goes g) = GivenOf s g
OutcomeOf s (outcome.Jumps j) = JumpOf s j

-- the constant of this number in the running function's module is a text of the store
pub record IsConstant (s : StoreView) (m : State) (number : ℕ) (id : TextId) : Type 0 where
  pub of : IsTextOf s id
  pub is : text_at s.texts id.at ≡ constants_in s m number
