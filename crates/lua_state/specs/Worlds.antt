-- The world of a machine: the page and the modules; the modules whose code was found, and their constants that were found.
use Rattle.std.specs.Prelude.{◌≡◌, List, Option, IfSome, MatchOption}
use Rattle.std.specs.List.{AllByRecursion}
use Rattle.std.specs.Borrow.{Bor}
use Rattle.lua_code.specs.declared.proto.Protos.{Protos}
use Rattle.lua_code.specs.Seen.{protos_seen}
use Rattle.lua_code.specs.Held.{modules_seen}
use Rattle.lua_code.specs.LuaSlotsCode.{CWorld, Protos as PlainProtos}
use Rattle.lua_arms.specs.LuaSlotsCalls.{no_code, code_of}
use Rattle.mw_frames.specs.LuaStoreDeclaredIdsTextId.{TextId}
use Rattle.mw_frames.specs.LuaStoreSeen.{StoreView, text_at}
use Rattle.mw_frames.specs.LuaStoreParts.{IsTextOf}
use Rattle.lua_state.specs.declared.codes.World.{World}
use Rattle.lua_state.specs.declared.codes.Known.{Known}
use Rattle.lua_state.specs.declared.codes.Recent.{Recent}
use Rattle.lua_state.specs.declared.codes.Codes.{Codes}
use Rattle.lua_state.specs.declared.held.Held.{Held}

abbrev pub world_seen : World → CWorld
world_seen w = record { page = w.page.now; modules = modules_seen w.modules.now }

-- the functions and constants of a module, or that it has none
abbrev pub IsCode : PlainProtos → Option (Bor Protos) → Type 0
IsCode code functions = MatchOption functions (code ≡ no_code) (λ f. code ≡ protos_seen f.now)

-- a module that was found: its title's text is of the store, and its functions and constants are those of the module of that title
pub record IsFound (w : CWorld) (s : StoreView) (source : TextId) (functions : Protos) : Type 0 where
  pub of : IsTextOf s source
  pub code : code_of (w.modules (text_at s.texts source.at)) ≡ protos_seen functions

abbrev pub AreFound : CWorld → StoreView → List (TextId × Known) → Type 0
AreFound w s known = AllByRecursion (λ e. IsFound w s e.0 e.1.functions.now) known

abbrev pub IsRecent : CWorld → StoreView → Option Recent → Type 0
IsRecent w s recent = IfSome recent (λ r. IsFound w s r.source r.code.functions.now)

-- a constant that was found: it and its module's title are texts of the store, and it is the constant of that number
pub record IsHeld (w : CWorld) (s : StoreView) (h : Held) : Type 0 where
  pub of : IsTextOf s h.source
  pub text_of : IsTextOf s h.text
  pub same : text_at s.texts h.text.at ≡ (code_of (w.modules (text_at s.texts h.source.at))).constant h.number

abbrev pub AreHeld : CWorld → StoreView → List (Option Held) → Type 0
AreHeld w s held = AllByRecursion (λ place. IfSome place (IsHeld w s)) held

pub record CodesOf (s : StoreView) (c : Codes) : Type 0 where
  pub all : AreFound (world_seen c.world) s c.known.entries
  pub recent : IsRecent (world_seen c.world) s c.recent
  pub held : AreHeld (world_seen c.world) s c.held.items
