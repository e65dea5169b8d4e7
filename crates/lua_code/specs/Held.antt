-- What is found among modules, by titles and by the texts of titles (manual of MediaWiki, Extension:Scribunto: a module's page stands
-- in a namespace of its own).
use Rattle.std.specs.Prelude.{◌≡◌, ℕ, true, List, [], ◌∷◌, map, Option, option_map, Result, Ok, Err, bytes_eq}
use Rattle.std.specs.Map.{lookup}
use Rattle.lua_syntax.specs.WkBaseDeclaredTitleTitle.{Title}
use Rattle.lua_syntax.specs.WkBaseContractsTitleTitlePartialEqTheImpl as titles
use Rattle.lua_syntax.specs.WkBaseTitles.{is_module, title_text}
use Rattle.lua_syntax.specs.declared.fault.FaultAt.{FaultAt}
use Rattle.lua_slots.specs.Code.{CModule, Protos as PlainProtos}
use Rattle.lua_code.specs.declared.modules.Module.{Module}
use Rattle.lua_code.specs.declared.proto.Protos.{Protos}
use Rattle.lua_code.specs.Seen.{protos_seen}

-- modules with their titles
abbrev pub TitledModules : Type 0
TitledModules = List (Title × Module)

abbrev pub find_module : TitledModules → Title → Option Module
find_module held title = lookup (titles.ghosts.eq title) held

abbrev pub code_seen : Result Protos FaultAt → Result PlainProtos FaultAt
code_seen (Ok ps) = Ok (protos_seen ps)
code_seen (Err fault) = Err fault

abbrev pub module_seen : Module → CModule
module_seen m = record { size = m.size; code = code_seen m.code }

-- the modules of a machine's world, by the texts of their titles
abbrev pub modules_seen : TitledModules → List ℕ → Option CModule
modules_seen held text = option_map module_seen (lookup (bytes_eq text) (map (λ e. (title_text e.0, e.1)) held))

-- all titles are of modules
abbrev pub AreModules : TitledModules → Type 0
AreModules [] = Unit {0}
AreModules (e ∷ es) = (is_module e.0.ns ≡ true) × AreModules es
