-- Levels of errors in constant time: each function in progress knows how many lines called in a row below its own.
use Rattle.std.specs.Prelude.{◌≡◌, ℕ, suc, List, [], ◌∷◌, Option, Some, None}
use Rattle.lua_stack.specs.declared.activation.Activation.{Activation}
use Rattle.lua_stack.specs.declared.activation.Level.{Level}

-- how many levels there are from a line of the newest function on
abbrev pub levels_from : List Activation → Option ℕ → ℕ
levels_from [] line = 0
levels_from (a ∷ more) None = 0
levels_from (a ∷ more) (Some line) = suc a.reach

-- each function knows how many levels there are from the line that called it on
abbrev pub KnowReach : List Activation → Type 0
KnowReach [] = Unit {0}
KnowReach (a ∷ more) = (a.reach ≡ levels_from more a.called_at) × KnowReach more

-- the level at which one function called another: the line stands in the text of the one that called
abbrev pub level_in : Activation → Option ℕ → Option Level
level_in calling (Some line) = Some (record { source = calling.source; line = line })
level_in calling None = None

abbrev pub level_of : Option Activation → Option Activation → Option Level
level_of (Some called) (Some calling) = level_in calling called.called_at
level_of _ _ = None
