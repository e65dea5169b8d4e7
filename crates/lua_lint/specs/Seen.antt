-- WHAT THE CODE'S VALUES STAND FOR: those of `lua_uses`.
use Rattle.std.specs.Prelude.{◌≡◌, ℕ, List, ◌++◌, map, Option, None, option_map, if◌then◌else◌, bytes_eq, codes}
use Rattle.lua_syntax.specs.Tree.{Exps}
use Rattle.lua_uses.specs.Uses.{Use, only_text}
use Rattle.lua_lint.specs.declared.places.Use.{Use as CodeUse}

-- a place where a global is named
abbrev pub use_seen : CodeUse → Use
use_seen u = record { line = u.line; name = u.name.now; required = option_map (λ t. t.now) u.required }

abbrev pub uses_seen : List CodeUse → List Use
uses_seen us = map use_seen us

-- these are found behind those that were found before
abbrev pub Finds : List CodeUse → List CodeUse → List Use → Type 0
Finds old new found = uses_seen new ≡ uses_seen old ++ found

-- the text of a call of this name
abbrev pub text_of_call : List ℕ → Exps → Option (List ℕ)
text_of_call name args = if bytes_eq name (codes "require") then only_text args else None
