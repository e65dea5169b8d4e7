-- WHAT THE CODE HOLDS while modules are read: a map from titles to places, the places that were reached in a set that keeps their order,
-- and the modules that were read.
use Rattle.std.specs.Prelude.{◌≡◌, ℕ, List, map, Option, Some, if◌then◌else◌}
use Rattle.std.specs.Borrow.{Bor}
use Rattle.std.specs.Map.{lookup}
use Rattle.wk_base.specs.declared.title.Title.{Title}
use Rattle.wk_base.specs.contracts.title.TitlePartialEq.TheImpl as titles
use Rattle.lua_syntax.specs.View.{chunk_view}
use Rattle.lua_uses.specs.Modules.{Named, Read, Unknown, GlobalUses, Names, CannotTell, place_from}
use Rattle.lua_lint.specs.declared.reading.Named.{Named as CodeNamed}
use Rattle.lua_lint.specs.declared.reading.Read.{Read as CodeRead}
use Rattle.lua_lint.specs.declared.globals.UnknownAt.{UnknownAt as CodeUnknownAt}
use Rattle.lua_lint.specs.declared.globals.GlobalUses.{GlobalUses as CodeGlobalUses}
use Rattle.lua_lint.specs.declared.globals.GlobalUses.TheVariants.{Names as CodeNames, Unknown as CodeUnknown}
use Rattle.lua_lint.specs.Seen.{uses_seen}

abbrev pub named_seen : CodeNamed → Named
named_seen m = record { title = m.title; chunk = chunk_view m.chunk }

abbrev pub modules_seen : List CodeNamed → List Named
modules_seen ms = map named_seen ms

-- the map has for each title the place of its first module
abbrev pub Places : Type 0
Places = List (Bor Title × ℕ)

abbrev pub place_at : Places → Title → Option ℕ
place_at es title = lookup (λ (k : Bor Title). titles.ghosts.eq title k.now) es

-- a title has another place from now on
abbrev pub IsPutAt : Places → Title → ℕ → Places → Type 0
IsPutAt old title place new = (x : Title) → place_at new x ≡ (if titles.ghosts.eq title x then Some place else place_at old x)

abbrev pub ArePlaced : List Named → Places → Type 0
ArePlaced modules es = (title : Title) → place_at es title ≡ place_from 0 modules title

abbrev pub read_seen : CodeRead → Read
read_seen r = record { place = r.place; uses = uses_seen r.uses }

abbrev pub reads_seen : List CodeRead → List Read
reads_seen rs = map read_seen rs

-- names that a set holds
abbrev pub names_in : List (Bor (List ℕ)) → List (List ℕ)
names_in ns = map (λ (n : Bor (List ℕ)). n.now) ns

abbrev pub unknown_seen : CodeUnknownAt → Unknown
unknown_seen u = record { place = u.«module»; line = u.line }

abbrev pub answer_seen : CodeGlobalUses → GlobalUses
answer_seen (CodeNames names) = Names names
answer_seen (CodeUnknown at) = CannotTell (unknown_seen at)
