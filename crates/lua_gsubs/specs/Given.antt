-- THE ARGUMENTS, as they are found.
use Rattle.std.specs.Prelude.{◌≡◌, ℕ, List, Option, Some, None, Ok}
use Rattle.lua_iterators.specs.LuaHeapValue.{Value, Table, Closure, Builtin}
use Rattle.lua_iterators.specs.LuaMeaningArguments.{Argument}
use Rattle.lua_replacing.specs.LuaMeaningGsub.{Alphabet, Given, Replacement, ByText, ByTable, ByFunction, by_text, text_in_alphabet}
use Rattle.lua_replacing.specs.LuaStoreSeen.{StoreView}
use Rattle.lua_iterators.specs.LuaBasicArguments.{text_bytes}
use Rattle.lua_replacing.specs.Seen.{replacer_seen, ReplacerOf}
use Rattle.lua_gsubs.specs.declared.arguments.By.{By}
use Rattle.lua_gsubs.specs.declared.arguments.By.TheVariants as by
use Rattle.lua_gsubs.specs.declared.arguments.GivenIn.{GivenIn}

-- a table or a function
abbrev pub replacer_in : Value → Option Replacement
replacer_in (Table t) = Some (ByTable t)
replacer_in (Closure c) = Some (ByFunction (Closure c))
replacer_in (Builtin b) = Some (ByFunction (Builtin b))
replacer_in v = None

-- or else a text, as argument 3
abbrev pub or_text : Alphabet → List Value → Option Replacement → Argument Replacement
or_text a given (Some r) = Ok r
or_text a given None = by_text (text_in_alphabet a 3 given)

abbrev pub by_seen : List (List ℕ) → By → Replacement
by_seen texts (by.Text t) = ByText (text_bytes t)
by_seen texts (by.Asked r) = replacer_seen texts r

abbrev pub ByOf : StoreView → By → Type 0
ByOf s (by.Text t) = Unit {0}
ByOf s (by.Asked r) = ReplacerOf s r

abbrev pub given_seen : List (List ℕ) → GivenIn → Given
given_seen texts g = record { subject = text_bytes g.subject; pattern = text_bytes g.pattern; by = by_seen texts g.by; limit = g.limit }
