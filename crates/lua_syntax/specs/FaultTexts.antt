-- THE TEXTS of the faults of a text that is no Lua, which are numbered from 1.
use Rattle.std.specs.Prelude.{ℕ, ◌-◌, List, [], ◌∷◌, ◌++◌, codes, slice_index_or}
use Rattle.std.specs.Fmt.{decimal}
use Rattle.wk_base.specs.declared.title.Title.{Title}
use Rattle.wk_base.specs.Titles.{title_text}
use Rattle.lua_syntax.specs.declared.fault.FaultAt.{FaultAt}

abbrev pub fault_texts : List (List ℕ)
fault_texts =
    codes "unfinished string" ∷ codes "unfinished long bracket" ∷ codes "escape out of range" ∷ codes "unexpected byte"
    ∷ codes "unexpected token" ∷ codes "numeral is not a whole number in range" ∷ codes "nested too deeply"
    ∷ codes "break outside a loop" ∷ codes "call on a new line" ∷ codes "... outside a vararg function" ∷ []

abbrev pub fault_text : ℕ → List ℕ
fault_text kind = slice_index_or fault_texts (kind - 1) []

-- the place of a fault in a module, and its text
abbrev pub fault_message : Title → FaultAt → List ℕ
fault_message title fault = title_text title ++ codes ":" ++ decimal fault.line ++ codes ": " ++ fault_text fault.kind
