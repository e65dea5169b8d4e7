-- ARGUMENTS that are read of a table, whose texts are still those of a store: the meaning's argument, for what was found or for nothing.
use Rattle.std.specs.Prelude.{◌≡◌, ℕ, ◌+◌, Bool, true, false, List, ◌∷◌, ◌++◌, map, Option, Some, None, Result, Ok, Err, if◌then◌else◌}
use Rattle.mw_frame.specs.WkBaseDeclaredLeftLeft.{Left}
use Rattle.mw_frame.specs.declared.scene.Arg.{Arg}
use Rattle.lua_basic.specs.LuaHeapValue.{Value, is_nil}
use Rattle.lua_basic.specs.LuaHeapTable.{Entries}
use Rattle.lua_basic.specs.LuaMeaningArguments.{Argument, passed}
use Rattle.lua_basic.specs.LuaMeaningMessages.{bad_template_arguments}
use Rattle.lua_basic.specs.LuaMeaningFrameMethods.{entry_arg, read_args}
use Rattle.lua_basic.specs.Arguments.{text_bytes}
use Rattle.lua_basic.specs.declared.stop.Stop.{Stop}
use Rattle.lua_basic.specs.declared.stop.Stop.TheVariants as stop
use Rattle.mw_frames.specs.Costs.{Took, Lacked}
use Rattle.mw_frames.specs.declared.reading.ArgText.{ArgText}

-- arguments whose texts are still those of a store
abbrev pub arg_seen : ArgText → Arg
arg_seen a = record { name = text_bytes a.name; value = text_bytes a.value }

abbrev pub args_seen : List ArgText → List Arg
args_seen xs = map arg_seen xs

-- what was found is an argument, or there is the message of bad arguments
abbrev pub found_arg : Option ArgText → Argument Arg
found_arg (Some a) = Ok (arg_seen a)
found_arg None = Err bad_template_arguments

abbrev pub found_args : Option (List ArgText) → Argument (List Arg)
found_args (Some xs) = Ok (args_seen xs)
found_args None = Err bad_template_arguments

-- whether what was read of an entry is no message
abbrev pub is_read : {X : Type 0} → Argument X → Bool
is_read (Ok x) = true
is_read (Err message) = false

-- AN ENTRY IS PASSED, of which the first is cleared: what that cost, and whether the walk goes on
abbrev pub passing : Value × Value → ℕ
passing e = if is_nil e.1 then 1 else 0

abbrev pub IsPassed : Value × Value → Left → Left → Result Bool Stop → Type 0
IsPassed e l m (Ok true) = Took (passing e) l m × ((more : Entries) → passed entry_arg (e ∷ more) ≡ passing e + passed entry_arg more)
IsPassed e l m (Ok false) = Took 0 l m × ((more : Entries) → passed entry_arg (e ∷ more) ≡ 0)
IsPassed e l m (Err stop.Spent) = Lacked 1 l m × ((more : Entries) → passed entry_arg (e ∷ more) ≡ 1 + passed entry_arg more)
IsPassed e l m (Err other) = ⊥

-- those that were read, before what is read of the rest
abbrev pub behind : List Arg → Argument (List Arg) → Argument (List Arg)
behind done (Ok more) = Ok (done ++ more)
behind done (Err message) = Err message

-- an entry was read: those that were read before and after it; or it is no argument
abbrev pub IsRead : List Arg → List Arg → Value × Value → Bool → Type 0
IsRead old new e true = (more : Entries) → behind new (read_args more) ≡ behind old (read_args (e ∷ more))
IsRead old new e false = (more : Entries) → behind old (read_args (e ∷ more)) ≡ Err bad_template_arguments
