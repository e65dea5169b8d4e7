-- Arguments as the entries of a map.
use Rattle.std.specs.Prelude.{ℕ, List, map}
use Rattle.mw_frame.specs.declared.scene.Arg.{Arg}

abbrev pub arg_in : List ℕ × List ℕ → Arg
arg_in e = record { name = e.0; value = e.1 }

abbrev pub args_in : List (List ℕ × List ℕ) → List Arg
args_in es = map arg_in es
