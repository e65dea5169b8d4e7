-- FUNCTIONS THAT ARE DONE: no variable of theirs has a cell that nothing captures.
use Rattle.std.specs.Prelude.{List}
use Rattle.std.specs.List.{AllByRecursion}
use Rattle.lua_code.specs.declared.proto.Proto.{Proto}
use Rattle.lua_code.specs.Seen.{proto_seen}
use Rattle.lua_cells.specs.Cells.{HasNoIdleCell}

abbrev pub AllTight : List Proto → Type 0
AllTight ps = AllByRecursion (λ p. HasNoIdleCell (proto_seen p)) ps
