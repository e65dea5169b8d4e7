-- Frames as numbers, which is asked of the value of a model. It is the same at each lifetime of what they borrow.
use Rattle.std.specs.Prelude.{[]}
use Rattle.std.specs.Coded.{Coded}
use mir.Syntax.{static}
use Rattle.lua_stack.specs.declared.frame.Frame.{Frame}
use Rattle.lua_stack.specs.contracts.frame.Frame as frame

abbrev pub coded_frame : Coded Frame
coded_frame = (frame.the_row (record { mir = static; lft = [] })).coded
