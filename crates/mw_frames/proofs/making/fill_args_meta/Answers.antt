use Rattle.std.proofs.Common.{◌∙◌, ap, codes}
use Rattle.lua_basic.specs.LuaHeapProc.{Proc}
use Rattle.lua_basic.specs.LuaHeapValue.{Text, Builtin}
use Rattle.lua_basic.specs.LuaHeapHeap.{Heap, set_in}
use Rattle.lua_home.specs.LuaHeapDeclaredLibraryLibraryTheVariants.{ArgsIndex}
use Rattle.mw_frames.proofs.making.fill_args_meta.Goals as goal

pub returns-clause-put : goal.returns-clause-put
returns-clause-put c = c.in_ok-set_field-2.ensures.put ∙ ap (λ (h : Heap Proc). set_in h c.args.table.at (Text (codes "__index")) (Builtin ArgsIndex)) c.in_ok-set_field.ensures.put
