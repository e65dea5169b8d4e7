use Rattle.std.proofs.Common.{◌≡◌, ◌∙◌, ap, codes, false, pos, arith, w64, to_z}
use Rattle.std.proofs.lemmas.Int.{to_z_pos}
use Rattle.lua_basic.specs.LuaHeapProc.{Proc}
use Rattle.lua_basic.specs.LuaHeapValue.{Text, Truth, Number}
use Rattle.lua_basic.specs.LuaHeapHeap.{Heap, set_in}
use Rattle.mw_frames.proofs.making.fill_frame_meta.Goals as goal

pub returns-clause-put : goal.returns-clause-put
returns-clause-put c =
    let number : to_z w64 c.args.number ≡ pos c.args.number = to_z_pos w64 c.args.number c.requires.number in
    c.in_ok-set_field.ensures.put ∙ ap (λ (h : Heap Proc). set_in h c.args.table.at (Text (codes "__metatable")) (Truth false))
    (c.in_ok-set_item.ensures.put ∙ ap (λ z. set_in c.args.store.now.heap c.args.table.at (Number (pos 1)) (Number z)) number)
