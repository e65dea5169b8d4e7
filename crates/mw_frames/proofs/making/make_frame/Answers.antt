use Rattle.std.proofs.Common.{◌∙◌, ap, arith, map}
use Rattle.lua_basic.specs.LuaHeapHeap.{Heap}
use Rattle.lua_home.specs.LuaMeaningFrames.{args_meta, frame_entries, frame_meta}
use Rattle.lua_home.specs.LuaGraphPut.{filled}
use Rattle.lua_basic.proofs.LuaStoreLater.{later-then}
use Rattle.mw_frames.specs.Making.{arg_entry, with_pair}
use Rattle.mw_frames.proofs.Tables.{frame_made, pair_longer}
use Rattle.mw_frames.proofs.making.make_frame.Goals as goal

pub returns-clause-made : goal.returns-clause-made
returns-clause-made c =
    let h = c.args.store.now.heap in
    let a = c.in_ok-args.args in
    let f = c.in_ok-frame.frame in
    let longer = pair_longer h _ c.in_ok-args.ensures.made in
    let filled_args = rw c.as_slice.ensures at c.in_ok-fill_args.ensures.put in
    frame_made h _ c.args.scene.now c.args.number a.table.at a.meta.at f.table.at f.meta.at
    c.in_ok-args.ensures.table c.in_ok-args.ensures.meta (c.in_ok-frame.ensures.table ∙ longer) (omega (arith, c.in_ok-frame.ensures.meta, longer))
    (c.in_ok-fill_frame_meta.ensures.put ∙ ap (filled f.meta.at (frame_meta c.args.number))
    (c.in_ok-fill_frame.ensures.put ∙ ap (filled f.table.at (frame_entries a.table.at))
    (c.in_ok-fill_args_meta.ensures.put ∙ ap (filled a.meta.at args_meta)
    (filled_args ∙ ap (filled a.table.at (map arg_entry c.args.scene.now.args))
    (c.in_ok-frame.ensures.made ∙ ap with_pair c.in_ok-args.ensures.made)))))

pub returns-clause-at : goal.returns-clause-at
returns-clause-at c = c.in_ok-frame.ensures.table ∙ pair_longer c.args.store.now.heap _ c.in_ok-args.ensures.made

pub returns-in_err-fill_args_meta-clause-later : goal.returns-in_err-fill_args_meta-clause-later
returns-in_err-fill_args_meta-clause-later c = later-then _ _ _ c.in_ok-args.ensures.later (later-then _ _ _ c.in_ok-frame.ensures.later (later-then _ _ _ c.in_ok-fill_args.ensures.later c.in_err-fill_args_meta.ensures.later))

pub returns-in_err-fill_frame-clause-later : goal.returns-in_err-fill_frame-clause-later
returns-in_err-fill_frame-clause-later c = later-then _ _ _ c.in_ok-args.ensures.later (later-then _ _ _ c.in_ok-frame.ensures.later (later-then _ _ _ c.in_ok-fill_args.ensures.later (later-then _ _ _ c.in_ok-fill_args_meta.ensures.later c.in_err-fill_frame.ensures.later)))

pub returns-in_err-fill_frame_meta-clause-later : goal.returns-in_err-fill_frame_meta-clause-later
returns-in_err-fill_frame_meta-clause-later c = later-then _ _ _ c.in_ok-args.ensures.later (later-then _ _ _ c.in_ok-frame.ensures.later (later-then _ _ _ c.in_ok-fill_args.ensures.later (later-then _ _ _ c.in_ok-fill_args_meta.ensures.later (later-then _ _ _ c.in_ok-fill_frame.ensures.later c.in_err-fill_frame_meta.ensures.later))))
