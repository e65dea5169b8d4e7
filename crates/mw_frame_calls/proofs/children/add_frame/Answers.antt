use Rattle.std.proofs.Common.{sym, subst}
use Rattle.mw_frame_texts.specs.MwFramesScenes.{made, FramesOf, NamesOf}
use Rattle.mw_frame_texts.proofs.MwFramesKept.{frames-push}
use Rattle.mw_frame_texts.proofs.MwFramesStayLaws.{scenes_later}
use Rattle.mw_frame_calls.proofs.children.add_frame.Goals as goal

pub returns-clause-scenes : goal.returns-clause-scenes
returns-clause-scenes c =
    let t = c.make_frame.new.store in
    let stay = scenes_later c.args.store.now t c.args.scenes.now c.in_ok-table.ensures.later c.requires.scenes in
    record {
      frames = subst (FramesOf t) (sym c.in_ok-push.ensures.ok) (frames-push t (made c.args.scenes.now) _ stay.frames (record { table = c.in_ok-table.ensures.of; names = c.requires.names; parent = c.requires.parent }));
      names = subst (NamesOf t) (sym c.push.ensures.names) stay.names;
    }
