use Rattle.mw_frame_texts.proofs.MwFramesStayLaws.{scenes_later}
use Rattle.mw_frame_calls.specs.Seen.{scenes_seen}
use Rattle.mw_frame_calls.proofs.Found.{for_nothing}
use Rattle.mw_frame_calls.proofs.call.frame_call.Goals as goal

pub returns-in-Current-clause-answer : goal.returns-in-Current-clause-answer
returns-in-Current-clause-answer c = rw c.in-Current.is (for_nothing _ c.args.store.now c.get_current_frame.new.store (scenes_seen c.args.scenes.now) c.args.left.now c.get_current_frame.result c.get_current_frame.ensures.answer)

pub returns-in-Title-clause-answer : goal.returns-in-Title-clause-answer
returns-in-Title-clause-answer c = rw c.in-Title.is (for_nothing _ c.args.store.now c.get_title.new.store (scenes_seen c.args.scenes.now) c.args.left.now c.get_title.result c.get_title.ensures.answer)

pub returns-in-Pairs-clause-answer : goal.returns-in-Pairs-clause-answer
returns-in-Pairs-clause-answer c = rw c.in-Pairs.is (for_nothing _ c.args.store.now c.argument_pairs.new.store (scenes_seen c.args.scenes.now) c.args.left.now c.argument_pairs.result c.argument_pairs.ensures.answer)

pub returns-in-Current-clause-scenes : goal.returns-in-Current-clause-scenes
returns-in-Current-clause-scenes c = scenes_later _ _ c.args.scenes.now c.get_current_frame.ensures.later c.requires.scenes

pub returns-in-Title-clause-scenes : goal.returns-in-Title-clause-scenes
returns-in-Title-clause-scenes c = scenes_later _ _ c.args.scenes.now c.get_title.ensures.later c.requires.scenes

pub returns-in-Pairs-clause-scenes : goal.returns-in-Pairs-clause-scenes
returns-in-Pairs-clause-scenes c = scenes_later _ _ c.args.scenes.now c.argument_pairs.ensures.later c.requires.scenes

pub returns-in-Argument-clause-scenes : goal.returns-in-Argument-clause-scenes
returns-in-Argument-clause-scenes c = scenes_later _ _ c.args.scenes.now c.get_argument.ensures.later c.requires.scenes

pub returns-in-Preprocess-clause-scenes : goal.returns-in-Preprocess-clause-scenes
returns-in-Preprocess-clause-scenes c = scenes_later _ _ c.args.scenes.now c.preprocess.ensures.later c.requires.scenes

pub returns-in-Template-clause-scenes : goal.returns-in-Template-clause-scenes
returns-in-Template-clause-scenes c = scenes_later _ _ c.args.scenes.now c.expand_template.ensures.later c.requires.scenes

pub returns-in-Tag-clause-scenes : goal.returns-in-Tag-clause-scenes
returns-in-Tag-clause-scenes c = scenes_later _ _ c.args.scenes.now c.frame_extension_tag.ensures.later c.requires.scenes
