use Rattle.std.proofs.Common.{◌≡◌, drop}
use Rattle.mw_frame.specs.Scenes.{NamesDiffer}
use Rattle.lua_home.specs.LuaMeaningFrames.{merge_args}
use Rattle.mw_frames.specs.Reading.{args_seen}
use Rattle.mw_frames.specs.Merging.{args_in}
use Rattle.mw_frames.proofs.merging.insert_all.Given as goal

abbrev pub invariant-texts : goal.invariant-texts
invariant-texts l = record {
  more : merge_args (args_in l.map.entries) (args_seen (drop l.arg-index l.args)) ≡ merge_args (args_in l.initial.map.entries) (args_seen l.args);
  differ : NamesDiffer (args_in l.initial.map.entries) → NamesDiffer (args_in l.map.entries);
}
