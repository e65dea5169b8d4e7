use Rattle.std.proofs.Common.{◌∙◌, ◌∷◌, [], codes}
use Rattle.mw_frames.specs.LuaMeaningMessages.{bad_argument, expected}
use Rattle.mw_frames.specs.LuaMeaningTag.{attributes_in}
use Rattle.mw_frames.proofs.LuaBasicFound.{refused}
use Rattle.mw_frames.specs.LuaStoreSeen.{seen}
use Rattle.mw_frame_texts.proofs.attributes.the_attributes.Goals as goal

pub returns-in_default-clause-refused : goal.returns-in_default-clause-refused
returns-in_default-clause-refused c =
    let s = c.args.store.now in
    let v = seen s.texts c.args.attrs in
    refused (attributes_in s.heap v) (bad_argument 2 (codes "tag") (expected (codes "table") (v ∷ []))) s c.refuse_kind.new.store c.refuse_kind.result (c.in_default.ensures.found s.texts s.heap) c.refuse_kind.ensures.raises

pub returns-in-All-clause-found : goal.returns-in-All-clause-found
returns-in-All-clause-found c =
    let s = c.args.store.now in
    c.in-Some.ensures.found s.texts s.heap ∙ rw c.in-All.is at c.in_ok-read.ensures.read

pub returns-in-Refused-clause-refused : goal.returns-in-Refused-clause-refused
returns-in-Refused-clause-refused c =
    let s = c.args.store.now in
    let v = seen s.texts c.in-Refused.value in
    let read = rw c.in-Refused.is at c.in_ok-read.ensures.read in
    refused (attributes_in s.heap (seen s.texts c.args.attrs)) (bad_argument 2 (codes "tag") (expected (codes "string") (v ∷ []))) s c.refuse_kind-in-Refused.new.store c.refuse_kind-in-Refused.result
    (c.in-Some.ensures.found s.texts s.heap ∙ read) c.refuse_kind-in-Refused.ensures.raises
