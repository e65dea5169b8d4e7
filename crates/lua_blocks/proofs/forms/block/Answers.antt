use Rattle.std.proofs.Common.{◌∙◌, sym}
use Rattle.std.proofs.lemmas.List.{length-map}
use Rattle.lua_state.specs.LuaStackSeen.{slot_seen}
use Rattle.lua_blocks.proofs.forms.block.Goals as goal

pub returns : goal.returns
returns c = λ l. rw (c.as_slice.ensures, c.len.ensures ∙ sym (length-map c.args.state.now.regs (slot_seen c.args.store.now.texts))) at (c.wait_within.ensures l)
