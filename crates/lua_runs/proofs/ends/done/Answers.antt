use Rattle.lua_runs.proofs.Parts.{text_is_given}
use Rattle.lua_runs.proofs.ends.done.Goals as goal

pub returns : goal.returns
returns c = λ l. text_is_given c.args.store.now c.text.new.self c.args.state.now l _ c.in_ok-id.id c.args.text.now c.requires c.in_ok-id.ensures.later c.in_ok-id.ensures.added c.in_ok-id.ensures.of c.in_ok-id.ensures.there
