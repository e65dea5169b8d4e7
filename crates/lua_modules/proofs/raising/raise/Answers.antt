use Rattle.lua_modules.proofs.Parts.{text_is_raised}
use Rattle.lua_modules.proofs.raising.raise.Goals as goal

pub returns : goal.returns
returns c = λ l. text_is_raised c.args.store.now c.text.new.self c.args.state.now l _ c.in_ok-id.id c.args.text.now c.requires c.in_ok-id.ensures.later c.in_ok-id.ensures.added c.in_ok-id.ensures.of c.in_ok-id.ensures.there
