use Rattle.std.proofs.Common.{◌∙◌, ap, sym}
use Rattle.std.specs.Option.{option_copied}
use Rattle.lua_state.proofs.Looking.{of_newest}
use Rattle.lua_state.proofs.constants.constant_at_hand.Goals as goal

pub returns-in-Some : goal.returns-in-Some
returns-in-Some c s of =
    of_newest s c.args.state.now c.in-Some.newest.now c.args.number (ap option_copied (sym c.in-Some.is) ∙ c.newest.ensures) _ (c.held.ensures s of.codes)
