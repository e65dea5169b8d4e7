use Rattle.std.proofs.Common.{◌∷◌}
use Rattle.lua_strides.proofs.Paths.{strode}
use Rattle.lua_strides.specs.Next.{focus_of}
use Rattle.lua_strides.proofs.ending.wait_within.Goals as goal

pub returns : goal.returns
returns c = λ s p n l l' k k' r e.
    rw c.in_ok-push_two.ensures.ok
    (strode s c.args.state.now p n (focus_of c.args.next) (c.args.inner ∷ c.args.outer ∷ c.args.state.now.frames) l l' k k' r e)
