use Rattle.std.proofs.Common.{refl}
use Rattle.lua_basic.proofs.messages.expected.Goals as goal

pub returns : goal.returns
returns c = λ texts. rw (c.in_ok-add-2.ensures, c.got.ensures texts, c.in_ok-add.ensures, c.in_ok-text.ensures) refl
