use Rattle.std.proofs.Common.{◌≡◌, ◌-◌, ◌++◌}
use Rattle.lua_string.specs.Texts.{copies}
use Rattle.lua_string.proofs.text.repeated.Given as goal

abbrev pub invariant-copies : goal.invariant-copies
invariant-copies l = l.made.items ++ copies (l.count - l._turn) l.s ≡ copies l.count l.s
