use Rattle.std.proofs.Common.{◌≡◌, ◌+◌, ap, arith}
use Rattle.lua_pattern.specs.Sizes.{capture_bytes, captures_bytes}
use Rattle.lua_strings.proofs.captures.captures_size.Goals as goal

pub captures-preserved : goal.captures-preserved
captures-preserved c =
    let split : captures_bytes c.captures-2.rest.now ≡ capture_bytes c.in-Some.capture + captures_bytes c.in-Some.more.now = ap captures_bytes c.in-Some.ensures in
    let size = c.capture_size-size.ensures in
    let so_far = c.captures-2.invariant in
    omega (arith, split, size, so_far)
