use Rattle.std.proofs.Common.{◌≡◌, length, rules}
use Rattle.lua_flat_code.proofs.StatementLaws.{begun_declared}
use Rattle.lua_flat_code.proofs.maker.Maker.declaration.Goals as goal

pub returns : goal.returns
returns c =
    let count : c.in_ok-count.count ≡ length c.args.flags.now = search rules in
    begun_declared _ _ _ _ _ _ _ _ _ count c.in_ok-exact.ensures c.in_ok-open.ensures c.in_ok-next.ensures
