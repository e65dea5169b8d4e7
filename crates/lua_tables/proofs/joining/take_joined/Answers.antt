use Rattle.std.proofs.Common.{sym, subst}
use Rattle.lua_tables.specs.Paying.{Takes}
use Rattle.lua_tables.proofs.Parts.{joined-length}
use Rattle.lua_tables.proofs.joining.take_joined.Goals as goal

pub returns-in-Some : goal.returns-in-Some
returns-in-Some c =
    let s = c.args.store.now in
    subst (λ n. Takes n c.args.left.now c.take_parts.new.left c.take_parts.result) (sym (joined-length s.texts c.args.separator.now c.args.values.now c.in-Some.others.now c.in-Some.first c.in-Some.ensures)) c.take_parts.ensures
