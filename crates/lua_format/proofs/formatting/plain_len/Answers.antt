use Rattle.std.proofs.lemmas.Bool.{ne_eqb}
use Rattle.lua_format.proofs.Formats.{plain_more}
use Rattle.lua_format.proofs.formatting.plain_len.Goals as goal

pub bytes-preserved : goal.bytes-preserved
bytes-preserved c =
    plain_more c.args.text.now c.bytes.rest.now c.in-Some.behind.now c.in-Some.byte c.bytes.count
    c.bytes.invariant.0 c.bytes.invariant.1 c.in-Some.ensures (ne_eqb _ 37 c.if-byte-eq37.false) c.bytes.invariant.2
