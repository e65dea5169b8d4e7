use Rattle.lua_pattern.specs.Read.{read_of, codes}
use Rattle.lua_replacing.specs.LuaMeaningGsub.{letters}
use Rattle.lua_iterators.specs.LuaBasicArguments.{text_bytes}
use Rattle.lua_gsubs.specs.Given.{given_seen}
use Rattle.lua_gsubs.specs.Table.{alphabet_of}
use Rattle.lua_gsubs.proofs.GivenArguments.{begins_faulty}
use Rattle.lua_gsubs.proofs.beginning.begin_read.Goals as goal

pub returns-in-Err-clause-begun : goal.returns-in-Err-clause-begun
returns-in-Err-clause-begun c =
    let s = c.args.store.now in
    let a = alphabet_of c.args.which in
    let read = rw c.as_slice.ensures at c.in-Err.ensures.read in
    begins_faulty a (given_seen s.texts c.args.given) (read_of (codes (letters a) (text_bytes c.args.given.pattern))) s c.refuse_pattern.new.store c.args.left.now c.in-Err.fault c.refuse_pattern.result read c.refuse_pattern.ensures.stops

pub returns-clause-begun : goal.returns-clause-begun
returns-clause-begun c =
    let read = rw c.as_slice.ensures at c.in-Ok.ensures.read in
    let begun = rw (c.as_slice-s.ensures, c.in-Ok.ensures.alphabet) at c.begin_by.ensures.begun in
    rw read begun
