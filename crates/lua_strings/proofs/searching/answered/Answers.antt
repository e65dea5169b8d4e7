use Rattle.std.proofs.Common.{length, w64}
use Rattle.std.proofs.lemmas.Int.{to_z-of_z}
use Rattle.lua_pattern.specs.Texts.{bytes}
use Rattle.lua_pattern.specs.Read.{read_of, codes}
use Rattle.lua_string.specs.Places.{first_place}
use Rattle.lua_basic.specs.Seen.{Paid}
use Rattle.lua_strings.specs.Found.{bytes_of, values_of}
use Rattle.lua_strings.proofs.Sought.{read_answered}
use Rattle.lua_strings.proofs.searching.answered.Goals as goal

pub returns-in-Ok-clause-answer : goal.returns-in-Ok-clause-answer
returns-in-Ok-clause-answer c =
    let s = c.args.s.now in
    let store = c.args.store.now in
    let which = c.args.which in
    let answers = rw (to_z-of_z w64 c.args.init c.ranges.init) at c.in-Ok.ensures in
    read_answered (bytes_of which) (values_of which s) c.args.left.now.steps s (first_place (length s) c.args.init) (read_of (codes bytes c.args.pattern.now)) c.in-Ok.found store.heap
    (λ q. Paid q store c.args.left.now c.give_found.new.store c.give_found.new.left c.give_found.result) answers c.give_found.ensures.answer
