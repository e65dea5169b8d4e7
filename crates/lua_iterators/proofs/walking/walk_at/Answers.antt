use Rattle.std.proofs.Common.{subst, sym}
use Rattle.lua_string.specs.LuaPatternWay.{first}
use Rattle.lua_strings.specs.LuaBasicSeen.{Paid}
use Rattle.mw_ustrings.proofs.Costs.{exceeded}
use Rattle.lua_iterators.specs.Held.{cells_seen}
use Rattle.lua_iterators.proofs.Walks.{walk_found, walk_none, walk_spent}
use Rattle.lua_iterators.proofs.walking.walk_at.Goals as goal

pub returns-in-Ok-Spent-clause-answer : goal.returns-in-Ok-Spent-clause-answer
returns-in-Ok-Spent-clause-answer g c =
    let found = rw c.in-Ok-Spent.field-0-is at c.in-Ok-Spent.ensures.first in
    exceeded _ c.args.store.now c.args.left.now c.spend.new.left c.spend.result (walk_spent g.A.Alphabet.letters c.args.s.now (record { at = c.args.at; before = c.args.before }) (cells_seen c.args.cells) c.args.pattern.now.anchored c.args.pattern.now.slots c.args.store.now.heap c.args.left.now.steps (first g.A.Alphabet.letters c.args.pattern.now.anchored c.args.pattern.now.items c.args.s.now c.args.at) found) c.spend.ensures.stop_ c.spend.ensures.rest

pub returns-in-Ok-NotFound-clause-answer : goal.returns-in-Ok-NotFound-clause-answer
returns-in-Ok-NotFound-clause-answer g c =
    let found = rw c.in-Ok-NotFound.field-0-is at c.in-Ok-NotFound.ensures.first in
    subst (λ q. Paid q c.args.store.now c.args.left.now c.end_walk.new.store c.end_walk.new.left c.end_walk.result) (sym (walk_none g.A.Alphabet.letters c.args.s.now (record { at = c.args.at; before = c.args.before }) (cells_seen c.args.cells) c.args.pattern.now.anchored c.args.pattern.now.slots c.args.store.now.heap c.args.left.now.steps (first g.A.Alphabet.letters c.args.pattern.now.anchored c.args.pattern.now.items c.args.s.now c.args.at) c.in-Ok-NotFound.tries found)) c.end_walk.ensures.answer

pub returns-in-Ok-Found-clause-answer : goal.returns-in-Ok-Found-clause-answer
returns-in-Ok-Found-clause-answer g c =
    let found = rw c.in-Ok-Found.field-0-is at c.in-Ok-Found.ensures.first in
    let answer = rw c.next_place-next.ensures at c.give_match.ensures.answer in
    subst (λ q. Paid q c.args.store.now c.args.left.now c.give_match.new.store c.give_match.new.left c.give_match.result) (sym (walk_found g.A.Alphabet.letters c.args.s.now (record { at = c.args.at; before = c.args.before }) (cells_seen c.args.cells) c.args.pattern.now.anchored c.args.pattern.now.slots c.args.store.now.heap c.args.left.now.steps (first g.A.Alphabet.letters c.args.pattern.now.anchored c.args.pattern.now.items c.args.s.now c.args.at) c.in-Ok-Found.found c.in-Ok-Found.tries found)) answer
