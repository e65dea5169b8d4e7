use Rattle.std.proofs.Common.{subst, sym}
use Rattle.mw_text.specs.Split.{sought_of, found_from}
use Rattle.mw_text.specs.declared.splitting.Part.{Part}
use Rattle.lua_strings.specs.LuaBasicSeen.{Paid}
use Rattle.lua_strings.specs.LuaMeaningIterators.{part_given}
use Rattle.mw_ustrings.proofs.Costs.{exceeded}
use Rattle.lua_iterators.specs.Held.{cells_seen}
use Rattle.lua_iterators.proofs.Parted.{cut_found, cut_none, cut_spent}
use Rattle.lua_iterators.proofs.parting.part_at.Goals as goal

pub returns-in-Ok-Spent-clause-answer : goal.returns-in-Ok-Spent-clause-answer
returns-in-Ok-Spent-clause-answer c =
    let found = rw c.in-Ok-Spent.field-0-is at c.in-Ok-Spent.ensures in
    exceeded _ c.args.store.now c.args.left.now c.spend.new.left c.spend.result (cut_spent c.args.s.now (cells_seen c.args.cells) c.args.at c.args.left.now.steps (found_from (sought_of c.args.separator.now) c.args.s.now c.args.at) c.args.store.now.heap found) c.spend.ensures.stop_ c.spend.ensures.rest

pub returns-in-Ok-NotFound-clause-answer : goal.returns-in-Ok-NotFound-clause-answer
returns-in-Ok-NotFound-clause-answer c =
    let found = rw c.in-Ok-NotFound.field-0-is at c.in-Ok-NotFound.ensures in
    subst (λ (p : Part). Paid (part_given c.args.s.now (cells_seen c.args.cells) c.args.at p c.args.store.now.heap) c.args.store.now c.args.left.now c.give_part.new.store c.give_part.new.left c.give_part.result)
    (sym (cut_none c.args.s.now c.args.left.now.steps (found_from (sought_of c.args.separator.now) c.args.s.now c.args.at) c.in-Ok-NotFound.tries found)) c.give_part.ensures.answer

pub returns-in-Ok-Found-clause-answer : goal.returns-in-Ok-Found-clause-answer
returns-in-Ok-Found-clause-answer c =
    let found = rw c.in-Ok-Found.field-0-is at c.in-Ok-Found.ensures in
    let answer = rw c.before_a_match-part.ensures at c.give_part-in-Ok-Found.ensures.answer in
    subst (λ (p : Part). Paid (part_given c.args.s.now (cells_seen c.args.cells) c.args.at p c.args.store.now.heap) c.args.store.now c.args.left.now c.give_part-in-Ok-Found.new.store c.give_part-in-Ok-Found.new.left c.give_part-in-Ok-Found.result)
    (sym (cut_found c.args.s.now c.args.left.now.steps (found_from (sought_of c.args.separator.now) c.args.s.now c.args.at) c.in-Ok-Found.found c.in-Ok-Found.tries found)) answer
