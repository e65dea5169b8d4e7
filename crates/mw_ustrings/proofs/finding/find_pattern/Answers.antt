use Rattle.std.proofs.Common.{subst, sym, Err, w64}
use Rattle.std.proofs.lemmas.Int.{to_z-of_z}
use Rattle.lua_pattern.specs.Read.{read_of, codes}
use Rattle.lua_pattern.specs.Sizes.{find_bytes}
use Rattle.lua_pattern.specs.Texts.{points}
use Rattle.mw_frame_texts.proofs.LuaStoreLater.{later-itself}
use Rattle.mw_frame_texts.specs.LuaBasicSeen.{Paid}
use Rattle.mw_frame_texts.proofs.LuaBasicFound.{for_nothing}
use Rattle.mw_text.specs.MwUstringFinds.{start_of}
use Rattle.mw_frame_texts.specs.LuaMeaningUstring.{find_values, searches}
use Rattle.mw_ustrings.proofs.Costs.{exceeded}
use Rattle.mw_ustrings.proofs.Searches.{search_found, search_none, search_spent, search_fault}
use Rattle.mw_ustrings.proofs.finding.find_pattern.Goals as goal

pub returns-in-Err-clause-answer : goal.returns-in-Err-clause-answer
returns-in-Err-clause-answer c =
    let s = c.args.store.now in
    for_nothing (searches s.heap find_bytes (find_values c.args.s.now) c.args.s.now (start_of c.args.s.now c.args.init) (read_of (codes points c.args.pattern.now))) s c.refuse_pattern.new.store c.args.left.now (Err c.refuse_pattern.result)
    (search_fault find_bytes (find_values c.args.s.now) c.args.s.now (start_of c.args.s.now c.args.init) (read_of (codes points c.args.pattern.now)) _ s c.refuse_pattern.new.store c.refuse_pattern.result c.in-Err.ensures.found c.refuse_pattern.ensures.stops)

pub returns-in-Ok-Spent-clause-answer : goal.returns-in-Ok-Spent-clause-answer
returns-in-Ok-Spent-clause-answer c =
    let found = rw (c.in-Ok-Spent.field-0-is, to_z-of_z w64 c.args.init c.ranges.init) at c.in-Ok-Spent.ensures.found in
    exceeded _ c.args.store.now c.args.left.now c.spend.new.left c.spend.result
    (search_spent c.args.store.now.heap find_bytes (find_values c.args.s.now) c.args.left.now.steps c.args.s.now (start_of c.args.s.now c.args.init) (read_of (codes points c.args.pattern.now)) found)
    c.spend.ensures.stop_ c.spend.ensures.rest

pub returns-in-Ok-NotFound-clause-answer : goal.returns-in-Ok-NotFound-clause-answer
returns-in-Ok-NotFound-clause-answer c =
    let s = c.args.store.now in
    let found = rw (c.in-Ok-NotFound.field-0-is, to_z-of_z w64 c.args.init c.ranges.init) at c.in-Ok-NotFound.ensures.found in
    subst (λ q. Paid q s c.args.left.now c.give_nothing.new.store c.give_nothing.new.left c.give_nothing.result)
    (sym (search_none s.heap find_bytes (find_values c.args.s.now) c.args.left.now.steps c.args.s.now (start_of c.args.s.now c.args.init) (read_of (codes points c.args.pattern.now)) c.in-Ok-NotFound.tries found)) c.give_nothing.ensures.answer

pub returns-in-Ok-NotFound-clause-later : goal.returns-in-Ok-NotFound-clause-later
returns-in-Ok-NotFound-clause-later c = rw c.give_nothing.ensures.same (later-itself c.args.store.now)

pub give_found-requires-clause-start : goal.give_found-requires-clause-start
give_found-requires-clause-start c = (rw c.in-Ok-Found.field-0-is at c.in-Ok-Found.ensures.places).2

pub give_found-requires-clause-end : goal.give_found-requires-clause-end
give_found-requires-clause-end c = (rw c.in-Ok-Found.field-0-is at c.in-Ok-Found.ensures.places).3

pub give_found-requires-clause-captures : goal.give_found-requires-clause-captures
give_found-requires-clause-captures c = (rw c.in-Ok-Found.field-0-is at c.in-Ok-Found.ensures.places).4

pub returns-in-Ok-Found-clause-answer : goal.returns-in-Ok-Found-clause-answer
returns-in-Ok-Found-clause-answer c =
    let s = c.args.store.now in
    let found = rw (c.in-Ok-Found.field-0-is, to_z-of_z w64 c.args.init c.ranges.init) at c.in-Ok-Found.ensures.found in
    subst (λ q. Paid q s c.args.left.now c.give_found.new.store c.give_found.new.left c.give_found.result)
    (sym (search_found s.heap find_bytes (find_values c.args.s.now) c.args.left.now.steps c.args.s.now (start_of c.args.s.now c.args.init) (read_of (codes points c.args.pattern.now)) c.in-Ok-Found.found c.in-Ok-Found.tries found)) c.give_found.ensures.answer
