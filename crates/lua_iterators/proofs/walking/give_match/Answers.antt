use Rattle.std.proofs.Common.{◌∙◌, ap, arith, Err}
use Rattle.std.proofs.lemmas.Result.{err_from_is_err_and}
use Rattle.lua_string.specs.LuaPatternSizes.{match_bytes}
use Rattle.lua_strings.proofs.LuaStoreLater.{later-then}
use Rattle.lua_strings.specs.LuaBasicSeen.{values_seen}
use Rattle.lua_strings.specs.LuaMeaningIterators.{goes_on}
use Rattle.mw_ustrings.proofs.MwFramesSums.{took_then}
use Rattle.mw_ustrings.proofs.MwFrameTextsCharged.{lacked}
use Rattle.mw_ustrings.proofs.Costs.{values_cover, lacked_second}
use Rattle.mw_ustrings.proofs.Values.{all_of_later}
use Rattle.lua_iterators.specs.Held.{cells_seen}
use Rattle.lua_iterators.proofs.Changed.{cells_later}
use Rattle.lua_iterators.proofs.walking.give_match.Goals as goal

pub go_on-requires : goal.go_on-requires
go_on-requires g c = cells_later c.args.store.now c.match_values.new.store c.args.cells c.match_values.ensures.later c.requires

pub returns-in_err-pay-clause-answer : goal.returns-in_err-pay-clause-answer
returns-in_err-pay-clause-answer g c =
    let p = err_from_is_err_and c.from_residual.result c.from_residual.ensures.1 in
    lacked c.args.tries _ c.args.store.now c.args.left.now c.pay.new.left c.in_err-pay.field-0.0 c.from_residual.result c.in_err-pay.ensures (omega arith) (p.1 ∙ ap Err p.2)

pub returns-in_err-pay_match-clause-answer : goal.returns-in_err-pay_match-clause-answer
returns-in_err-pay_match-clause-answer g c =
    let p = err_from_is_err_and c.from_residual-in_err-pay_match.result c.from_residual-in_err-pay_match.ensures.1 in
    lacked_second c.args.tries (match_bytes c.args.found.now) _ c.args.store.now c.args.left.now c.pay.new.left c.pay_match.new.left c.in_err-pay_match.field-0.0 c.from_residual-in_err-pay_match.result c.in_ok-pay.ensures
    c.in_err-pay_match.ensures (omega arith) (p.1 ∙ ap Err p.2)

pub returns-in_err-go_on-clause-later : goal.returns-in_err-go_on-clause-later
returns-in_err-go_on-clause-later g c = later-then c.args.store.now c.match_values.new.store c.go_on.new.store c.match_values.ensures.later c.go_on.ensures.later

pub returns-clause-answer : goal.returns-clause-answer
returns-clause-answer g c =
    let vs = c.in_ok-values.values in
    let took = took_then c.args.tries (match_bytes c.args.found.now) c.args.left.now c.pay.new.left c.pay_match.new.left c.in_ok-pay.ensures c.in_ok-pay_match.ensures in
    values_cover _ (goes_on g.A.Alphabet.letters c.args.s.now (record { at = c.args.at; before = c.args.before }) (cells_seen c.args.cells) c.args.next c.args.store.now.heap) c.go_on.new.store c.args.left.now c.pay_match.new.left _ vs took
    (c.in_ok-go_on.ensures.heap ∙ ap (goes_on g.A.Alphabet.letters c.args.s.now (record { at = c.args.at; before = c.args.before }) (cells_seen c.args.cells) c.args.next) c.match_values.ensures.heap)
    (ap (λ texts. values_seen texts vs) c.go_on.ensures.texts ∙ c.in_ok-values.ensures.values)

pub returns-clause-of : goal.returns-clause-of
returns-clause-of g c = all_of_later c.match_values.new.store c.go_on.new.store c.in_ok-values.values c.go_on.ensures.later c.in_ok-values.ensures.of

pub returns-clause-later : goal.returns-clause-later
returns-clause-later g c = later-then c.args.store.now c.match_values.new.store c.go_on.new.store c.match_values.ensures.later c.go_on.ensures.later
