use Rattle.std.proofs.Common.{◌≡◌, ◌<◌, ◌∙◌, ap, sym, refl, rules, arith, length}
use Rattle.std.proofs.lemmas.List.{drop-map, length-map}
use Rattle.mw_frame_texts.specs.LuaStoreSeen.{seen}
use Rattle.mw_frame_texts.proofs.LuaStoreLater.{later-itself}
use Rattle.mw_frame_texts.specs.LuaBasicSeen.{values_seen}
use Rattle.mw_frame_texts.specs.LuaMeaningUstring.{points_text}
use Rattle.mw_ustrings.proofs.Values.{all_drop}
use Rattle.mw_ustrings.proofs.Points.{none_checked, one_checked, one_refused, all_checked}
use Rattle.mw_ustrings.proofs.char_of.check_points.Goals as goal

pub each-init : goal.each-init
each-init c = (refl, none_checked (values_seen c.args.store.now.texts c.args.args.now))

pub a_point-requires-clause-of : goal.a_point-requires-clause-of
a_point-requires-clause-of c = rw (c.each.invariant.0, c.values_from.ensures) (all_drop c.args.store.now c.each.at c.args.args.now c.requires)

pub each-preserved : goal.each-preserved
each-preserved c =
    let s = c.args.store.now in
    let vs = values_seen s.texts c.args.args.now in
    let lt : c.each.at < length c.args.args.now = search rules in
    let within : c.each.at < length vs = omega (arith, lt, length-map c.args.args.now (seen s.texts)) in
    let given = ap (values_seen s.texts) c.values_from.ensures ∙ sym (drop-map (seen s.texts) c.each.at c.args.args.now) in
    let found = rw c.each.invariant.0 at c.in-Ok.ensures.found in (
      c.in-Ok.ensures.same ∙ c.each.invariant.0,
      one_checked _ c.each.at vs _ (points_text 1 vs) within given found c.each.invariant.1,
    )

pub returns-in-Err-clause-refused : goal.returns-in-Err-clause-refused
returns-in-Err-clause-refused c =
    let s = c.args.store.now in
    let vs = values_seen s.texts c.args.args.now in
    let lt : c.each.at < length c.args.args.now = search rules in
    let within : c.each.at < length vs = omega (arith, lt, length-map c.args.args.now (seen s.texts)) in
    let given = ap (values_seen s.texts) c.values_from.ensures ∙ sym (drop-map (seen s.texts) c.each.at c.args.args.now) in
    let none = rw c.each.invariant.0 at c.in-Err.ensures.refused in
    one_refused c.each.at vs _ (points_text 1 vs) s c.a_point.new.store _ within given none c.each.invariant.1

pub returns-in-Err-clause-later : goal.returns-in-Err-clause-later
returns-in-Err-clause-later c = rw c.each.invariant.0 at c.a_point.ensures.later

pub returns-clause-found : goal.returns-clause-found
returns-clause-found c =
    let s = c.args.store.now in
    let vs = values_seen s.texts c.args.args.now in
    let all : length c.args.args.now ≡ c.each.at = search rules in
    all_checked c.each.at vs (length-map c.args.args.now (seen s.texts) ∙ all) c.each.invariant.1

pub returns-clause-same : goal.returns-clause-same
returns-clause-same c = c.each.invariant.0

pub returns-clause-later : goal.returns-clause-later
returns-clause-later c = rw c.each.invariant.0 (later-itself c.args.store.now)
