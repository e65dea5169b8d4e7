use Rattle.std.proofs.Common.{◌≡◌, ◌∙◌, ap, sym, rules, [], ◌++◌, append-nil, refl}
use Rattle.lua_strings.proofs.LuaStoreLater.{later-then, later-itself}
use Rattle.lua_strings.specs.LuaBasicSeen.{values_seen}
use Rattle.lua_strings.specs.LuaMeaningIterators.{captures_given}
use Rattle.mw_ustrings.proofs.Values.{one_more_of, one_more_seen}
use Rattle.lua_iterators.proofs.captures.add_captures.Goals as goal

pub each-init : goal.each-init
each-init g c = (c.requires, refl, refl, later-itself c.args.store.now)

pub each-preserved : goal.each-preserved
each-preserved g c =
    let a = g.A.Alphabet.letters in
    let i = c.each.invariant in
    let s = c.each.store in
    let t = c.capture_value.new.store in
    let old = c.each.values in
    let later = c.capture_value.ensures.later in (
      one_more_of s t old c.push.new.self c.in_ok-value.value later i.0 c.in_ok-value.ensures.of c.in_ok-push.ensures.ok,
      one_more_seen s t old c.push.new.self c.in_ok-value.value _ _ _ later i.0 c.in_ok-push.ensures.ok c.in_ok-value.ensures.value
          (ap (λ xs. values_seen s.texts old ++ captures_given a c.args.s.now (record { at = c.args.at; before = c.args.before }) xs) (sym c.in-Some.ensures) ∙ i.1),
      c.capture_value.ensures.heap ∙ i.2,
      later-then c.args.store.now s t i.3 later,
    )

pub returns-clause-values : goal.returns-clause-values
returns-clause-values g c =
    let a = g.A.Alphabet.letters in
    let texts = c.each.store.texts in
    let none : c.each.rest.now ≡ [] = search rules in
    sym (append-nil (values_seen texts c.each.values)) ∙ ap (λ xs. values_seen texts c.each.values ++ captures_given a c.args.s.now (record { at = c.args.at; before = c.args.before }) xs) (sym none) ∙ c.each.invariant.1
