use Rattle.std.proofs.Common.{◌≡◌, ◌∙◌, ap, sym, subst, length, Some, None, w64}
use Rattle.std.proofs.lemmas.Int.{to_z-of_z}
use Rattle.std.proofs.lemmas.List.{length-map, drop-map}
use Rattle.lua_store.specs.Seen.{seen}
use Rattle.lua_meaning.specs.Arguments.{gives}
use Rattle.lua_basic.specs.Select.{left_out}
use Rattle.lua_basic.specs.Seen.{values_seen, Stops}
use Rattle.lua_basic.proofs.Counts.{behind_them, from-place}
use Rattle.lua_basic.proofs.choosing.from_place.Goals as goal

pub returns-in_ok-chosen-in-Some-clause-answer : goal.returns-in_ok-chosen-in-Some-clause-answer
returns-in_ok-chosen-in-Some-clause-answer c =
    let vs = values_seen c.args.store.now.texts c.args.values.now in
    let h = c.args.store.now.heap in
    let place : left_out c.args.place (length vs) ≡ Some c.in-Some.n = ap (left_out c.args.place) (length-map c.args.values.now (seen c.args.store.now.texts)) ∙ sym (rw (to_z-of_z w64 c.args.place c.ranges.place) at c.in-Some.ensures.place) in
    rw (c.in_ok-chosen-in-Some.ensures, c.behind.ensures)
    (from-place c.args.place vs h ∙ ap (λ o. behind_them o vs h) place ∙ ap (gives h) (drop-map (seen c.args.store.now.texts) c.in-Some.n c.args.values.now))

pub returns-in-None-clause-answer : goal.returns-in-None-clause-answer
returns-in-None-clause-answer c =
    let vs = values_seen c.args.store.now.texts c.args.values.now in
    let h = c.args.store.now.heap in
    let place : left_out c.args.place (length vs) ≡ None = ap (left_out c.args.place) (length-map c.args.values.now (seen c.args.store.now.texts)) ∙ sym (rw (to_z-of_z w64 c.args.place c.ranges.place) at c.in-None.ensures.place) in
    subst (λ q. Stops q c.refuse.new.store c.refuse.result) (sym (from-place c.args.place vs h ∙ ap (λ o. behind_them o vs h) place)) c.refuse.ensures.raises
