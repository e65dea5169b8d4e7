use Rattle.std.proofs.lemmas.Option.{slice_get_within, get_or_from_slice_get}
use Rattle.lua_store.proofs.Changes.{with_one_text, one_text, later_of}
use Rattle.lua_store.proofs.store.Store.text.Goals as goal

pub invariant_of-self-2 : goal.invariant_of-self-2
invariant_of-self-2 c = rw c.in_ok-place.ensures.added (with_one_text _ c.self.invariant c.args.bytes.now).whole

pub returns-clause-of : goal.returns-clause-of
returns-clause-of c = rw c.of_place.ensures (slice_get_within c.place.new.self _ _ c.in_ok-place.ensures.there)

pub returns-clause-there : goal.returns-clause-there
returns-clause-there c = rw c.of_place.ensures (get_or_from_slice_get c.place.new.self _ _ _ c.in_ok-place.ensures.there)

pub returns-clause-added : goal.returns-clause-added
returns-clause-added c = rw (← c.self.view_is, c.in_ok-place.ensures.added) (with_one_text _ c.self.invariant c.args.bytes.now).shown

pub returns-clause-one : goal.returns-clause-one
returns-clause-one c other of is =
    let became = with_one_text _ c.self.invariant c.args.bytes.now in
    rw c.of_place.ensures (one_text _ became.whole c.args.bytes.now other _ (rw c.in_ok-place.ensures.added at of) (rw c.in_ok-place.ensures.added at is) (rw c.in_ok-place.ensures.added at c.in_ok-place.ensures.there))

pub returns-clause-later : goal.returns-clause-later
returns-clause-later c = rw (← c.self.view_is, c.in_ok-place.ensures.added) (later_of _ _ _ (with_one_text _ c.self.invariant c.args.bytes.now))
