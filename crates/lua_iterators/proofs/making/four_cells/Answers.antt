use Rattle.std.proofs.Common.{refl, [], ◌∷◌}
use Rattle.lua_strings.specs.LuaStoreSeen.{seen}
use Rattle.lua_strings.proofs.LuaStoreLater.{later-then}
use Rattle.lua_iterators.proofs.making.four_cells.Goals as goal

pub returns-clause-made : goal.returns-clause-made
returns-clause-made c =
    let u = c.add_cell.new.store in
    let v = c.add_cell-2.new.store in
    let w = c.add_cell-3.new.store in
    let h = c.add_cell-4.new.store.heap in
    let four = c.in_ok-other.ensures.made [] h [] refl in
    let three = c.in_ok-place.ensures.made (seen w.texts c.args.other ∷ []) h (c.in_ok-other.other.at ∷ []) four in
    let two = c.in_ok-pattern.ensures.made (seen v.texts c.args.place ∷ seen w.texts c.args.other ∷ []) h (c.in_ok-place.place.at ∷ c.in_ok-other.other.at ∷ []) three in
    let one = c.in_ok-subject.ensures.made (seen u.texts c.args.pattern ∷ seen v.texts c.args.place ∷ seen w.texts c.args.other ∷ []) h (c.in_ok-pattern.pattern.at ∷ c.in_ok-place.place.at ∷ c.in_ok-other.other.at ∷ []) two in
    rw (c.add_cell-3.ensures.texts, c.add_cell-2.ensures.texts, c.add_cell.ensures.texts) at one

pub returns-in_err-place-clause-later : goal.returns-in_err-place-clause-later
returns-in_err-place-clause-later c = later-then _ _ _ c.in_ok-subject.ensures.later (later-then _ _ _ c.in_ok-pattern.ensures.later c.in_err-place.ensures.later)

pub returns-in_err-other-clause-later : goal.returns-in_err-other-clause-later
returns-in_err-other-clause-later c = later-then _ _ _ c.in_ok-subject.ensures.later (later-then _ _ _ c.in_ok-pattern.ensures.later (later-then _ _ _ c.in_ok-place.ensures.later c.in_err-other.ensures.later))

pub returns-clause-later : goal.returns-clause-later
returns-clause-later c = later-then _ _ _ c.in_ok-subject.ensures.later (later-then _ _ _ c.in_ok-pattern.ensures.later (later-then _ _ _ c.in_ok-place.ensures.later c.in_ok-other.ensures.later))
