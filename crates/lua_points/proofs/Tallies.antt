-- What is told of a run doesn't change what a machine does.
use Rattle.std.proofs.Common.{◌≡◌, ℕ, zero, suc, ◌+◌, Option, Some, None, refl, ◌∙◌, ap, arith}
use Rattle.std.specs.Prelude.{max}
use Rattle.page_run.specs.State.{Tally}
use Rattle.page_run.specs.Perform.{less}
use Rattle.lua_goes.specs.LuaSlotsCode.{CWorld}
use Rattle.lua_goes.specs.LuaSlotsSlots.{Slots}
use Rattle.lua_goes.specs.LuaSlotsPoints.{Point, Move, Costs, Marks, Enters, Exits, Now}
use Rattle.lua_goes.specs.LuaSlotsMoves.{moves}
use Rattle.lua_goes.specs.LuaSlotsEnact.{Funds, Enacted, Stands, Short, paid, marked, called, calling, back, enact}
use Rattle.lua_goes.specs.Going.{Reaches, here, further, is_over, is_short, is_short_late, is_asking}
use Rattle.lua_points.specs.Laws.{telling, TallyIsCarried, NothingTold}

-- a tally with these numbers
abbrev with_height : ℕ → Funds → Funds
with_height n f = record f { tally = record f.tally { height = n } }

abbrev with_nodes : ℕ → Funds → Funds
with_nodes n f = record f { tally = record f.tally { nodes = n } }

-- what a move comes to, told the same
abbrev enacted_telling : Tally → Enacted → Enacted
enacted_telling told (Stands q u f) = Stands q u (telling told f)
enacted_telling told (Short w f) = Short w (telling told f)

module _ (told : Tally) where
  module _ (mv : Move) (rest : (f : Funds) → enact mv (telling told f) ≡ enacted_telling told (enact mv f)) where
    pays : (o : Option ℕ) (f : Funds) → paid o (telling told f) (enact mv) ≡ enacted_telling told (paid o f (enact mv))
    pays (Some r) f = rest record f { left = record f.left { steps = r } }
    pays None f = refl

    enters : (o : Option ℕ) (f : Funds) → calling o (telling told f) (enact mv) ≡ enacted_telling told (calling o f (enact mv))
    enters (Some r) f = ap (λ n. enact mv (with_height n (called r (telling told f)))) (higher told.height f.tally.height (f.in_progress + 1)) ∙ rest (called r f)
      where
        higher : (a b c : ℕ) → max (max a b) c ≡ max a (max b c)
        higher a b c = omega arith
    enters None f = refl

    leaves : (n : ℕ) (f : Funds) → enact mv (back n (telling told f)) ≡ enacted_telling told (enact mv (back n f))
    leaves zero f = rest f
    leaves (suc n) f = rest (back (suc n) f)

    marks : (f : Funds) → enact mv (marked (telling told f)) ≡ enacted_telling told (enact mv (marked f))
    marks f = ap (λ n. enact mv (with_nodes n (telling told f))) (further_ told.nodes f.tally.nodes) ∙ rest (marked f)
      where
        further_ : (a b : ℕ) → (a + b) + 1 ≡ a + (b + 1)
        further_ a b = omega arith

  enact-told : (mv : Move) (f : Funds) → enact mv (telling told f) ≡ enacted_telling told (enact mv f)
  enact-told (Now p s) f = refl
  enact-told (Marks mv) f = marks mv (λ g. enact-told mv g) f
  enact-told (Costs n mv) f = pays mv (λ g. enact-told mv g) (less n f.left.steps) f
  enact-told (Enters mv) f = enters mv (λ g. enact-told mv g) (less 1 f.left.calls) f
  enact-told (Exits mv) f = leaves mv (λ g. enact-told mv g) f.in_progress f

  module _ {code : CWorld} {point : Point} {s : Slots} {f : Funds} where
    reaches-told : {q : Point} {u : Slots} {g : Funds} → Reaches code point s f q u g → Reaches code point s (telling told f) q u (telling told g)
    reaches-told here = here
    reaches-told (further p t g q u h l e) = further p t (telling told g) q u (telling told h) (reaches-told l) (enact-told (moves code p t) g ∙ ap (enacted_telling told) e)

pub tally_is_carried : TallyIsCarried
tally_is_carried code point s f _ told (is_over o t g l) = is_over o t (telling told g) (reaches-told told l)
tally_is_carried code point s f _ told (is_asking q fs t g l) = is_asking q fs t (telling told g) (reaches-told told l)
tally_is_carried code point s f _ told (is_short p t g w h l e) = is_short p t (telling told g) w (telling told h) (reaches-told told l) (enact-told told (moves code p t) g ∙ ap (enacted_telling told) e)
tally_is_carried code point s f _ told (is_short_late p t g w h l e) = is_short_late p t (telling told g) w (telling told h) (reaches-told told l) (enact-told told (moves code p t) g ∙ ap (enacted_telling told) e)

pub nothing_told : NothingTold
nothing_told told = ap (λ n. record told { height = n; nodes = told.nodes + 0 }) (same_height told.height) ∙ ap (λ n. record told { nodes = n }) (same_nodes told.nodes)
  where
    same_height : (a : ℕ) → max a 0 ≡ a
    same_height a = omega arith

    same_nodes : (a : ℕ) → a + 0 ≡ a
    same_nodes a = omega arith
