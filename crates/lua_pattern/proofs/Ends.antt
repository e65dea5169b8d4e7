-- Where a search ends.
use Rattle.std.proofs.Common.{◌≡◌, ℕ, ◌-◌, List, [], drop, ◌∙◌, ap, add-zero}
use Rattle.lua_pattern.specs.declared.item.Item.{Item}
use Rattle.lua_pattern.specs.declared.passes.Now.TheVariants.{At, Back}
use Rattle.lua_pattern.specs.Letters.{Letters}
use Rattle.lua_pattern.specs.Way.{Outcome, Hit, Miss, costs, or_else, way}
use Rattle.lua_pattern.specs.Trail.{TrailState, tried}
use Rattle.lua_pattern.specs.Search.{Follows}

pub hit_ends : (a : Letters) (items : List Item) (subject : List ℕ) (o : Outcome) (left index at left_now : ℕ) (state : TrailState) →
    drop index items ≡ [] → Follows a items subject o left (At index at) left_now state → o ≡ Hit at state.marks (left - left_now)
hit_ends a items subject o left index at left_now state e f =
    f.1 ∙ ap (λ l. costs (left - left_now) (or_else (way a l subject at state.marks) (tried a items subject state.choices state.marks))) e
    ∙ ap (λ n. Hit at state.marks n) (add-zero (left - left_now))

pub miss_ends : (a : Letters) (items : List Item) (subject : List ℕ) (o : Outcome) (left left_now : ℕ) (state : TrailState) →
    state.choices ≡ [] → Follows a items subject o left Back left_now state → o ≡ Miss (left - left_now)
miss_ends a items subject o left left_now state e f =
    f.1 ∙ ap (λ cs. costs (left - left_now) (tried a items subject cs state.marks)) e
    ∙ ap (λ n. Miss n) (add-zero (left - left_now))
