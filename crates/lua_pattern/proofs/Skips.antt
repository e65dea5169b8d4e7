-- A search goes on behind idle items.
use Rattle.std.proofs.Common.{◌≡◌, ℕ, ◌-◌, ◌<◌, ◌≤◌, List, [], drop, ◌∙◌, ap, arith}
use Rattle.lua_pattern.specs.declared.item.Item.{Item}
use Rattle.lua_pattern.specs.declared.items.Run.TheVariants.{Idle}
use Rattle.lua_pattern.specs.declared.passes.Now.{Now}
use Rattle.lua_pattern.specs.declared.passes.Now.TheVariants.{At}
use Rattle.lua_pattern.specs.Letters.{Letters}
use Rattle.lua_pattern.specs.Way.{Outcome, Hit, costs, or_else, way}
use Rattle.lua_pattern.specs.Trail.{TrailState, tried}
use Rattle.lua_pattern.specs.Runs.{IsNoted}
use Rattle.lua_pattern.specs.Search.{Follows, from_here, load}
use Rattle.lua_pattern.proofs.StepLemmas.{chain}
use Rattle.lua_pattern.proofs.Ends.{hit_ends}

-- Idle items may be skipped where a search stands.
abbrev pub Skips : Letters → List ℕ → List ℕ → ℕ → ℕ → ℕ → Type 0
Skips a noted subject index next at =
    (items : List Item) → IsNoted Idle items noted → (marks : List ℕ) → way a (drop index items) subject at marks ≡ way a (drop next items) subject at marks

skip_follows : (a : Letters) (items : List Item) (subject : List ℕ) (o : Outcome) (left index next at left_now : ℕ) (state : TrailState) →
    ((marks : List ℕ) → way a (drop index items) subject at marks ≡ way a (drop next items) subject at marks) →
    Follows a items subject o left (At index at) left_now state → Follows a items subject o left (At next at) left_now state
skip_follows a items subject o left index next at left_now state same f =
    (f.0, f.1 ∙ ap (λ w. costs (left - left_now) (or_else w (tried a items subject state.choices state.marks))) (same state.marks))

pub skip_hits : (a : Letters) (items : List Item) (noted subject : List ℕ) (o : Outcome) (left index next at left_now : ℕ) (state : TrailState) →
    Skips a noted subject index next at → IsNoted Idle items noted → drop next items ≡ [] →
    Follows a items subject o left (At index at) left_now state → o ≡ Hit at state.marks (left - left_now)
skip_hits a items noted subject o left index next at left_now state same n e f =
    hit_ends a items subject o left next at left_now state e (skip_follows a items subject o left index next at left_now state (same items n) f)

pub skip_turns : (a : Letters) (items : List Item) (noted subject : List ℕ) (o : Outcome) (left index next at middle : ℕ) (state : TrailState) (now : Now) (left_now : ℕ) (state_now : TrailState) →
    Skips a noted subject index next at → IsNoted Idle items noted → Follows a items subject o left (At index at) middle state →
    Follows a items subject (from_here a items subject (At next at) state) middle now left_now state_now →
    Follows a items subject o left now left_now state_now
skip_turns a items noted subject o left index next at middle state now left_now state_now same n f t =
    let h : Follows a items subject o left (At next at) middle state = skip_follows a items subject o left index next at middle state (same items n) f in
    chain a items subject (from_here a items subject (At next at) state) o left middle now left_now state_now h.0 h.1 t

pub skip_lighter : (count size index next at left : ℕ) (state : TrailState) (load_now : ℕ) → index ≤ next →
    load_now < load count size (At next at) left state → load_now < load count size (At index at) left state
skip_lighter count size index next at left state load_now le lt = omega (arith, le, lt)
