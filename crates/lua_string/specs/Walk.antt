-- The way of `gsub` and `gmatch` from place to place (Lua 5.1 manual, 5.4, string.gsub, string.gmatch), over any alphabet.
use Rattle.std.specs.Prelude.{◌≡◌, ℕ, zero, suc, ◌+◌, ◌-◌, ◌≤◌, ◌<◌, Bool, true, false, nat_lt, if◌then◌else◌, List, [], ◌∷◌, ◌++◌, length, take, drop, Option, Some, None}
use Rattle.lua_pattern.specs.declared.item.Item.{Item}
use Rattle.lua_pattern.specs.Letters.{Symbol, Letters}
use Rattle.lua_pattern.specs.Way.{Answer, At, Nowhere, Outcome, Hit, Miss, way, costs, first}

-- one match: where it starts and ends, and the places of its marks
pub record Step : Type 0 where
  pub start : ℕ
  pub end : ℕ
  pub marks : List ℕ

-- From a place: there is no match; or the first match, and the place where it goes on, if there is one. With the tries.
pub data Walk : Type 0 where
  Stops : ℕ → Walk
  Meets : ℕ → Step → Option ℕ → Walk

abbrev pub behind_first : List Symbol → ℕ → Option ℕ
behind_first [] at = None
behind_first (c ∷ cs) at = Some (at + c.size)

-- Behind a match that is not empty it goes on at its end, and behind an empty one at the next symbol. Under `^` it ends.
abbrev pub next_place : Letters → Bool → List ℕ → ℕ → ℕ → Option ℕ
next_place a true s start end = None
next_place a false s start end = if nat_lt start end then Some end else behind_first (a.symbols (drop start s)) start

abbrev pub walk_on : Letters → Bool → List ℕ → Answer → Walk
walk_on a anchored s (Nowhere n) = Stops n
walk_on a anchored s (At start end marks n) =
    Meets n (record { start = start; end = end; marks = marks }) (next_place a anchored s start end)

abbrev pub walk : Letters → Bool → List Item → List ℕ → ℕ → Walk
walk a anchored items s from = walk_on a anchored s (first a anchored items s from)

-- ---- replacing

-- the bytes from a place to another
abbrev pub span : List ℕ → ℕ → ℕ → List ℕ
span s from to = take (to - from) (drop from s)

-- a text and tries in front of others
abbrev pub before : List ℕ → ℕ → List ℕ × ℕ → List ℕ × ℕ
before text tries p = (text ++ p.0, tries + p.1)

abbrev pub on_walk : List ℕ → (Step → List ℕ) → (ℕ → ℕ → List ℕ × ℕ) → ℕ → Walk → List ℕ × ℕ
on_walk s r more copied (Stops tries) = (drop copied s, tries)
on_walk s r more copied (Meets tries step None) = before (span s copied step.start ++ r step) tries (drop step.end s, 0)
on_walk s r more copied (Meets tries step (Some at)) = before (span s copied step.start ++ r step) tries (more step.end at)

-- The text and the tries of `gsub` by `walk`: for at most `limit` matches, what stands between them as it is, and each by its
-- replacement; the text is copied up to `copied`, and the search goes on at `at`. The fuel is greater than the bytes left.
abbrev pub by_walk : Letters → Bool → List Item → List ℕ → (Step → List ℕ) → ℕ → ℕ → ℕ → ℕ → List ℕ × ℕ
by_walk a anchored items s r zero limit copied at = (drop copied s, 0)
by_walk a anchored items s r (suc n) zero copied at = (drop copied s, 0)
by_walk a anchored items s r (suc n) (suc limit) copied at =
    on_walk s r (by_walk a anchored items s r n limit) copied (walk a anchored items s at)

-- The same from place to place, as Lua's own loop has it: the items are tried at one place; a match is replaced; behind a match
-- that is not empty it goes on, and else one symbol is copied.
abbrev pub one_symbol : List ℕ → (ℕ → List ℕ × ℕ) → List Symbol → ℕ → List ℕ × ℕ
one_symbol s more [] at = (drop at s, 0)
one_symbol s more (c ∷ cs) at = before (take c.size (drop at s)) 0 (more (at + c.size))

abbrev pub behind_match : Letters → Bool → List ℕ → (ℕ → List ℕ × ℕ) → ℕ → ℕ → List ℕ × ℕ
behind_match a true s more start end = (drop end s, 0)
behind_match a false s more start end = if nat_lt start end then more end else one_symbol s more (a.symbols (drop end s)) end

abbrev pub behind_miss : Letters → Bool → List ℕ → (ℕ → List ℕ × ℕ) → ℕ → List ℕ × ℕ
behind_miss a true s more at = (drop at s, 0)
behind_miss a false s more at = one_symbol s more (a.symbols (drop at s)) at

abbrev pub at_place : Letters → Bool → List ℕ → (Step → List ℕ) → (ℕ → List ℕ × ℕ) → (ℕ → List ℕ × ℕ) → ℕ → Outcome → List ℕ × ℕ
at_place a anchored s r same fewer at (Miss tries) = before [] tries (behind_miss a anchored s same at)
at_place a anchored s r same fewer at (Hit end marks tries) =
    before (r (record { start = at; end = end; marks = marks })) tries (behind_match a anchored s fewer at end)

-- an anchor costs one try more
abbrev pub anchor_tries : Bool → ℕ
anchor_tries true = 1
anchor_tries false = 0

abbrev pub by_places : Letters → Bool → List Item → List ℕ → (Step → List ℕ) → ℕ → ℕ → ℕ → List ℕ × ℕ
by_places a anchored items s r zero limit at = (drop at s, 0)
by_places a anchored items s r (suc n) zero at = (drop at s, 0)
by_places a anchored items s r (suc n) (suc limit) at =
    at_place a anchored s r (by_places a anchored items s r n (suc limit)) (by_places a anchored items s r n limit) at
    (costs (anchor_tries anchored) (way a items s at []))

-- Going from place to place and searching on give the same text with the same tries.
abbrev pub GoingOn : Letters → Type 0
GoingOn a =
    (anchored : Bool) (items : List Item) (s : List ℕ) (r : Step → List ℕ) (n m limit at : ℕ) → at ≤ length s → length s - at < n → length s - at < m
    → by_places a anchored items s r n limit at ≡ by_walk a anchored items s r m limit at at
