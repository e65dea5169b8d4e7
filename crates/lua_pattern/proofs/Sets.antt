-- Sets that are read, and what stands behind an escape.
use Rattle.std.proofs.Common.{◌≡◌, ℕ, ◌-◌, false, cond, ◌==◌, List, ◌∷◌, slice_get, sym, ◌∙◌, ap}
use Rattle.lua_pattern.specs.declared.item.Set.{Set}
use Rattle.lua_pattern.specs.declared.item.Item.TheVariants as item
use Rattle.lua_pattern.specs.declared.item.Single.TheVariants as single
use Rattle.lua_pattern.specs.declared.read.Reading.{Reading}
use Rattle.lua_pattern.specs.Read.{Unclosed, Closed, Next, Stops, Goes, with_item, set_body, after_turn, is_turned, frontier, frontier_item, set_item, repetition, after_repetition, after_escape, repeated, single_of, escaped, back, balance}
use Rattle.lua_pattern.specs.Texts.{between}

pub frontier_lacks : (text bs : List ℕ) (b : ℕ) (r : Reading) → text ≡ b ∷ bs → (b == 91) ≡ false → frontier text r ≡ Stops 3
frontier_lacks text bs b r e h = ap (λ t. frontier t r) e ∙ ap (λ v. cond v (frontier_item (is_turned bs) (set_body (after_turn bs)) r) (Stops 3)) h

is_frontier : (text bs : List ℕ) (b : ℕ) (r : Reading) → text ≡ b ∷ bs → b ≡ 91 → frontier text r ≡ frontier_item (is_turned bs) (set_body (after_turn bs)) r
is_frontier text bs b r e h = ap (λ t. frontier t r) e ∙ ap (λ c. cond (c == 91) (frontier_item (is_turned bs) (set_body (after_turn bs)) r) (Stops 3)) h

pub frontier_stops : (text bs : List ℕ) (b : ℕ) (r : Reading) → text ≡ b ∷ bs → b ≡ 91 → set_body (after_turn bs) ≡ Unclosed → frontier text r ≡ Stops 2
frontier_stops text bs b r e h u = is_frontier text bs b r e h ∙ ap (λ s. frontier_item (is_turned bs) s r) u

pub frontier_reads : (text bs later : List ℕ) (b : ℕ) (set : Set) (r : Reading) → text ≡ b ∷ bs → b ≡ 91 →
    set_body (after_turn bs) ≡ Closed set.parts later → set.negated ≡ is_turned bs → frontier text r ≡ Goes later (with_item (item.Frontier set) r)
frontier_reads text bs later b set r e h u n =
    is_frontier text bs b r e h ∙ ap (λ s. frontier_item (is_turned bs) s r) u
    ∙ ap (λ t. Goes later (with_item (item.Frontier (record { negated = t; parts = set.parts })) r)) (sym n)

pub set_stops : (text : List ℕ) (r : Reading) → set_body (after_turn text) ≡ Unclosed → set_item (is_turned text) (set_body (after_turn text)) r ≡ Stops 2
set_stops text r u = ap (λ s. set_item (is_turned text) s r) u

pub set_reads : (text later : List ℕ) (set : Set) (r : Reading) → set_body (after_turn text) ≡ Closed set.parts later → set.negated ≡ is_turned text →
    set_item (is_turned text) (set_body (after_turn text)) r ≡ Goes (after_repetition later) (with_item (repetition (single.Of set) later) r)
set_reads text later set r u n =
    ap (λ s. set_item (is_turned text) s r) u
    ∙ ap (λ t. Goes (after_repetition later) (with_item (repetition (single.Of (record { negated = t; parts = set.parts })) later) r)) (sym n)

pub escape_frontier : (text bs : List ℕ) (b : ℕ) (r : Reading) → text ≡ b ∷ bs → b ≡ 102 → after_escape text r ≡ frontier bs r
escape_frontier text bs b r e h = ap (λ t. after_escape t r) e ∙ ap (λ c. after_escape (c ∷ bs) r) h

pub escape_repeats : (text bs : List ℕ) (b : ℕ) (r : Reading) → text ≡ b ∷ bs → (b == 98) ≡ false → (b == 102) ≡ false → between 49 57 b ≡ false →
    after_escape text r ≡ repeated (single_of (escaped b)) bs r
escape_repeats text bs b r e h1 h2 h3 =
    let other : Next = repeated (single_of (escaped b)) bs r in
    let digit : Next = back (slice_get r.slots (b - 49)) bs r in
    ap (λ t. after_escape t r) e
    ∙ ap (λ v. cond v (balance bs r) (cond (b == 102) (frontier bs r) (cond (between 49 57 b) digit other))) h1
    ∙ ap (λ v. cond v (frontier bs r) (cond (between 49 57 b) digit other)) h2
    ∙ ap (λ v. cond v digit other) h3
