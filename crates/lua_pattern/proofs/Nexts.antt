-- One item after the other.
use Rattle.std.proofs.Common.{◌≡◌, ℕ, zero, suc, ◌-◌, ◌<◌, ◌≤◌, true, false, cond, ◌==◌, nat_le, Bool, List, [], ◌∷◌, Option, length, refl, sym, ◌∙◌, ap, arith}
use Rattle.lua_pattern.specs.declared.read.Reading.{Reading}
use Rattle.lua_pattern.specs.declared.read.PatternFault.{PatternFault}
use Rattle.lua_pattern.specs.declared.read.PatternFault.TheVariants as fault
use Rattle.lua_pattern.specs.Reads.{IsFault, IsReadFault}
use Rattle.lua_pattern.specs.Read.{Stops, Goes, next, single_item, point_or_open, shut, last_open, Read, Fault, finished, go_on, read_from}

pub next_full : (text bs : List ℕ) (b : ℕ) (r : Reading) → text ≡ b ∷ bs → b ≡ 40 → nat_le 32 (length r.slots) ≡ true → next text r ≡ Stops 6
next_full text bs b r e h f =
    ap (λ t. next t r) e ∙ ap (λ c. next (c ∷ bs) r) h ∙ ap (λ v. cond v (Stops 6) (point_or_open bs r)) f

pub next_open : (text bs : List ℕ) (b : ℕ) (r : Reading) → text ≡ b ∷ bs → b ≡ 40 → nat_le 32 (length r.slots) ≡ false → next text r ≡ point_or_open bs r
next_open text bs b r e h f =
    ap (λ t. next t r) e ∙ ap (λ c. next (c ∷ bs) r) h ∙ ap (λ v. cond v (Stops 6) (point_or_open bs r)) f

pub next_shut : (text bs : List ℕ) (b : ℕ) (r : Reading) → text ≡ b ∷ bs → b ≡ 41 → next text r ≡ shut (last_open r.slots) bs r
next_shut text bs b r e h = ap (λ t. next t r) e ∙ ap (λ c. next (c ∷ bs) r) h

pub next_item : (text bs : List ℕ) (b : ℕ) (r : Reading) → text ≡ b ∷ bs → (b == 40) ≡ false → (b == 41) ≡ false → next text r ≡ single_item b bs r
next_item text bs b r e h1 h2 =
    ap (λ t. next t r) e
    ∙ ap (λ v. cond v (cond (nat_le 32 (length r.slots)) (Stops 6) (point_or_open bs r)) (cond (b == 41) (shut (last_open r.slots) bs r) (single_item b bs r))) h1
    ∙ ap (λ v. cond v (shut (last_open r.slots) bs r) (single_item b bs r)) h2

read_turn : (a : Bool) (n : ℕ) (text : List ℕ) (r : Reading) → 0 < length text → length text ≤ n → read_from a n text r ≡ go_on (read_from a (n - 1)) (next text r)
read_turn a n [] r lt le = absurd (omega (arith, lt))
read_turn a zero (b ∷ bs) r lt le = absurd (omega (arith, le))
read_turn a (suc n) (b ∷ bs) r lt le = let s : n ≡ suc n - 1 = omega arith in ap (λ k. go_on (read_from a k) (next (b ∷ bs) r)) s

pub read_more : (whole : Read) (a : Bool) (n : ℕ) (text later : List ℕ) (r after : Reading) → whole ≡ read_from a n text r → 0 < length text → length text ≤ n →
    next text r ≡ Goes later after → whole ≡ read_from a (n - 1) later after
read_more whole a n text later r after e lt le h = e ∙ read_turn a n text r lt le ∙ ap (go_on (read_from a (n - 1))) h

pub read_stops : (whole : Read) (a : Bool) (n k : ℕ) (text : List ℕ) (r : Reading) → whole ≡ read_from a n text r → 0 < length text → length text ≤ n →
    next text r ≡ Stops k → whole ≡ Fault k
read_stops whole a n k text r e lt le h = e ∙ read_turn a n text r lt le ∙ ap (go_on (read_from a (n - 1))) h

read_end : (a : Bool) (n : ℕ) (text : List ℕ) (r : Reading) → length text ≤ 0 → read_from a n text r ≡ finished a (last_open r.slots) r
read_end a zero text r le = refl
read_end a (suc n) [] r le = refl
read_end a (suc n) (b ∷ bs) r le = absurd (omega (arith, le))

pub read_ends : (whole : Read) (a : Bool) (n : ℕ) (text : List ℕ) (r : Reading) (o : Option (ℕ × ℕ)) → whole ≡ read_from a n text r → length text ≤ 0 → o ≡ last_open r.slots → whole ≡ finished a o r
read_ends whole a n text r o e le h = e ∙ read_end a n text r le ∙ ap (λ x. finished a x r) (sym h)

pub read_faults : (whole : Read) (a : Bool) (n : ℕ) (text : List ℕ) (r : Reading) (e : PatternFault) → whole ≡ read_from a n text r → 0 < length text → length text ≤ n →
    IsFault (next text r) e → IsReadFault whole e
read_faults whole a n text r (fault.At k) s lt le h = read_stops whole a n k text r s lt le h
read_faults whole a n text r fault.NoMemory s lt le h = tt
