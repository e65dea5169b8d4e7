-- Runs of items that make no try.
use Rattle.std.proofs.Common.{◌≡◌, ◌⊎◌, ℕ, zero, suc, ◌+◌, ◌<◌, ◌≤◌, true, false, cond, List, [], ◌∷◌, ◌++◌, length, drop, reverse, slice_index, refl, sym, ◌∙◌, ap, subst, arith, add-zero, inl, inr}
use Rattle.std.proofs.Math.Seq.{drop-append_seam, drop-length}
use Rattle.std.proofs.lemmas.List.{append-nil, append_assoc, length-append, drop-drop, reverse-append, reverse-reverse}
use Rattle.lua_pattern.specs.declared.item.Item.{Item}
use Rattle.lua_pattern.specs.declared.item.Item.TheVariants.{One, Star, Plus, Minus, Maybe, Back, Balance, Frontier, Mark, End}
use Rattle.lua_pattern.specs.Letters.{Letters, Symbol}
use Rattle.lua_pattern.specs.Way.{way, star, least_first, maybe}
use Rattle.lua_pattern.specs.declared.item.Single.{Single}
use Rattle.lua_pattern.specs.declared.items.Run.{Run}
use Rattle.lua_pattern.specs.declared.items.Run.TheVariants.{Idle, Few}
use Rattle.lua_pattern.specs.Runs.{is_in, leading, IsNoted}
use Rattle.lua_pattern.proofs.Laws.{costs_zero}

-- Behind the idle items there is what there is in front of them.
pub idle_passed : (a : Letters) (items : List Item) (subject : List ℕ) (at : ℕ) (marks : List ℕ) → a.symbols (drop at subject) ≡ [] →
    way a items subject at marks ≡ way a (drop (leading Idle items) items) subject at marks
idle_passed a [] subject at marks e = refl
idle_passed a (Star x ∷ items) subject at marks e =
    ap (λ (cs : List Symbol). star a x cs (way a items subject) at marks) e ∙ costs_zero (way a items subject at marks) ∙ idle_passed a items subject at marks e
idle_passed a (Minus x ∷ items) subject at marks e =
    ap (λ (cs : List Symbol). least_first a x cs (way a items subject) at marks) e ∙ idle_passed a items subject at marks e
idle_passed a (Maybe x ∷ items) subject at marks e =
    ap (λ (cs : List Symbol). maybe a x cs (way a items subject) at marks) e ∙ idle_passed a items subject at marks e
idle_passed a (One x ∷ items) subject at marks e = refl
idle_passed a (Plus x ∷ items) subject at marks e = refl
idle_passed a (Back left right ∷ items) subject at marks e = refl
idle_passed a (Balance x y ∷ items) subject at marks e = refl
idle_passed a (Frontier set ∷ items) subject at marks e = refl
idle_passed a (Mark ∷ items) subject at marks e = refl
idle_passed a (End ∷ items) subject at marks e = refl

-- What is noted tells an index behind a run, or nothing is noted.
abbrev pub Behind : List ℕ → ℕ → ℕ → ℕ → Type 0
Behind noted index other result =
    (r : Run) (items : List Item) → IsNoted r items noted → (result ≡ other) ⊎ (result ≡ index + leading r (drop index items))

skipped : (a : Letters) (items : List Item) (subject : List ℕ) (index next at : ℕ) → a.symbols (drop at subject) ≡ [] →
    (next ≡ index) ⊎ (next ≡ index + leading Idle (drop index items)) → (marks : List ℕ) →
    way a (drop index items) subject at marks ≡ way a (drop next items) subject at marks
skipped a items subject index next at end (inl e) marks = ap (λ n. way a (drop n items) subject at marks) (sym e)
skipped a items subject index next at end (inr e) marks =
    idle_passed a (drop index items) subject at marks end
    ∙ ap (λ (l : List Item). way a l subject at marks) (drop-drop (leading Idle (drop index items)) index items ∙ ap (λ n. drop n items) (sym e))

further : (index next leads : ℕ) → (next ≡ index) ⊎ (next ≡ index + leads) → index ≤ next
further index next leads (inl e) = omega (arith, e)
further index next leads (inr e) = omega (arith, e)

pub idle_skipped : (a : Letters) (noted subject : List ℕ) (index next at : ℕ) → a.symbols (drop at subject) ≡ [] → Behind noted index index next →
    (items : List Item) → IsNoted Idle items noted → (marks : List ℕ) → way a (drop index items) subject at marks ≡ way a (drop next items) subject at marks
idle_skipped a noted subject index next at end h items n marks = skipped a items subject index next at end (h Idle items n) marks

pub idle_further : (noted : List ℕ) (index next : ℕ) → Behind noted index index next → (items : List Item) → IsNoted Idle items noted → index ≤ next
idle_further noted index next h items n = further index next (leading Idle (drop index items)) (h Idle items n)

-- for each item the index of the first one, from it on, that is not in the run
abbrev pub nexts : Run → ℕ → List Item → List ℕ
nexts r at [] = []
nexts r at (x ∷ xs) = (at + leading r (x ∷ xs)) ∷ nexts r (at + 1) xs

pub nexts_noted : (r : Run) (at : ℕ) (items : List Item) (k : ℕ) → k < length (nexts r at items) → slice_index (nexts r at items) k ≡ at + k + leading r (drop k items)
nexts_noted r at [] k lt = absurd (omega (arith, lt))
nexts_noted r at (x ∷ xs) zero lt =
    let e : at + leading r (x ∷ xs) ≡ at + 0 + leading r (x ∷ xs) = omega arith in
    e
nexts_noted r at (x ∷ xs) (suc k) lt =
    let h : slice_index (nexts r (at + 1) xs) k ≡ at + 1 + k + leading r (drop k xs) = nexts_noted r (at + 1) xs k (omega (arith, lt)) in
    let e : slice_index (nexts r (at + 1) xs) k ≡ at + suc k + leading r (drop k xs) = omega (arith, h) in
    e

-- What is noted of the items behind those that are left, the last one first.
pub record NotedBehind (r : Run) (items left : List Item) (next : ℕ) (noted : List ℕ) : Type 0 where
  pub whole : items ≡ left ++ drop (length left) items
  pub first : next ≡ length left + leading r (drop (length left) items)
  pub rest : noted ≡ reverse (nexts r (length left) (drop (length left) items))

pub noted_none : (r : Run) (items : List Item) (next : ℕ) (noted : List ℕ) → next ≡ length items → noted ≡ [] → NotedBehind r items items next noted
noted_none r items next noted en e =
    let d : drop (length items) items ≡ [] = drop-length items in
    record {
      whole = sym (append-nil items) ∙ ap (λ l. items ++ l) (sym d);
      first = en ∙ sym (add-zero (length items)) ∙ ap (λ l. length items + leading r l) (sym d);
      rest = e ∙ ap (λ l. reverse (nexts r (length items) l)) (sym d);
    }

pub noted_more : (r : Run) (items left before : List Item) (item : Item) (next now : ℕ) (noted after : List ℕ) → left ≡ before ++ item ∷ [] →
    now ≡ cond (is_in r item) next (length before) → after ≡ noted ++ now ∷ [] →
    NotedBehind r items left next noted → NotedBehind r items before now after
noted_more r items left before item next now noted after e en ea h =
    let rest : List Item = drop (length left) items in
    let n : length left ≡ length before + 1 = ap length e ∙ length-append before (item ∷ []) in
    let w : items ≡ before ++ (item ∷ rest) = h.whole ∙ ap (λ l. l ++ rest) e ∙ append_assoc before (item ∷ []) rest in
    let d : drop (length before) items ≡ item ∷ rest = ap (drop (length before)) w ∙ drop-append_seam before (item ∷ rest) in
    let f : next ≡ length left + leading r rest = h.first in
    let v : now ≡ length before + leading r (item ∷ rest) =
    en ∙ (elim (is_in r item) as (λ b. cond b next (length before) ≡ length before + cond b (suc (leading r rest)) 0) [
      | true ↦ omega (arith, f, n)
      | false ↦ omega arith
    ]) in
    record {
      whole = w ∙ ap (λ l. before ++ l) (sym d);
      first = v ∙ ap (λ l. length before + leading r l) (sym d);
      rest = ea ∙ ap (λ l. l ++ now ∷ []) h.rest
          ∙ ap (λ k. reverse (nexts r k rest) ++ now ∷ []) n
          ∙ ap (λ k. reverse (nexts r (length before + 1) rest) ++ k ∷ []) v
          ∙ sym (reverse-append ((length before + leading r (item ∷ rest)) ∷ []) (nexts r (length before + 1) rest))
          ∙ ap (λ l. reverse (nexts r (length before) l)) (sym d);
    }

pub noted_all : (r : Run) (items left : List Item) (next : ℕ) (noted after : List ℕ) → left ≡ [] → after ≡ reverse noted →
    NotedBehind r items left next noted → IsNoted r items after
noted_all r items left next noted after e ea h =
    let P : List Item → Type 0 = λ l. noted ≡ reverse (nexts r (length l) (drop (length l) items)) in
    let whole : noted ≡ reverse (nexts r 0 items) = subst P e h.rest in
    let s : nexts r 0 items ≡ after = sym (reverse-reverse (nexts r 0 items)) ∙ ap reverse (sym whole) ∙ sym ea in
    let Q : List ℕ → Type 0 = λ l. (k : ℕ) → k < length l → slice_index l k ≡ k + leading r (drop k items) in
    subst Q s (λ k lt. let f : slice_index (nexts r 0 items) k ≡ 0 + k + leading r (drop k items) = nexts_noted r 0 items k lt in omega (arith, f))

-- Each item of a run of `-` is one.
few_there : (xs : List Item) (k : ℕ) → k < leading Few xs → (y : Single) × (drop k xs ≡ Minus y ∷ drop (suc k) xs)
few_there [] k lt = absurd (omega (arith, lt))
few_there (Minus y ∷ xs) zero lt = (y, refl)
few_there (Minus y ∷ xs) (suc k) lt = few_there xs k (omega (arith, lt))
few_there (One x ∷ xs) k lt = absurd (omega (arith, lt))
few_there (Star x ∷ xs) k lt = absurd (omega (arith, lt))
few_there (Plus x ∷ xs) k lt = absurd (omega (arith, lt))
few_there (Maybe x ∷ xs) k lt = absurd (omega (arith, lt))
few_there (Back left right ∷ xs) k lt = absurd (omega (arith, lt))
few_there (Balance x y ∷ xs) k lt = absurd (omega (arith, lt))
few_there (Frontier set ∷ xs) k lt = absurd (omega (arith, lt))
few_there (Mark ∷ xs) k lt = absurd (omega (arith, lt))
few_there (End ∷ xs) k lt = absurd (omega (arith, lt))

pub few_at : (items : List Item) (index k : ℕ) → k < leading Few (drop index items) → (y : Single) × (drop (index + k) items ≡ Minus y ∷ drop (index + suc k) items)
few_at items index k lt =
    let p = few_there (drop index items) k lt in
    (p.0, sym (drop-drop k index items) ∙ p.1 ∙ ap (λ (l : List Item). Minus p.0 ∷ l) (drop-drop (suc k) index items))

pub few_leads : (l rest : List Item) (x : Single) → l ≡ Minus x ∷ rest → 0 < leading Few l
few_leads l rest x e =
    let P : List Item → Type 0 = λ k. 0 < leading Few k in
    subst P (sym e) (omega arith)

within : (leads index next result : ℕ) → (result ≡ next) ⊎ (result ≡ index + leads) → next ≡ index + 1 → 0 < leads → (index < result) × (result ≤ index + leads)
within leads index next result (inl e) en lt = (omega (arith, e, en), omega (arith, e, en, lt))
within leads index next result (inr e) en lt = (omega (arith, e, lt), omega (arith, e))

pub few_behind : (noted : List ℕ) (index next result : ℕ) → Behind noted index next result → next ≡ index + 1 →
    (items : List Item) → IsNoted Few items noted → 0 < leading Few (drop index items) → (index < result) × (result ≤ index + leading Few (drop index items))
few_behind noted index next result h en items n lt = within (leading Few (drop index items)) index next result (h Few items n) en lt

-- A run fits into its items.
pub leading_fits : (r : Run) (xs : List Item) → leading r xs ≤ length xs
leading_fits r [] = omega arith
leading_fits r (x ∷ xs) =
    let h : leading r xs ≤ length xs = leading_fits r xs in
    elim (is_in r x) as (λ b. cond b (suc (leading r xs)) 0 ≤ suc (length xs)) [ true ↦ omega (arith, h) | false ↦ omega arith ]
