-- The four tables of a frame, step by step. The lists of entries are variables here.
use Rattle.std.proofs.Common.{◌≡◌, ◌∙◌, ap, sym, refl, arith, ℕ, zero, suc, ◌+◌, false, List, [], ◌∷◌, ◌++◌, append_assoc, length, map, slice_set, slice_index_or, length-append}
use Rattle.lua_basic.specs.LuaTableEntries.{Contents}
use Rattle.lua_basic.specs.LuaHeapValue.{Value, Nil, Table}
use Rattle.lua_basic.specs.LuaHeapTable.{Entries, empty_table}
use Rattle.lua_basic.specs.LuaHeapHeap.{Heap, with_entry, table_at, new_table, set_meta_in}
use Rattle.lua_home.specs.LuaMeaningFrames.{arg_entries, with_table, args_meta, frame_entries, frame_meta, make_frame}
use Rattle.mw_frame.specs.declared.scene.Arg.{Arg}
use Rattle.mw_frame.specs.declared.scene.Scene.{Scene}
use Rattle.lua_home.specs.LuaGraphPut.{filled}
use Rattle.lua_home.proofs.LuaGraphJoining.{with_tables, at_seam, set_seam, all_set}
use Rattle.mw_frames.specs.Making.{arg_entry, with_pair}

abbrev plain_table : Entries → Value → Contents Value
plain_table es meta = record { entries = es; meta = meta; frozen = false }

-- A PAIR of tables behind those that are there
two_behind : {A : Type 0} (ts : List A) (a b : A) → (ts ++ a ∷ []) ++ b ∷ [] ≡ ts ++ (a ∷ b ∷ [])
two_behind [] a b = refl
two_behind (t ∷ ts) a b = ap (λ l. t ∷ l) (two_behind ts a b)

pub first_of_two : {A : Type 0} (ts : List A) (a b d : A) (n : ℕ) → n ≡ length ts → slice_index_or ((ts ++ a ∷ []) ++ b ∷ []) n d ≡ a
first_of_two ts a b d n e = ap (λ l. slice_index_or l n d) (two_behind ts a b) ∙ ap (λ i. slice_index_or (ts ++ (a ∷ b ∷ [])) i d) e ∙ at_seam ts a d (b ∷ [])

set_first : {A : Type 0} (ts : List A) (a b c : A) (n : ℕ) → n ≡ length ts → slice_set ((ts ++ a ∷ []) ++ b ∷ []) n c ≡ (ts ++ c ∷ []) ++ b ∷ []
set_first ts a b c n e = ap (λ l. slice_set l n c) (two_behind ts a b) ∙ ap (λ i. slice_set (ts ++ (a ∷ b ∷ [])) i c) e ∙ set_seam ts a c (b ∷ []) ∙ sym (two_behind ts c b)

pub paired : {X : Type 0} (h f g i : Heap X) (n m : ℕ) → f ≡ (new_table h).0 → g ≡ (new_table f).0 → n ≡ length h.tables → m ≡ length h.tables + 1 → i ≡ set_meta_in g n (Table m) → i ≡ with_pair h
paired h f g i n m fe ge ne me ie =
    let two : Heap _ = with_tables h ((h.tables ++ empty_table ∷ []) ++ empty_table ∷ []) in
    let is : g ≡ two = ge ∙ ap (λ x. (new_table x).0) fe in
    ie ∙ ap (λ x. set_meta_in x n (Table m)) is
    ∙ ap (λ (t : Contents Value). with_tables h (slice_set ((h.tables ++ empty_table ∷ []) ++ empty_table ∷ []) n (record t { meta = Table m }))) (first_of_two h.tables empty_table empty_table empty_table n ne)
    ∙ ap (with_tables h) (set_first h.tables empty_table empty_table (plain_table [] (Table m)) n ne)
    ∙ ap (λ k. with_tables h ((h.tables ++ plain_table [] (Table k) ∷ []) ++ empty_table ∷ [])) me

-- A TABLE IS FILLED that stands behind others
abbrev full : Contents Value → Entries → Contents Value
full t es = record t { entries = all_set t.entries es }

module _ {X : Type 0} (h : Heap X) where
  filled_seam : (xs ys : List (Contents Value)) (t : Contents Value) (es : Entries) → filled (length xs) es (with_tables h (xs ++ (t ∷ ys))) ≡ with_tables h (xs ++ (full t es ∷ ys))
  filled_seam xs ys t [] = refl
  filled_seam xs ys t (e ∷ es) =
      ap (filled (length xs) es) (ap (with_tables h) (ap (λ u. slice_set (xs ++ (t ∷ ys)) (length xs) (with_entry u e.0 e.1)) (at_seam xs t empty_table ys) ∙ set_seam xs t (with_entry t e.0 e.1) ys))
      ∙ filled_seam xs ys (with_entry t e.0 e.1) es

  filled_behind : (ts xs ys : List (Contents Value)) (t : Contents Value) (es : Entries) (k : ℕ) → k ≡ length ts + length xs
      → filled k es (with_tables h (ts ++ (xs ++ (t ∷ ys)))) ≡ with_tables h (ts ++ (xs ++ (full t es ∷ ys)))
  filled_behind ts xs ys t es k e =
      ap (λ n. filled n es (with_tables h (ts ++ (xs ++ (t ∷ ys))))) (e ∙ sym (length-append ts xs))
      ∙ ap (λ l. filled (length (ts ++ xs)) es (with_tables h l)) (sym (append_assoc ts xs (t ∷ ys)))
      ∙ filled_seam (ts ++ xs) ys t es
      ∙ ap (with_tables h) (append_assoc ts xs (full t es ∷ ys))

-- ALL FOUR
four_behind : {A : Type 0} (ts : List A) (a b c d : A) → (((ts ++ a ∷ []) ++ b ∷ []) ++ c ∷ []) ++ d ∷ [] ≡ ts ++ (a ∷ b ∷ c ∷ d ∷ [])
four_behind [] a b c d = refl
four_behind (t ∷ ts) a b c d = ap (λ l. t ∷ l) (four_behind ts a b c d)

two_more : {A : Type 0} (ts : List A) (a b : A) → length ((ts ++ a ∷ []) ++ b ∷ []) ≡ length ts + 2
two_more [] a b = refl
two_more (t ∷ ts) a b = let e = two_more ts a b in omega (arith, e)

pairs : {X : Type 0} (h : Heap X) → with_pair (with_pair h) ≡ with_tables h (h.tables ++ (plain_table [] (Table (length h.tables + 1)) ∷ empty_table ∷ plain_table [] (Table (length h.tables + 3)) ∷ empty_table ∷ []))
pairs h =
    let a = plain_table [] (Table (length h.tables + 1)) in
    let third : length ((h.tables ++ a ∷ []) ++ empty_table ∷ []) + 1 ≡ length h.tables + 3 = let e = two_more h.tables a empty_table in omega (arith, e) in
    ap (λ n. with_tables h ((((h.tables ++ a ∷ []) ++ empty_table ∷ []) ++ plain_table [] (Table n) ∷ []) ++ empty_table ∷ [])) third
    ∙ ap (with_tables h) (four_behind h.tables a empty_table (plain_table [] (Table (length h.tables + 3))) empty_table)

module _ {X : Type 0} (h : Heap X) (n : ℕ) (e : n ≡ length h.tables) where
  four_filled : (a b c d : Entries) (ta tb tc td : Contents Value)
      → filled (n + 3) d (filled (n + 2) c (filled (n + 1) b (filled n a (with_tables h (h.tables ++ (ta ∷ tb ∷ tc ∷ td ∷ []))))))
      ≡ with_tables h (h.tables ++ (full ta a ∷ full tb b ∷ full tc c ∷ full td d ∷ []))
  four_filled a b c d ta tb tc td =
      ap (λ g. filled (n + 3) d (filled (n + 2) c (filled (n + 1) b g))) (filled_behind h h.tables [] (tb ∷ tc ∷ td ∷ []) ta a n (omega (arith, e)))
      ∙ ap (λ g. filled (n + 3) d (filled (n + 2) c g)) (filled_behind h h.tables (full ta a ∷ []) (tc ∷ td ∷ []) tb b (n + 1) (omega (arith, e)))
      ∙ ap (filled (n + 3) d) (filled_behind h h.tables (full ta a ∷ full tb b ∷ []) (td ∷ []) tc c (n + 2) (omega (arith, e)))
      ∙ filled_behind h h.tables (full ta a ∷ full tb b ∷ full tc c ∷ []) [] td d (n + 3) (omega (arith, e))

args_set : (args : List Arg) (es : Entries) → all_set es (map arg_entry args) ≡ arg_entries args es
args_set [] es = refl
args_set (a ∷ args) es = args_set args _

module _ {X : Type 0} (h : Heap X) where
  steps : (f : Heap X) (a b c d a' b' c' d' : Entries) (n m o p : ℕ)
      → n ≡ length h.tables → m ≡ length h.tables + 1 → o ≡ length h.tables + 2 → p ≡ length h.tables + 3
      → f ≡ filled p d (filled o c (filled m b (filled n a (with_pair (with_pair h)))))
      → all_set [] a ≡ a' → all_set [] b ≡ b' → all_set [] c ≡ c' → all_set [] d ≡ d'
      → f ≡ with_table (with_table (with_table (with_table h a' (Table (length h.tables + 1))) b' Nil) c' (Table (length h.tables + 3))) d' Nil
  steps f a b c d a' b' c' d' n m o p ne me oe pe fe ae be ce de =
      let k = length h.tables in
      let A = plain_table [] (Table (k + 1)) in
      let C = plain_table [] (Table (k + 3)) in
      let start = with_pair (with_pair h) in
      fe
      ∙ ap (λ i. filled i d (filled o c (filled m b (filled n a start)))) pe
      ∙ ap (λ i. filled (k + 3) d (filled i c (filled m b (filled n a start)))) oe
      ∙ ap (λ i. filled (k + 3) d (filled (k + 2) c (filled i b (filled n a start)))) me
      ∙ ap (λ i. filled (k + 3) d (filled (k + 2) c (filled (k + 1) b (filled i a start)))) ne
      ∙ ap (λ g. filled (k + 3) d (filled (k + 2) c (filled (k + 1) b (filled k a g)))) (pairs h)
      ∙ four_filled h k refl a b c d A empty_table C empty_table
      ∙ ap (λ es. with_tables h (h.tables ++ (plain_table es (Table (k + 1)) ∷ full empty_table b ∷ full C c ∷ full empty_table d ∷ []))) ae
      ∙ ap (λ es. with_tables h (h.tables ++ (plain_table a' (Table (k + 1)) ∷ plain_table es Nil ∷ full C c ∷ full empty_table d ∷ []))) be
      ∙ ap (λ es. with_tables h (h.tables ++ (plain_table a' (Table (k + 1)) ∷ plain_table b' Nil ∷ plain_table es (Table (k + 3)) ∷ full empty_table d ∷ []))) ce
      ∙ ap (λ es. with_tables h (h.tables ++ (plain_table a' (Table (k + 1)) ∷ plain_table b' Nil ∷ plain_table c' (Table (k + 3)) ∷ plain_table es Nil ∷ []))) de
      ∙ ap (with_tables h) (sym (four_behind h.tables (plain_table a' (Table (k + 1))) (plain_table b' Nil) (plain_table c' (Table (k + 3))) (plain_table d' Nil)))

  pub frame_made : (f : Heap X) (scene : Scene) (number n m o p : ℕ)
      → n ≡ length h.tables → m ≡ length h.tables + 1 → o ≡ length h.tables + 2 → p ≡ length h.tables + 3
      → f ≡ filled p (frame_meta number) (filled o (frame_entries n) (filled m args_meta (filled n (map arg_entry scene.args) (with_pair (with_pair h)))))
      → f ≡ make_frame scene number h
  frame_made f scene number n m o p ne me oe pe fe =
      steps f (map arg_entry scene.args) args_meta (frame_entries (length h.tables)) (frame_meta number) (arg_entries scene.args []) args_meta (frame_entries (length h.tables)) (frame_meta number) n m o p ne me oe pe
      (fe ∙ ap (λ i. filled p (frame_meta number) (filled o (frame_entries i) (filled m args_meta (filled n (map arg_entry scene.args) (with_pair (with_pair h)))))) ne)
      (args_set scene.args []) refl refl refl

pub pair_longer : {X : Type 0} (h f : Heap X) → f ≡ with_pair h → length f.tables ≡ length h.tables + 2
pair_longer {X} h f e = ap (λ (g : Heap X). length g.tables) e ∙ two_more h.tables (plain_table [] (Table (length h.tables + 1))) empty_table

-- ONE TABLE that is filled at once
pub one_filled : {X : Type 0} (h f : Heap X) (es : Entries) (n : ℕ) → n ≡ length h.tables → f ≡ filled n es (new_table h).0 → all_set [] es ≡ es → f ≡ with_table h es Nil
one_filled h f es n ne fe e =
    fe ∙ ap (λ i. filled i es (with_tables h (h.tables ++ empty_table ∷ []))) ne ∙ filled_seam h h.tables [] empty_table es
    ∙ ap (λ l. with_tables h (h.tables ++ plain_table l Nil ∷ [])) e
