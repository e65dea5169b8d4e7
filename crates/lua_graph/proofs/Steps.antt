-- Names and tables, one after another.
use Rattle.std.proofs.Common.{◌≡◌, ℕ, zero, suc, ◌+◌, ◌-◌, ◌<◌, List, [], ◌∷◌, ◌++◌, length, refl, sym, ap, ◌∙◌, arith, slice_index_or}
use Rattle.std.specs.List.{AllByRecursion}
use Rattle.lua_store.specs.declared.ids.TextId.{TextId}
use Rattle.lua_store.specs.declared.ids.TableId.{TableId}
use Rattle.lua_store.specs.Seen.{StoreView, text_at}
use Rattle.lua_store.specs.Parts.{IsTextOf, IsTableOf, IsLater}
use Rattle.lua_store.specs.LuaHeapTable.{empty_table}
use Rattle.lua_walk.specs.LuaHeapHeap.{Heap, new_table}
use Rattle.lua_graph.specs.Put.{named, AreFrom, grown}

names_stay : (s t : StoreView) (ns : List TextId) → IsLater s t → AllByRecursion (IsTextOf s) ns → named t.texts ns ≡ named s.texts ns
names_stay s t [] l a = refl
names_stay s t (n ∷ ns) l a =
    ap (λ x. x ∷ named t.texts ns) (l.texts.same n.at a.0) ∙ ap (λ xs. text_at s.texts n.at ∷ xs) (names_stay s t ns l a.1)

pub texts_push : (s t : StoreView) (ns : List TextId) (n : TextId) → IsLater s t → AllByRecursion (IsTextOf s) ns → IsTextOf t n → AllByRecursion (IsTextOf t) (ns ++ n ∷ [])
texts_push s t [] n l a h = (h, tt)
texts_push s t (m ∷ ns) n l a h = (omega (arith, a.0, l.texts.length_), texts_push s t ns n l a.1 h)

pub names_push : (s t : StoreView) (ns : List TextId) (n : TextId) (b : List ℕ) (bs rest all : List (List ℕ)) → IsLater s t → AllByRecursion (IsTextOf s) ns
    → text_at t.texts n.at ≡ b → rest ≡ b ∷ bs → named s.texts ns ++ rest ≡ all → named t.texts (ns ++ n ∷ []) ++ bs ≡ all
names_push s t ns n b bs rest all l a h is e =
    go ns ∙ ap (λ xs. named t.texts ns ++ (xs ∷ bs)) h ∙ ap (λ xs. xs ++ (b ∷ bs)) (names_stay s t ns l a) ∙ ap (λ xs. named s.texts ns ++ xs) (sym is) ∙ e
  where
    go : (ms : List TextId) → named t.texts (ms ++ n ∷ []) ++ bs ≡ named t.texts ms ++ (text_at t.texts n.at ∷ bs)
    go [] = refl
    go (m ∷ ms) = ap (λ xs. text_at t.texts m.at ∷ xs) (go ms)

pub tables_push : (s t : StoreView) (ts : List TableId) (n : TableId) → IsLater s t → AllByRecursion (IsTableOf s) ts → IsTableOf t n → AllByRecursion (IsTableOf t) (ts ++ n ∷ [])
tables_push s t [] n l a h = (h, tt)
tables_push s t (m ∷ ts) n l a h = (omega (arith, a.0, l.tables), tables_push s t ts n l a.1 h)

pub from_push : (k : ℕ) (ts : List TableId) (n : TableId) → AreFrom k ts → n.at ≡ k + length ts → AreFrom k (ts ++ n ∷ [])
from_push k [] n a e = (omega (arith, e), tt)
from_push k (t ∷ ts) n a e = (a.0, from_push (k + 1) ts n a.1 (omega (arith, e)))

pub from_at : (k : ℕ) (ts : List TableId) (i : ℕ) (d : TableId) → AreFrom k ts → i < length ts → (slice_index_or ts i d).at ≡ k + i
from_at k [] i d a h = absurd (omega (arith, h))
from_at k (t ∷ ts) zero d a h = omega (arith, a.0)
from_at k (t ∷ ts) (suc i) d a h = let e = from_at (k + 1) ts i d a.1 (omega (arith, h)) in omega (arith, e)

pub grown_on : {X : Type 0} (n : ℕ) (h t : Heap X) → 0 < n → t ≡ (new_table h).0 → grown (n - 1) t ≡ grown n h
grown_on zero h t p e = absurd (omega (arith, p))
grown_on (suc n) h t p e = let same : suc n - 1 ≡ n = omega arith in ap (λ m. grown m t) same ∙ ap (grown n) e

pub length_push : {A : Type 0} (xs : List A) (x : A) → length (xs ++ x ∷ []) ≡ length xs + 1
length_push [] x = refl
length_push (y ∷ ys) x = let e = length_push ys x in omega (arith, e)

pub one_longer : (s t : StoreView) → t ≡ record s { heap = (new_table s.heap).0 } → length t.heap.tables ≡ length s.heap.tables + 1
one_longer s t e = ap (λ (u : StoreView). length u.heap.tables) e ∙ length_push s.heap.tables empty_table
