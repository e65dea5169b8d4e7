-- Numbers of runs, as runs start, make closures and end.
use Rattle.std.proofs.Common.{◌≡◌, ◌⊎◌, inl, inr, ℕ, zero, suc, ◌+◌, ◌-◌, ◌<◌, ◌≤◌, List, [], ◌∷◌, ◌++◌, length, drop, Some, None, refl, sym, ap, ◌∙◌, subst, arith, slice_get}
use Rattle.std.specs.Prelude.{replicate}
use Rattle.std.specs.List.{AllByRecursion}
use Rattle.lua_graph.specs.LuaStoreSeen.{StoreView}
use Rattle.lua_graph.specs.LuaStoreParts.{IsLater}
use Rattle.lua_graph.proofs.LuaStoreLists.{all-to}
use Rattle.page_ground.specs.declared.numbers.Numbers.{Numbers}
use Rattle.page_ground.specs.Numbered.{at_work, none_started, after_start, after_end, IsNumber, IsNumbered, Renumbers}

all_with : (P : ℕ → Type 0) (ns ms : List ℕ) → AllByRecursion P ns → AllByRecursion P ms → AllByRecursion P (ns ++ ms)
all_with P [] ms a b = b
all_with P (n ∷ ns) ms a b = (a.0, all_with P ns ms a.1 b)

all_copies : (P : ℕ → Type 0) (k n : ℕ) → P n → AllByRecursion P (replicate k n)
all_copies P zero n h = tt
all_copies P (suc k) n h = (h, all_copies P k n h)

is_number : (started : ℕ) (ns : List ℕ) → AllByRecursion (λ n. n < started) ns → IsNumber started (at_work ns)
is_number started [] a = inl refl
is_number started (n ∷ ns) a = inr a.0

-- the run at work makes closures
pub numbered_later : (s t : StoreView) (ns : Numbers) → IsLater s t → IsNumbered s ns → IsNumbered t ns
numbered_later s t ns l h =
    let own = subst (IsNumber ns.started) (sym h.env) (is_number ns.started ns.running h.running) in
    record {
      env = l.env ∙ h.env;
      running = h.running;
      closures = subst (AllByRecursion (IsNumber ns.started)) (sym l.envs) (all_with (IsNumber ns.started) s.envs _ h.closures (all_copies (IsNumber ns.started) (length t.heap.closures - length s.heap.closures) s.env own));
    }

-- a new store
pub nothing_numbered : (s : StoreView) → s.env ≡ 0 → s.envs ≡ [] → IsNumbered s none_started
nothing_numbered s e e' = record { env = e; running = tt; closures = subst (AllByRecursion (IsNumber 0)) (sym e') tt }

one_more : (a n : ℕ) → n < a → n < a + 1
one_more a n h = omega (arith, h)

number_stays : (a n : ℕ) → IsNumber a n → IsNumber (a + 1) n
number_stays a n (inl e) = inl e
number_stays a n (inr h) = inr (one_more a n h)

last : (a : ℕ) → a < a + 1
last a = omega arith

-- a run starts
numbered_starts : (s : StoreView) (ns : Numbers) → IsNumbered s ns → IsNumbered (record s { env = ns.started }) (after_start ns)
numbered_starts s ns h = record {
  env = refl;
  running = (last ns.started, all-to (λ n. n < ns.started) (λ n. n < ns.started + 1) (λ n k. one_more ns.started n k) ns.running h.running);
  closures = all-to (IsNumber ns.started) (IsNumber (ns.started + 1)) (λ n k. number_stays ns.started n k) s.envs h.closures;
}

pub start_renumbers : (s : StoreView) (ns : Numbers) (t : StoreView) (ms : Numbers) → ms ≡ after_start ns → t ≡ record s { env = ns.started } → Renumbers s ns t ms
start_renumbers s ns t ms e e' = record {
  env = ns.started;
  store = e';
  numbered = λ h. subst (IsNumbered t) (sym e) (subst (λ u. IsNumbered u (after_start ns)) (sym e') (numbered_starts s ns h));
}

-- a run ends
all_behind : (P : ℕ → Type 0) (ns : List ℕ) → AllByRecursion P ns → AllByRecursion P (drop 1 ns)
all_behind P [] a = tt
all_behind P (n ∷ ns) a = a.1

numbered_ends : (s : StoreView) (ns : Numbers) → IsNumbered s ns → IsNumbered (record s { env = at_work (drop 1 ns.running) }) (after_end ns)
numbered_ends s ns h = record { env = refl; running = all_behind (λ n. n < ns.started) ns.running h.running; closures = h.closures }

pub end_renumbers : (s : StoreView) (ns : Numbers) (t : StoreView) (ms : Numbers) → ms ≡ after_end ns → t ≡ record s { env = at_work ms.running } → Renumbers s ns t ms
end_renumbers s ns t ms e e' =
    let store : t ≡ record s { env = at_work (drop 1 ns.running) } = e' ∙ ap (λ (x : Numbers). record s { env = at_work x.running }) e in
    record {
      env = at_work (drop 1 ns.running);
      store = store;
      numbered = λ h. subst (IsNumbered t) (sym e) (subst (λ u. IsNumbered u (after_end ns)) (sym store) (numbered_ends s ns h));
    }

-- none starts and none ends
pub nothing_renumbers : (s : StoreView) (ns : Numbers) → Renumbers s ns s ns
nothing_renumbers s ns = record { env = s.env; store = refl; numbered = λ h. h }

-- the innermost is the first
pub first_is : (ns : List ℕ) (n : ℕ) → Some n ≡ slice_get ns 0 → n ≡ at_work ns
first_is [] n e = absurd cc
first_is (m ∷ ns) n e = cc

pub none_is : (ns : List ℕ) → slice_get ns 0 ≡ None → 0 ≡ at_work ns
none_is [] e = refl
none_is (m ∷ ns) e = absurd cc
