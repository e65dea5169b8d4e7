-- Constants as values of a store, one after the other.
use Rattle.std.proofs.Common.{◌≡◌, ◌∙◌, ◌≤◌, ◌<◌, ℕ, ◌+◌, List, [], ◌∷◌, ◌++◌, map, length, drop, get_or, refl, sym, ap, subst, arith}
use Rattle.std.proofs.lemmas.List.{drop_more, drop_all, map-append}
use Rattle.lua_flat.specs.LuaHeapValue.{Value as Plain, Text}
use Rattle.lua_store.specs.declared.ids.TextId.{TextId}
use Rattle.lua_store.specs.declared.value.Value.{Value}
use Rattle.lua_store.specs.declared.value.Value.TheVariants as own
use Rattle.lua_store.specs.Seen.{StoreView, text_at, seen}
use Rattle.lua_store.specs.Parts.{IsLater, IsOf, IsTextOf}
use Rattle.lua_store.proofs.Lists.{all-push, all-to, map-alike}
use Rattle.lua_store.proofs.Later.{later-itself, later-then, of-later, seen-later}
use Rattle.lua_stack.specs.Of.{ValuesOf}
use Rattle.lua_flat_code.specs.declared.operand.Constant.{Constant}
use Rattle.lua_flat_code.specs.declared.operand.Constant.TheVariants as constant
use Rattle.lua_flat_code.specs.declared.function.Functions.{Functions}
use Rattle.lua_flat_code.specs.Seen.{constant_seen}
use Rattle.lua_flat_loop.specs.declared.ready.Ready.{Ready}
use Rattle.lua_flat_loop.specs.Preparing.{constant_value, TextsIn, IsPrepared}

nil_behind : {A : Type 0} (xs : List A) → xs ++ [] ≡ xs
nil_behind [] = refl
nil_behind (x ∷ xs) = ap (λ l. x ∷ l) (nil_behind xs)

joined_lists : {A : Type 0} (xs ys zs : List A) → (xs ++ ys) ++ zs ≡ xs ++ (ys ++ zs)
joined_lists [] ys zs = refl
joined_lists (x ∷ xs) ys zs = ap (λ l. x ∷ l) (joined_lists xs ys zs)

-- A LIST THAT IS MAPPED ITEM BY ITEM, and what is still to come
mapped_step : {A B : Type 0} (g : A → B) (xs : List A) (i : ℕ) (x : A) (ys : List B) (all : List B) → ys ++ map g (drop i xs) ≡ all → i < length xs → (ys ++ g (get_or xs i x) ∷ []) ++ map g (drop (i + 1) xs) ≡ all
mapped_step g xs i x ys all so within =
    joined_lists ys (g (get_or xs i x) ∷ []) (map g (drop (i + 1) xs)) ∙ sym (ap (λ l. ys ++ map g l) (drop_more xs i x within)) ∙ so

mapped_end : {A B : Type 0} (g : A → B) (xs : List A) (i : ℕ) (ys all : List B) → ys ++ map g (drop i xs) ≡ all → length xs ≤ i → ys ≡ all
mapped_end g xs i ys all so end = sym (nil_behind ys) ∙ ap (λ l. ys ++ map g l) (sym (drop_all i xs end)) ∙ so

-- TEXTS
pub record TextsSoFar (old new : StoreView) (texts : List (List ℕ)) (i : ℕ) (values : List Value) : Type 0 where
  pub later : IsLater old new
  pub heap : new.heap ≡ old.heap
  pub of : ValuesOf new values
  pub are : map (seen new.texts) values ++ map Text (drop i texts) ≡ map Text texts

pub texts_begin : (s : StoreView) (texts : List (List ℕ)) (values : List Value) → values ≡ [] → TextsSoFar s s texts 0 values
texts_begin s texts values none = subst (TextsSoFar s s texts 0) (sym none) (record { later = later-itself s; heap = refl; of = tt; are = refl })

-- values are seen later as they were
stay_seen : (s t : StoreView) → IsLater s t → (values : List Value) → ValuesOf s values → map (seen t.texts) values ≡ map (seen s.texts) values
stay_seen s t l values of = map-alike (IsOf s) (seen t.texts) (seen s.texts) (seen-later s t l) values of

pub texts_go_on : (old s t : StoreView) (texts : List (List ℕ)) (i : ℕ) (text : List ℕ) (id : TextId) (values more : List Value) → TextsSoFar old s texts i values → i < length texts
    → IsLater s t → t.heap ≡ s.heap → IsTextOf t id → text_at t.texts id.at ≡ get_or texts i text → more ≡ values ++ own.Text id ∷ [] → TextsSoFar old t texts (i + 1) more
texts_go_on old s t texts i text id values more so within later heap of there put = subst (TextsSoFar old t texts (i + 1)) (sym put) (record {
  later = later-then old s t so.later later;
  heap = heap ∙ so.heap;
  of = all-push (IsOf t) values (own.Text id) (all-to (IsOf s) (IsOf t) (of-later s t later) values so.of) of;
  are =
      ap (λ l. l ++ map Text (drop (i + 1) texts))
      (map-append (seen t.texts) values (own.Text id ∷ []) ∙ ap (λ l. l ++ Text (text_at t.texts id.at) ∷ []) (stay_seen s t later values so.of) ∙ ap (λ (b : List ℕ). map (seen s.texts) values ++ Text b ∷ []) there)
      ∙ mapped_step Text texts i text (map (seen s.texts) values) (map Text texts) so.are within;
})

pub texts_end : (old s : StoreView) (texts : List (List ℕ)) (i : ℕ) (values : List Value) → TextsSoFar old s texts i values → length texts ≤ i → TextsIn old s texts values
texts_end old s texts i values so end = record { later = so.later; heap = so.heap; of = so.of; are = mapped_end Text texts i (map (seen s.texts) values) (map Text texts) so.are end }

-- THE OTHERS
pub others_go_on : (constants : List Constant) (i : ℕ) (c : Constant) (v : Value) (all values more : List Value) → values ++ map constant_value (drop i constants) ≡ all → i < length constants
    → v ≡ constant_value (get_or constants i c) → more ≡ values ++ v ∷ [] → more ++ map constant_value (drop (i + 1) constants) ≡ all
others_go_on constants i c v all values more so within is put =
    ap (λ l. l ++ map constant_value (drop (i + 1) constants)) (put ∙ ap (λ (w : Value). values ++ w ∷ []) is) ∙ mapped_step constant_value constants i c values all so within

pub others_end : (constants : List Constant) (i : ℕ) (all values : List Value) → values ++ map constant_value (drop i constants) ≡ all → length constants ≤ i → values ≡ all
others_end constants i all values so end = mapped_end constant_value constants i values all so end

-- a constant is seen as what it is in its code, and is of each store
value_seen : (texts : List (List ℕ)) (c : Constant) → seen texts (constant_value c) ≡ constant_seen c
value_seen texts constant.Nil = refl
value_seen texts (constant.Truth b) = refl
value_seen texts (constant.Number n) = refl

values_seen : (texts : List (List ℕ)) (constants : List Constant) → map (seen texts) (map constant_value constants) ≡ map constant_seen constants
values_seen texts [] = refl
values_seen texts (c ∷ constants) = ap (λ (v : Plain). v ∷ map (seen texts) (map constant_value constants)) (value_seen texts c) ∙ ap (λ l. constant_seen c ∷ l) (values_seen texts constants)

value_is_of : (s : StoreView) (c : Constant) → IsOf s (constant_value c)
value_is_of s constant.Nil = tt
value_is_of s (constant.Truth b) = tt
value_is_of s (constant.Number n) = tt

all_are_of : (s : StoreView) (values : List Value) (constants : List Constant) → ValuesOf s values → ValuesOf s (values ++ map constant_value constants)
all_are_of s [] [] of = tt
all_are_of s [] (c ∷ constants) of = (value_is_of s c, all_are_of s [] constants tt)
all_are_of s (v ∷ values) constants of = (of.0, all_are_of s values constants of.1)

-- ALL OF THEM
pub prepared : (old new : StoreView) (title : TextId) (fs : Functions) (m : Ready) (texts values : List Value) → TextsIn old new fs.texts texts → IsTextOf old title
    → values ≡ texts ++ map constant_value fs.constants → m.title ≡ title → m.functions.now ≡ fs → m.constants.items ≡ values → IsPrepared old new title fs m
prepared old new title fs m texts values h within are titled same kept = record {
  later = h.later;
  heap = h.heap;
  titled = titled;
  functions = same;
  of = record {
    title = subst (IsTextOf new) (sym titled) (omega (arith, within, h.later.texts.length_));
    constants = subst (ValuesOf new) (sym (kept ∙ are)) (all_are_of new texts fs.constants h.of);
  };
  constants = ap (map (seen new.texts)) (kept ∙ are) ∙ map-append (seen new.texts) texts (map constant_value fs.constants)
      ∙ ap (λ l. l ++ map (seen new.texts) (map constant_value fs.constants)) h.are ∙ ap (λ l. map Text fs.texts ++ l) (values_seen new.texts fs.constants);
}
