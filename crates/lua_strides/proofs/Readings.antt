-- What is read in place: how a reading is made of those of operands.
use Rattle.std.proofs.Common.{◌≡◌, ◌∙◌, ◌<◌, ◌^◌, ◌+◌, ℕ, List, [], ◌∷◌, ◌++◌, append_assoc, append-nil, Option, Some, None, sym, ap, subst, arith}
use Rattle.std.specs.Prelude.{IfSome}
use Rattle.std.proofs.lemmas.List.{map-append}
use Rattle.lua_code.specs.LuaHeapValue.{Value as Plain}
use Rattle.lua_code.specs.LuaSlotsCode.{Constants, CExp, CExps, NoC, MoreC}
use Rattle.lua_state.specs.LuaSlotsSlots.{Slots}
use Rattle.lua_in_place.specs.InPlace.{in_front, all_in_place}
use Rattle.lua_state.specs.LuaStoreDeclaredValueValue.{Value}
use Rattle.lua_state.specs.LuaStoreSeen.{StoreView, seen}
use Rattle.lua_state.specs.LuaStoreParts.{IsOf}
use Rattle.lua_state.specs.LuaStackOf.{ValuesOf}
use Rattle.lua_state.specs.LuaStackSeen.{values_seen}
use Rattle.lua_state.specs.declared.state.State.{State}
use Rattle.lua_state.specs.Seen.{slots_of, constants_in}
use Rattle.lua_strides.specs.declared.reading.ValueRead.{ValueRead}
use Rattle.lua_strides.specs.declared.reading.ListRead.{ListRead}
use Rattle.lua_strides.specs.Reads.{ReadsTo, ReadsAll}

-- two properties of what may be there
pub some_both : {A : Type 0} (P Q : A → Type 0) (o : Option A) → IfSome o P → IfSome o Q → IfSome o (λ v. P v × Q v)
some_both P Q (Some v) h k = (h, k)
some_both P Q None h k = tt

pub some_to : {A : Type 0} (P Q : A → Type 0) (o : Option A) → ((v : A) → P v → Q v) → IfSome o P → IfSome o Q
some_to P Q (Some v) f h = f v h
some_to P Q None f h = tt

-- A LIST: values before, and what is left. `Gathered` says what the whole list is where what is left is read.
abbrev pub Gathered : Constants → CExps → CExps → Slots → List Plain → ℕ → Type 0
Gathered constants all left s vs n = (ws : List Plain) (k : ℕ) → all_in_place constants left s ≡ Some (ws, k) → all_in_place constants all s ≡ Some (vs ++ ws, n + k)

pub record Gathers (s : StoreView) (m : State) (all left : CExps) (vs : List Value) (n : ℕ) : Type 0 where
  pub of : ValuesOf s vs
  pub few : n < 2 ^ 32
  pub gathered : Gathered (constants_in s m) all left (slots_of s m) (values_seen s.texts vs) n

values_more : (u : StoreView) (vs : List Value) (v : Value) → ValuesOf u vs → IsOf u v → ValuesOf u (vs ++ v ∷ [])
values_more u [] v h k = (k, tt)
values_more u (w ∷ vs) v h k = (h.0, values_more u vs v h.1 k)

pub gathers_none : (s : StoreView) (m : State) (all : CExps) (vs : List Value) → vs ≡ [] → Gathers s m all all vs 0
gathers_none s m all vs e = rw e (record { of = tt; few = omega arith; gathered = λ ws k h. h ∙ ap (λ (i : ℕ). Some (ws, i)) (omega arith) })

-- one expression more
pub gathers_more : (s : StoreView) (m : State) (all rest : CExps) (e : CExp) (vs ws : List Value) (n j : ℕ) (r : ValueRead) → Gathers s m all (MoreC e rest) vs n → ReadsTo s m e (Some r) → ws ≡ vs ++ r.value ∷ [] → j ≡ n + r.nodes → j < 2 ^ 32
    → Gathers s m all rest ws j
gathers_more s m all rest e vs ws n j r g p w i small = rw w (record {
  of = values_more s vs r.value g.of p.of;
  few = small;
  gathered = λ xs k h.
      let v : Plain = seen s.texts r.value in
      let front : all_in_place (constants_in s m) (MoreC e rest) (slots_of s m) ≡ Some (v ∷ xs, r.nodes + k) =
      ap (λ (x : Option (Plain × ℕ)). in_front x (all_in_place (constants_in s m) rest (slots_of s m))) p.is ∙ ap (λ (x : Option (List Plain × ℕ)). in_front (Some (v, r.nodes)) x) h in
      g.gathered (v ∷ xs) (r.nodes + k) front
      ∙ ap (λ (x : List Plain). Some (x, n + (r.nodes + k))) (sym (append_assoc (values_seen s.texts vs) (v ∷ []) xs) ∙ ap (λ (x : List Plain). x ++ xs) (sym (map-append (seen s.texts) vs (r.value ∷ []))))
      ∙ ap (λ (x : ℕ). Some (values_seen s.texts (vs ++ r.value ∷ []) ++ xs, x)) (omega (arith, i));
})

-- all of them
pub gathers_all : (s : StoreView) (m : State) (all left : CExps) (vs : List Value) (n : ℕ) (r : ListRead) → left ≡ NoC → r.values ≡ vs → r.nodes ≡ n → Gathers s m all left vs n → ReadsAll s m all (Some r)
gathers_all s m all left vs n r e a b g = record {
  of = subst (ValuesOf s) (sym a) g.of;
  few = subst (λ (i : ℕ). i < 2 ^ 32) (sym b) g.few;
  is = g.gathered [] 0 (ap (λ (x : CExps). all_in_place (constants_in s m) x (slots_of s m)) e)
      ∙ ap (λ (x : List Plain). Some (x, n + 0)) (append-nil (values_seen s.texts vs)) ∙ ap (λ (x : ℕ). Some (values_seen s.texts vs, x)) (omega arith)
      ∙ ap (λ (x : List Value). Some (values_seen s.texts x, n)) (sym a) ∙ ap (λ (x : ℕ). Some (values_seen s.texts r.values, x)) (sym b);
}
