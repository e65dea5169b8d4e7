-- What the basic functions give, one lemma for each way out.
use Rattle.std.proofs.Common.{◌≡◌, ◌∙◌, ap, sym, ℤ, true, false, List, [], ◌∷◌, length, refl, pos, codes, Ok}
use Rattle.lua_store.specs.LuaHeapProc.{Proc}
use Rattle.lua_store.specs.LuaHeapHeap.{Heap}
use Rattle.lua_meaning.specs.LuaHeapValue.{Value, Nil, Text, Number, is_true, is_nil}
use Rattle.lua_meaning.specs.Scope.{Bytes}
use Rattle.lua_meaning.specs.Values.{first, second, rest}
use Rattle.lua_meaning.specs.Metatables.{metatable, field}
use Rattle.lua_meaning.specs.Arguments.{Fails, gives, a_number, with_argument}
use Rattle.lua_meaning.specs.Basic.{message_or, assert, shown_metatable, get_metatable, is_count, select, from_place}

message-none : (v : Value) (text : Bytes) → is_nil v ≡ true → message_or v text ≡ Text text
message-none Nil text h = refl
message-none v text h = absurd cc

message-some : (v : Value) (text : Bytes) → is_nil v ≡ false → message_or v text ≡ v
message-some Nil text h = absurd cc
message-some v text h = refl

pub assert-none : (h : Heap Proc) (args : List Value) → is_true (first args) ≡ false → is_nil (second args) ≡ true
    → assert args h ≡ record { charge = 0; heap = h; end = Fails (Text (codes "assertion failed!")) (pos 0) }
assert-none h args e n = rw (e, message-none (second args) (codes "assertion failed!") n) refl

pub assert-some : (h : Heap Proc) (args : List Value) → is_true (first args) ≡ false → is_nil (second args) ≡ false
    → assert args h ≡ record { charge = 0; heap = h; end = Fails (second args) (pos 0) }
assert-some h args e n = rw (e, message-some (second args) (codes "assertion failed!") n) refl

pub shown-none : (p m : Value) → is_nil p ≡ true → shown_metatable p m ≡ m
shown-none Nil m h = refl
shown-none p m h = absurd cc

pub shown-some : (p m : Value) → is_nil p ≡ false → shown_metatable p m ≡ p
shown-some Nil m h = absurd cc
shown-some p m h = refl

pub meta-shown : (h : Heap Proc) (args : List Value) (v m p w : Value) → v ≡ first args → m ≡ metatable h v → p ≡ field h m (codes "__metatable") → shown_metatable p m ≡ w
    → get_metatable args h ≡ gives h (w ∷ [])
meta-shown h args v m p w v-is m-is p-is shown =
    let meta : metatable h (first args) ≡ m = ap (metatable h) (sym v-is) ∙ sym m-is in
    ap (λ x. gives h (shown_metatable (field h x (codes "__metatable")) x ∷ [])) meta ∙ ap (λ x. gives h (shown_metatable x m ∷ [])) (sym p-is) ∙ ap (λ x. gives h (x ∷ [])) shown

pub select-count : (h : Heap Proc) (args : List Value) → is_count (first args) ≡ true → select args h ≡ gives h (Number (pos (length (rest args))) ∷ [])
select-count h args e = rw e refl

pub select-place : (h : Heap Proc) (args : List Value) (n : ℤ) → is_count (first args) ≡ false → a_number 1 (codes "select") args ≡ Ok n → select args h ≡ from_place n (rest args) h
select-place h args n e a = rw e (ap (λ x. with_argument h x (λ z. from_place z (rest args) h)) a)
