-- Arguments, one after another: where one is refused, and where all are found.
use Rattle.std.proofs.Common.{◌≡◌, ◌∙◌, ap, sym, subst, refl, ℕ, true, false, List, [], ◌∷◌, None, Ok, Err}
use Rattle.std.specs.Prelude.{Result, codes}
use Rattle.std.specs.Str.{is_utf8}
use Rattle.lua_number.specs.WkBaseDeclaredLeftLeft.{Left}
use Rattle.mw_frame_texts.specs.LuaHeapProc.{Proc}
use Rattle.mw_frame_texts.specs.LuaHeapValue as kind
use Rattle.mw_frame_texts.specs.LuaHeapValue.{is_nil}
use Rattle.mw_frame_texts.specs.LuaMeaningScope.{Bytes}
use Rattle.mw_frame_texts.specs.LuaMeaningValues as values
use Rattle.mw_frame_texts.specs.LuaMeaningValues.{first}
use Rattle.mw_frame_texts.specs.LuaMeaningMessages.{bad_argument}
use Rattle.mw_frame_texts.specs.LuaMeaningArguments.{Plain, Argument, with_argument, fails, a_text}
use Rattle.mw_frame_texts.specs.LuaStoreDeclaredValueValue.{Value}
use Rattle.mw_frame_texts.specs.LuaStoreSeen.{StoreView}
use Rattle.mw_frame_texts.specs.LuaBasicDeclaredStopStop.{Stop}
use Rattle.mw_frame_texts.specs.LuaBasicSeen.{values_seen, Stops, Free, Paid, Refuses}
use Rattle.mw_frame_texts.proofs.LuaBasicFound.{stopped, for_nothing}
use Rattle.mw_frame_texts.specs.LuaMeaningTextArguments.{in_utf8, utf8_text, as_some, utf8_text_if_any}
use Rattle.mw_frame_texts.specs.LuaMeaningChecks.{text_or}

-- AN ARGUMENT, read of a store that is as it was, is refused
pub refuses_now : {Y : Type 0} (a b : Argument Y) (s u t : StoreView) (e : Stop) → u ≡ s → Refuses a u t e → a ≡ b → Refuses b s t e
refuses_now a b s u t e same none is = subst (λ x. Refuses x s t e) is (subst (λ w. Refuses a w t e) same none)

pub turned_down : {Y : Type 0} (a b : Argument Y) (next : Y → Plain Proc) (s u t : StoreView) (l : Left) (e : Stop) (r : Result (List Value) Stop) → u ≡ s → Refuses a u t e → a ≡ b → r ≡ Err e
    → Paid (with_argument s.heap b next) s l t l r
turned_down a b next s u t l e r same none argument is =
    for_nothing (with_argument s.heap b next) s t l r (stopped b b next s t e r (refuses_now a b s u t e same none argument) refl is)

pub turned_down_free : {Y : Type 0} (a b : Argument Y) (next : Y → Plain Proc) (s u t : StoreView) (e : Stop) (r : Result (List Value) Stop) → u ≡ s → Refuses a u t e → a ≡ b → r ≡ Err e
    → Free (with_argument s.heap b next) t r
turned_down_free a b next s u t e r same none argument is = stopped b b next s t e r (refuses_now a b s u t e same none argument) refl is

-- or it is found, and what comes behind goes on
pub handed_on : {Y : Type 0} (a b : Argument Y) (y : Y) (next : Y → Plain Proc) (s : StoreView) (l m : Left) (t : StoreView) (r : Result (List Value) Stop) → a ≡ Ok y → a ≡ b
    → Paid (next y) s l t m r → Paid (with_argument s.heap b next) s l t m r
handed_on a b y next s l m t r found argument p = subst (λ x. Paid (with_argument s.heap x next) s l t m r) (sym found ∙ argument) p

pub handed_on_free : {Y : Type 0} (a b : Argument Y) (y : Y) (next : Y → Plain Proc) (s t : StoreView) (r : Result (List Value) Stop) → a ≡ Ok y → a ≡ b
    → Free (next y) t r → Free (with_argument s.heap b next) t r
handed_on_free a b y next s t r found argument p = subst (λ x. Free (with_argument s.heap x next) t r) (sym found ∙ argument) p

-- THE ARGUMENTS BEHIND THE FIRST, and behind the second
pub behind_one : (f : List kind.Value → List kind.Value) (args others : List Value) (s u : StoreView) → u ≡ s → ((texts : List (List ℕ)) → values_seen texts others ≡ f (values_seen texts args))
    → values_seen u.texts others ≡ f (values_seen s.texts args)
behind_one f args others s u same is = is u.texts ∙ ap (λ (w : StoreView). f (values_seen w.texts args)) same

pub behind_two : (args others more : List Value) (s u : StoreView) → u ≡ s → ((texts : List (List ℕ)) → values_seen texts others ≡ values.rest (values_seen texts args))
    → ((texts : List (List ℕ)) → values_seen texts more ≡ values.rest (values_seen texts others)) → values_seen u.texts more ≡ values.rest (values.rest (values_seen s.texts args))
behind_two args others more s u same one two =
    two u.texts ∙ ap values.rest (one u.texts) ∙ ap (λ (w : StoreView). values.rest (values.rest (values_seen w.texts args))) same

-- A CHECK of what was found, or of what was refused
pub refuses_through : {A B : Type 0} (g : Argument A → Argument B) → ((message : Bytes) → g (Err message) ≡ Err message) → (a : Argument A) (s t : StoreView) (e : Stop) → Refuses a s t e → Refuses (g a) s t e
refuses_through g k (Ok x) s t e none = λ next. none (λ y. with_argument s.heap (g (Ok y)) next)
refuses_through g k (Err message) s t e none = λ next. subst (λ b. Stops (with_argument s.heap b next) t e) (sym (k message)) (none (λ y. fails s.heap message))

pub is_in_utf8 : (n : ℕ) (function text : Bytes) → is_utf8 text ≡ true → in_utf8 n function (Ok text) ≡ Ok text
is_in_utf8 n function text h = rw h refl

pub not_in_utf8 : (n : ℕ) (function text : Bytes) → is_utf8 text ≡ false → in_utf8 n function (Ok text) ≡ Err (bad_argument n function (codes "not UTF-8"))
not_in_utf8 n function text h = rw h refl

-- a text that may be left out
pub left_out : (default : Bytes) (n : ℕ) (function : Bytes) (given : List kind.Value) → is_nil (first given) ≡ true → text_or default n function given ≡ Ok default
left_out default n function [] h = refl
left_out default n function (kind.Nil ∷ vs) h = refl
left_out default n function (v ∷ vs) h = absurd cc

pub not_left_out : (default : Bytes) (n : ℕ) (function : Bytes) (given : List kind.Value) → is_nil (first given) ≡ false → text_or default n function given ≡ a_text n function given
not_left_out default n function [] h = absurd cc
not_left_out default n function (kind.Nil ∷ vs) h = absurd cc
not_left_out default n function (v ∷ vs) h = refl

pub none_given : (n : ℕ) (function : Bytes) (given : List kind.Value) → is_nil (first given) ≡ true → utf8_text_if_any n function given ≡ Ok None
none_given n function [] h = refl
none_given n function (kind.Nil ∷ vs) h = refl
none_given n function (v ∷ vs) h = absurd cc

pub some_given : (n : ℕ) (function : Bytes) (given : List kind.Value) → is_nil (first given) ≡ false → utf8_text_if_any n function given ≡ as_some (utf8_text n function given)
some_given n function [] h = absurd cc
some_given n function (kind.Nil ∷ vs) h = absurd cc
some_given n function (v ∷ vs) h = refl

pub some_refused : (n : ℕ) (function : Bytes) (given : List kind.Value) (s t : StoreView) (e : Stop) → is_nil (first given) ≡ false → Refuses (utf8_text n function given) s t e → Refuses (utf8_text_if_any n function given) s t e
some_refused n function given s t e h none = subst (λ a. Refuses a s t e) (sym (some_given n function given h)) (refuses_through as_some (λ m. refl) (utf8_text n function given) s t e none)
