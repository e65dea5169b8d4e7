-- Arguments that are found, and those that are refused.
use Rattle.std.proofs.Common.{◌≡◌, ap, sym, subst, refl, ℕ, Bool, true, false, List, [], ◌∷◌, Option, None, Ok, Err}
use Rattle.std.specs.Prelude.{codes}
use Rattle.lua_strings.specs.LuaHeapProc.{Proc}
use Rattle.mw_html.specs.LuaHeapHeap.{Heap, ChildNode, MarkupNode, table_at, markup_at}
use Rattle.lua_strings.specs.LuaHeapValue as kind
use Rattle.lua_strings.specs.LuaHeapValue.{is_nil, is_true}
use Rattle.lua_strings.specs.LuaMeaningScope.{Bytes}
use Rattle.lua_strings.specs.LuaMeaningValues.{first}
use Rattle.lua_strings.specs.LuaMeaningMetatables.{field}
use Rattle.lua_strings.specs.LuaMeaningMessages.{bad_argument, expected}
use Rattle.lua_strings.specs.LuaMeaningArguments.{Argument, with_argument, fails, a_table, a_text}
use Rattle.lua_strings.specs.LuaMeaningTextArguments.{as_some}
use Rattle.lua_strings.specs.LuaMeaningChecks.{text_or}
use Rattle.lua_strings.specs.LuaMeaningHtml.{an_object, text_if_any, tested_name, bad_name, closing_option, as_child, a_child, Setter, set_read, set_each, sets_each, sets_one, set_given}
use Rattle.lua_strings.specs.LuaStoreSeen.{StoreView}
use Rattle.lua_strings.specs.LuaBasicDeclaredStopStop.{Stop}
use Rattle.lua_strings.specs.LuaBasicSeen.{Stops, Refuses}

-- A CHECK of what was found, or of what was refused
pub refuses_through : {A B : Type 0} (g : Argument A → Argument B) → ((message : Bytes) → g (Err message) ≡ Err message) → (a : Argument A) (s t : StoreView) (e : Stop) → Refuses a s t e → Refuses (g a) s t e
refuses_through g k (Ok x) s t e none = λ next. none (λ y. with_argument s.heap (g (Ok y)) next)
refuses_through g k (Err message) s t e none = λ next. subst (λ b. Stops (with_argument s.heap b next) t e) (sym (k message)) (none (λ y. fails s.heap message))

-- a text that may be nil, or left out
pub none_given : (n : ℕ) (function : Bytes) (given : List kind.Value) → is_nil (first given) ≡ true → text_if_any n function given ≡ Ok None
none_given n function [] h = refl
none_given n function (kind.Nil ∷ vs) h = refl
none_given n function (v ∷ vs) h = absurd cc

pub some_given : (n : ℕ) (function : Bytes) (given : List kind.Value) → is_nil (first given) ≡ false → text_if_any n function given ≡ as_some (a_text n function given)
some_given n function [] h = absurd cc
some_given n function (kind.Nil ∷ vs) h = absurd cc
some_given n function (v ∷ vs) h = refl

pub some_refused : (n : ℕ) (function : Bytes) (given : List kind.Value) (s t : StoreView) (e : Stop) → is_nil (first given) ≡ false → Refuses (a_text n function given) s t e → Refuses (text_if_any n function given) s t e
some_refused n function given s t e some none =
    subst (λ a. Refuses a s t e) (sym (some_given n function given some)) (refuses_through as_some (λ m. refl) (a_text n function given) s t e none)

pub left_out : (default : Bytes) (n : ℕ) (function : Bytes) (given : List kind.Value) → is_nil (first given) ≡ true → text_or default n function given ≡ Ok default
left_out default n function [] h = refl
left_out default n function (kind.Nil ∷ vs) h = refl
left_out default n function (v ∷ vs) h = absurd cc

pub not_left_out : (default : Bytes) (n : ℕ) (function : Bytes) (given : List kind.Value) → is_nil (first given) ≡ false → text_or default n function given ≡ a_text n function given
not_left_out default n function [] h = absurd cc
not_left_out default n function (kind.Nil ∷ vs) h = absurd cc
not_left_out default n function (v ∷ vs) h = refl

-- a name that is tested
pub is_taken : (test : Bytes → Bool) (name : Bytes) → test name ≡ true → tested_name test (Ok name) ≡ Ok name
is_taken test name h = rw h refl

pub is_bad : (test : Bytes → Bool) (name : Bytes) → test name ≡ false → tested_name test (Ok name) ≡ Err bad_name
is_bad test name h = rw h refl

-- options
pub no_options : (h : Heap Proc) (n : ℕ) (function : Bytes) (given : List kind.Value) → is_nil (first given) ≡ true → closing_option h n function given ≡ Ok false
no_options h n function [] e = refl
no_options h n function (kind.Nil ∷ vs) e = refl
no_options h n function (v ∷ vs) e = absurd cc

pub options : (h : Heap Proc) (n : ℕ) (function : Bytes) (given : List kind.Value) (t : ℕ) → a_table n function given ≡ Ok t
    → closing_option h n function given ≡ Ok (is_true (field h (kind.Table t) (codes "selfClosing")))
options h n function [] t e = absurd cc
options h n function (kind.Table u ∷ vs) t e = let is : u ≡ t = cc in ap (λ v. Ok (is_true (field h (kind.Table v) (codes "selfClosing")))) is
options h n function (v ∷ vs) t e = absurd cc

pub bad_options : (h : Heap Proc) (n : ℕ) (function : Bytes) (given : List kind.Value) (message : Bytes) → is_nil (first given) ≡ false → a_table n function given ≡ Err message
    → closing_option h n function given ≡ Err (bad_argument n function (expected (codes "table") given))
bad_options h n function [] message e is = absurd cc
bad_options h n function (kind.Nil ∷ vs) message e is = absurd cc
bad_options h n function (kind.Table u ∷ vs) message e is = absurd cc
bad_options h n function (v ∷ vs) message e is = refl

-- what `node` is given
pub no_child : (given : List kind.Value) → is_nil (first given) ≡ true → a_child given ≡ Ok []
no_child [] h = refl
no_child (kind.Nil ∷ vs) h = refl
no_child (v ∷ vs) h = absurd cc

pub object_child : (given : List kind.Value) (m : ℕ) → an_object 1 [] given ≡ Ok m → a_child given ≡ Ok (ChildNode m ∷ [])
object_child [] m e = absurd cc
object_child (kind.Markup i ∷ vs) m e = let is : i ≡ m = cc in ap (λ k. Ok (ChildNode k ∷ [])) is
object_child (v ∷ vs) m e = absurd cc

pub text_child : (given : List kind.Value) (message : Bytes) → is_nil (first given) ≡ false → an_object 1 [] given ≡ Err message → a_child given ≡ as_child (a_text 2 (codes "node") given)
text_child [] message h e = absurd cc
text_child (kind.Nil ∷ vs) message h e = absurd cc
text_child (kind.Markup i ∷ vs) message h e = absurd cc
text_child (v ∷ vs) message h e = refl

-- a name that is refused, whatever stands behind it
pub name_refused : (f : Setter) (n : MarkupNode) (a : Argument Bytes) (value : Argument (Option Bytes)) (s t : StoreView) (e : Stop) → Refuses a s t e → Refuses (set_read f n a value) s t e
name_refused f n (Ok x) value s t e none = λ next. none (λ y. with_argument s.heap (set_read f n (Ok x) value) next)
name_refused f n (Err message) value s t e none = λ next. none (λ y. fails s.heap message)

-- what is set: all of a table, or one
pub given_table : (f : Setter) (h : Heap Proc) (m : ℕ) (given : List kind.Value) (t : ℕ) → a_table 1 [] given ≡ Ok t → set_given f h m given ≡ sets_each h m (set_each f (table_at h t).entries (markup_at h m))
given_table f h m [] t e = absurd cc
given_table f h m (kind.Table u ∷ vs) t e = let is : u ≡ t = cc in ap (λ x. sets_each h m (set_each f (table_at h x).entries (markup_at h m))) is
given_table f h m (v ∷ vs) t e = absurd cc

pub given_one : (f : Setter) (h : Heap Proc) (m : ℕ) (given : List kind.Value) (message : Bytes) → a_table 1 [] given ≡ Err message → set_given f h m given ≡ sets_one f h m given
given_one f h m [] message e = refl
given_one f h m (kind.Table u ∷ vs) message e = absurd cc
given_one f h m (v ∷ vs) message e = refl
