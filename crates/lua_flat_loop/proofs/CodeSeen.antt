-- The code that the loop has at hand is that of the newest function.
use Rattle.std.proofs.Common.{◌≡◌, ◌∙◌, ℕ, zero, suc, List, [], ◌∷◌, length, Option, Some, None, refl, sym, ap, subst, slice_get, arith}
use Rattle.std.specs.List.{AllByRecursion}
use Rattle.std.specs.Option.{option_map}
use Rattle.lua_store.specs.Seen.{StoreView, text_at}
use Rattle.lua_store.specs.Parts.{IsLater, IsOf}
use Rattle.lua_store.proofs.Lists.{all-get, all-to}
use Rattle.lua_store.proofs.Later.{of-later, seen-later}
use Rattle.lua_store.proofs.LuaHeapPlaces.{get-map}
use Rattle.lua_store.specs.declared.value.Value.{Value}
use Rattle.lua_flat.specs.LuaSlotsCode.{Constants, CWorld}
use Rattle.lua_code.specs.LuaSlotsCalls as calls
use Rattle.lua_stack.specs.Of.{ValuesOf}
use Rattle.lua_flat.specs.Operations.{Codes, FlatFunction}
use Rattle.lua_flat_code.specs.declared.function.Function.{Function}
use Rattle.lua_flat_code.specs.declared.function.Functions.{Functions}
use Rattle.lua_flat_code.specs.declared.op.Step.{Step}
use Rattle.lua_flat_code.specs.Seen.{Tables, step_seen, function_seen}
use Rattle.lua_flat_code.specs.Whole.{functions_seen}
use Rattle.lua_flat_loop.specs.declared.ready.Ready.{Ready}
use Rattle.lua_flat_loop.specs.declared.ready.Code.{Code}
use Rattle.lua_flat_loop.specs.Code.{function_at, tables_of, IsCodeOf, value_or_nil, Knows, ReadyOf, IsReady, AreReady}
use Rattle.lua_flat_loop.specs.Standing.{title_of}

-- the function as it is seen
abbrev pub plain_of : Functions → Function → FlatFunction
plain_of fs f = function_seen (length fs.texts) fs.constants f

numbered : (fs : Functions) (i : ℕ) → functions_seen fs i ≡ option_map (function_seen (length fs.texts) fs.constants) (function_at fs i)
numbered fs zero = refl
numbered fs (suc i) = refl

module _ (w : CWorld) (codes : Codes) (s : StoreView) (modules : List Ready) (ready : AreReady w codes s modules) (source index : ℕ) (c : Code) (h : IsCodeOf modules source index c) where
  home_ready : IsReady w codes s h.home
  home_ready = all-get (IsReady w codes s) modules source h.home ready h.there

  -- its code
  pub code_seen : codes (title_of s.texts (slice_get modules source)) index ≡ Some (plain_of h.home.functions.now c.function.now)
  code_seen =
      ap (λ (o : Option Ready). codes (title_of s.texts o) index) h.there ∙ home_ready.functions index ∙ numbered h.home.functions.now index
      ∙ ap (option_map (plain_of h.home.functions.now)) h.function

  -- and the constants of its module
  pub constants_known : Knows s.texts (calls.code_of (w.modules (title_of s.texts (slice_get modules source)))).constant (tables_of h.home.functions.now c.function.now) c.constants.now
  constants_known =
      subst (λ (o : Option Ready). Knows s.texts (calls.code_of (w.modules (title_of s.texts o))).constant (tables_of h.home.functions.now c.function.now) c.constants.now) (sym h.there)
      (subst (λ (vs : List Value). Knows s.texts (calls.code_of (w.modules (text_at s.texts h.home.title.at))).constant (tables_of h.home.functions.now c.function.now) vs) (sym h.constants) (home_ready.constants c.function.now))

-- a step of it
pub step_seen_at : (modules : List Ready) (source index pc : ℕ) (c : Code) (h : IsCodeOf modules source index c) (st : Step) → slice_get c.steps.now pc ≡ Some st
    → slice_get (plain_of h.home.functions.now c.function.now).steps pc ≡ Some (step_seen (tables_of h.home.functions.now c.function.now) st)
step_seen_at modules source index pc c h st e =
    get-map (step_seen (tables_of h.home.functions.now c.function.now)) c.function.now.steps pc
    ∙ ap (λ (l : List Step). option_map (step_seen (tables_of h.home.functions.now c.function.now)) (slice_get l pc)) (sym h.steps)
    ∙ ap (option_map (step_seen (tables_of h.home.functions.now c.function.now))) e

-- a constant, or nil, is of the store
constant_by : (s : StoreView) (vs : List Value) (n : ℕ) → ValuesOf s vs → (o : Option Value) → slice_get vs n ≡ o → IsOf s (value_or_nil o)
constant_by s vs n h None e = tt
constant_by s vs n h (Some v) e = all-get (IsOf s) vs n v h e

pub constant_of : (s : StoreView) (vs : List Value) (n : ℕ) → ValuesOf s vs → IsOf s (value_or_nil (slice_get vs n))
constant_of s vs n h = constant_by s vs n h (slice_get vs n) refl

-- MODULES STAY READY
module _ (s t : StoreView) (l : IsLater s t) where
  knows_stays : (cs : Constants) (k : Tables) (vs : List Value) → ValuesOf s vs → Knows s.texts cs k vs → Knows t.texts cs k vs
  knows_stays cs k vs h known n = seen-later s t l (value_or_nil (slice_get vs n)) (constant_of s vs n h) ∙ known n

  pub ready_of-later : (m : Ready) → ReadyOf s m → ReadyOf t m
  ready_of-later m h = record {
    title = omega (arith, h.title, l.texts.length_);
    constants = all-to (IsOf s) (IsOf t) (of-later s t l) m.constants.items h.constants;
  }

  module_stays : (w : CWorld) (codes : Codes) (m : Ready) → ReadyOf s m → IsReady w codes s m → IsReady w codes t m
  module_stays w codes m of r = record {
    functions = λ n. ap (λ (title : List ℕ). codes title n) (l.texts.same m.title.at of.title) ∙ r.functions n;
    constants = λ f. subst (λ (title : List ℕ). Knows t.texts (calls.code_of (w.modules title)).constant (tables_of m.functions.now f) m.constants.items) (sym (l.texts.same m.title.at of.title))
        (knows_stays (calls.code_of (w.modules (text_at s.texts m.title.at))).constant (tables_of m.functions.now f) m.constants.items of.constants (r.constants f));
  }

  pub ready_stays : (w : CWorld) (codes : Codes) (modules : List Ready) → AllByRecursion (ReadyOf s) modules → AreReady w codes s modules → AreReady w codes t modules
  ready_stays w codes [] of r = tt
  ready_stays w codes (m ∷ modules) of r = (module_stays w codes m of.0 r.0, ready_stays w codes modules of.1 r.1)
