-- CALLS WHOSE PARTS ARE READ IN PLACE, of a function or of a method of a text: so many nodes lead to the frame that calls.
use Rattle.std.proofs.Common.{◌≡◌, ◌∙◌, ◌+◌, ℕ, List, [], ◌∷◌, ◌++◌, Some, refl, sym, ap, subst, arith}
use Rattle.lua_turns.specs.PageRunOutcome.{Goes}
use Rattle.lua_calls.specs.LuaHeapDeclaredLibraryLibrary.{Library}
use Rattle.lua_code.specs.LuaHeapHeap.{table_at}
use Rattle.lua_turns.specs.LuaHeapTable.{get}
use Rattle.lua_code.specs.LuaHeapValue.{Value as Plain, Text, Builtin}
use Rattle.lua_code.specs.LuaSlotsCode.{CExp, CExps, CallC, MethodC, CWorld}
use Rattle.lua_turns.specs.LuaSlotsCalls.{constants_of}
use Rattle.lua_turns.specs.LuaSlotsErrors.{gives}
use Rattle.lua_turns.specs.LuaSlotsIndex.{index}
use Rattle.lua_turns.specs.LuaSlotsPoints.{SFrame, CallNow, MethodNext, MethodNow, Evals, Gives, Lists}
use Rattle.lua_turns.specs.LuaSlotsSlots.{Slots}
use Rattle.lua_turns.specs.LuaInPlaceInPlace.{in_place, all_in_place}
use Rattle.lua_turns.proofs.LuaInPlaceReading.{reads}
use Rattle.lua_turns.proofs.LuaInPlaceListing.{list_reads}
use Rattle.lua_turns.proofs.LuaInPlaceStatements.{Leads, free, free_first, joined, behind_node, called}
use Rattle.lua_turns.specs.LuaStoreDeclaredIdsTextId.{TextId}
use Rattle.lua_turns.specs.LuaStoreDeclaredValueValue.{Value}
use Rattle.lua_calls.specs.LuaStoreDeclaredValueValueTheVariants as value
use Rattle.lua_turns.specs.LuaStoreSeen.{StoreView, seen}
use Rattle.lua_turns.specs.LuaStackOf.{ValuesOf}
use Rattle.lua_turns.specs.LuaStackSeen.{values_seen}
use Rattle.lua_turns.specs.LuaStateDeclaredStateState.{State}
use Rattle.lua_turns.specs.LuaStateOf.{IsConstant}
use Rattle.lua_turns.specs.LuaStateSeen.{slots_of, constants_in}
use Rattle.lua_turns.specs.LuaStateWorlds.{world_seen}
use Rattle.lua_turns.specs.LuaStridesDeclaredReadingValueRead.{ValueRead}
use Rattle.lua_turns.specs.LuaStridesReads.{ReadsTo}
use Rattle.lua_turns.specs.LuaStridesStrides.{LeadsAt}
use Rattle.lua_turns.proofs.LuaStridesPaths.{at_once}
use Rattle.lua_turns.proofs.Named.{found_here}
use Rattle.lua_calls.specs.Table.{IsLine}
use Rattle.lua_rows.specs.declared.ready.Callee.{Callee}
use Rattle.lua_rows.specs.Ready.{act_in, IsCallee, IsMethodOf, StandBehind, IsReady}

-- A METHOD whose object and arguments are read in place, where an index gives it at once: the frame that calls has the object and its arguments
module _ (world : CWorld) (s : Slots) where
  pub method_called : (e : CExp) (name : ℕ) (es : CExps) (line : ℕ) (o v : Plain) (vs : List Plain) (m n : ℕ) → in_place (constants_of world s) e s ≡ Some (o, m) → all_in_place (constants_of world s) es s ≡ Some (vs, n)
      → ((gs : List SFrame) → index o (Text (constants_of world s name)) (Some line) gs s ≡ gives (v ∷ []) gs s) → (fs : List SFrame) → Leads world (Evals (MethodC e name es line) fs) s (1 + (m + n)) (Gives (Goes (o ∷ vs)) (CallNow v line ∷ fs)) s
  method_called e name es line o v vs m n a b found fs =
      let waits : SFrame = MethodNext (constants_of world s name) es line in
      let next : SFrame = MethodNow o es line in
      behind_node world (Evals (MethodC e name es line) fs) (Evals e (waits ∷ fs)) s (m + n) (Gives (Goes (o ∷ vs)) (CallNow v line ∷ fs)) s refl
      (joined world m n (reads world s e o m a (waits ∷ fs))
      (free_first world n (free world (Gives (Goes (o ∷ [])) (waits ∷ fs)) s (Gives (Goes (v ∷ [])) (next ∷ fs)) s (found (next ∷ fs)))
      (free_first world n (free world (Gives (Goes (v ∷ [])) (next ∷ fs)) s (Lists es (o ∷ []) (CallNow v line ∷ fs)) s refl) (list_reads world s es vs n b (o ∷ []) (CallNow v line ∷ fs)))))

-- A FUNCTION of the library that a value is
pub record IsBuiltin (s : StoreView) (v : Value) (f : Callee) : Type 0 where
  pub which : Library
  pub is : IsLine which (act_in f)
  pub same : seen s.texts v ≡ Builtin which

pub builtin_of : (s : StoreView) (v : Value) (f : Callee) → IsCallee v f → IsBuiltin s v f
builtin_of s (value.Builtin which) f is = record { which = which; is = is; same = refl }
builtin_of s v f is = absurd is

-- an entry of the table of strings is the method of a text
pub method_of_text : (s : StoreView) (m : State) (object got : Value) (text id : TextId) (name : ℕ) (f : Callee) → object ≡ value.Text text → IsConstant s m name id
    → seen s.texts got ≡ get (table_at s.heap m.env.strings.at).entries (seen s.texts (value.Text id)) → IsCallee got f → IsMethodOf s m object name f
method_of_text s m object got text id name f is constant entry callee =
    let b : IsBuiltin s got f = builtin_of s got f callee in
    let x : Slots = slots_of s m in
    let key : Plain = Text (constants_in s m name) in
    let there : Builtin b.which ≡ get (table_at s.heap m.env.strings.at).entries key = sym b.same ∙ entry ∙ ap (λ (t : List ℕ). get (table_at s.heap m.env.strings.at).entries (Text t)) constant.is in
    record {
      which = b.which;
      is = b.is;
      found = λ line fs.
          subst (λ (o : Value). index (seen s.texts o) key line fs x ≡ gives (Builtin b.which ∷ []) fs x) (sym is) (found_here s.heap m.env.strings.at key (Builtin b.which) line fs x refl there refl);
    }

-- A CALL of a function, and of a method
module _ (s : StoreView) (m : State) (e : CExp) (es : CExps) (line : ℕ) (r : ValueRead) (f : Callee) (before all : List Value) (n : ℕ) (got : ReadsTo s m e (Some r)) (k : StandBehind s m es before all n) where
  pub function_ready : IsCallee r.value f → before ≡ [] → IsReady s m (CallC e es line) all (record { callee = f; line = line; nodes = 1 + (r.nodes + n) })
  function_ready callee none =
      let b : IsBuiltin s r.value f = builtin_of s r.value f callee in
      let x : Slots = slots_of s m in
      let world : CWorld = world_seen m.codes.world in
      let same : all ≡ k.values = k.behind ∙ ap (λ (vs : List Value). vs ++ k.values) none in
      record {
        which = b.which;
        is = b.is;
        of = subst (ValuesOf s) (sym same) k.of;
        some = omega arith;
        few = omega (arith, got.few, k.few);
        leads = λ fs.
            at_once world (Evals (CallC e es line) fs) x (1 + (r.nodes + n)) (Gives (Goes (values_seen s.texts all)) (CallNow (Builtin b.which) line ∷ fs)) x
            (called world x e es line (Builtin b.which) (values_seen s.texts all) r.nodes n (got.is ∙ ap (λ (v : Plain). Some (v, r.nodes)) b.same) (k.read ∙ ap (λ (vs : List Value). Some (values_seen s.texts vs, n)) (sym same)) fs);
      }

  pub method_ready : (name : ℕ) → IsMethodOf s m r.value name f → before ≡ r.value ∷ [] → IsReady s m (MethodC e name es line) all (record { callee = f; line = line; nodes = 1 + (r.nodes + n) })
  method_ready name method one =
      let x : Slots = slots_of s m in
      let world : CWorld = world_seen m.codes.world in
      let same : all ≡ r.value ∷ k.values = k.behind ∙ ap (λ (vs : List Value). vs ++ k.values) one in
      record {
        which = method.which;
        is = method.is;
        of = subst (ValuesOf s) (sym same) (got.of, k.of);
        some = omega arith;
        few = omega (arith, got.few, k.few);
        leads = λ fs.
            subst (λ (vs : List Value). LeadsAt world (Evals (MethodC e name es line) fs) x (1 + (r.nodes + n)) (Gives (Goes (values_seen s.texts vs)) (CallNow (Builtin method.which) line ∷ fs)) x) (sym same)
            (at_once world (Evals (MethodC e name es line) fs) x (1 + (r.nodes + n)) (Gives (Goes (values_seen s.texts (r.value ∷ k.values))) (CallNow (Builtin method.which) line ∷ fs)) x
            (method_called world x e name es line (seen s.texts r.value) (Builtin method.which) (values_seen s.texts k.values) r.nodes n got.is k.read (method.found (Some line)) fs));
      }
