-- AN ENTRY THAT IS SET, as the machine's moves set it.
use Rattle.std.proofs.Common.{◌≡◌, ◌∙◌, ◌≤◌, ◌-◌, ℕ, Bool, true, false, List, [], ◌∷◌, Option, Some, refl, sym, ap, subst, arith}
use Rattle.std.specs.Prelude.{◌||◌, codes}
use Rattle.lua_loops.specs.WkBaseDeclaredLeftLeft.{Left}
use Rattle.lua_loops.specs.PageRunOutcome.{Goes}
use Rattle.lua_code.proofs.PageRunLess.{less_of}
use Rattle.lua_code.specs.LuaHeapProc.{Proc}
use Rattle.lua_code.specs.LuaHeapHeap.{Heap, set_in, table_at}
use Rattle.lua_code.specs.LuaHeapTable.{get, has}
use Rattle.lua_code.specs.LuaHeapValue.{Value, Table, is_nil}
use Rattle.lua_operators.specs.LuaMeaningMetatables.{handler}
use Rattle.lua_operators.specs.LuaStoreSeen.{StoreView}
use Rattle.lua_operators.specs.LuaStoreParts.{IsLater}
use Rattle.lua_code.specs.LuaSlotsCode.{CWorld}
use Rattle.lua_operators.specs.LuaSlotsEnact.{Funds, Stands, enact, paid}
use Rattle.lua_operators.specs.LuaSlotsErrors.{choose, gives}
use Rattle.lua_code.specs.LuaSlotsIndex.{put_entry, set_entry, set_table, with_entry}
use Rattle.lua_operators.specs.LuaSlotsPoints.{EntryS, SFrame, SetsNext, Point, Gives, Sets, Move}
use Rattle.lua_operators.specs.LuaSlotsSlots.{Slots, with_heap}
use Rattle.lua_strides.specs.LuaGoesGoing.{Reaches, here, further}
use Rattle.lua_strides.proofs.LuaInPlaceReading.{reach_then}
use Rattle.lua_strides.proofs.LuaInPlaceStatements.{free, free_then}
use Rattle.lua_strides.specs.LuaStackDeclaredFocusFocusTheVariants as focus
use Rattle.lua_strides.specs.LuaStackDeclaredValuesGivenTheVariants as given
use Rattle.lua_strides.specs.LuaStateDeclaredStateState.{State}
use Rattle.lua_loops.specs.LuaStateSeen.{slots_of, frames_of, funds_of}
use Rattle.lua_loops.specs.LuaStateOf.{StateOf}
use Rattle.lua_loops.specs.LuaStateWorlds.{world_seen}
use Rattle.lua_loops.proofs.LuaStateStaying.{state_later, frames_stay, slots_stay}
use Rattle.lua_strides.specs.Strides.{Idles}
use Rattle.lua_strides.proofs.Paths.{idle_here}
use Rattle.lua_turns.specs.Rows.{Follows}
use Rattle.lua_turns.specs.Setting.{PutsEntry}

-- WHERE NOBODY IS ASKED
second : (b : Bool) (x y : Move) → b ≡ false → choose b x y ≡ y
second b x y e = ap (λ c. choose c x y) e

first : (b : Bool) (x y : Move) → b ≡ true → choose b x y ≡ x
first b x y e = ap (λ c. choose c x y) e

module _ (t : ℕ) (key value : Value) (line : Option ℕ) (fs : List SFrame) (s : Slots) (frozen : (table_at s.heap t).frozen ≡ false) (some : is_nil key ≡ false) where
  entry_plain : set_entry t key value line fs s ≡ put_entry t key value fs s
  entry_plain = second (table_at s.heap t).frozen _ _ frozen ∙ second (is_nil key) _ _ some

  pub there_plain : is_nil (get (table_at s.heap t).entries key) ≡ false → set_table t key value line fs s ≡ put_entry t key value fs s
  there_plain e = second (is_nil (get (table_at s.heap t).entries key)) _ _ e ∙ entry_plain

  pub absent_plain : is_nil (get (table_at s.heap t).entries key) ≡ true → is_nil (handler s.heap (Table t) (codes "__newindex")) ≡ true → set_table t key value line fs s ≡ put_entry t key value fs s
  absent_plain e h = first (is_nil (get (table_at s.heap t).entries key)) _ _ e ∙ first (is_nil (handler s.heap (Table t) (codes "__newindex"))) _ _ h ∙ entry_plain

-- PAID, where it is new
module _ (s u : StoreView) (t : ℕ) (key v : Value) (later : IsLater s u) (set : u.heap ≡ set_in s.heap t key v) where
  entered : (fs : List SFrame) (x : Slots) (f : Funds) → x.heap ≡ s.heap → enact (gives [] fs (with_entry t key v x)) f ≡ Stands (Gives (Goes []) fs) (with_heap u.heap x) f
  entered fs x f e =
      ap (λ (h : Heap Proc). Stands (Gives (Goes []) fs) (with_heap (set_in h t key v) x) f) e ∙ ap (λ (h : Heap Proc). Stands (Gives (Goes []) fs) (with_heap h x) f) (sym set)

  pub puts_old : (l : Left) → (has (table_at s.heap t).entries key || is_nil v) ≡ true → PutsEntry s t key v l u l
  puts_old l old = record {
    later = later;
    sinks = omega arith;
    put = λ m told i fs x e.
        ap (λ (mv : Move). enact mv (funds_of l m told i)) (first (has (table_at x.heap t).entries key || is_nil v) _ _ (ap (λ (h : Heap Proc). has (table_at h t).entries key || is_nil v) e ∙ old)) ∙ entered fs x (funds_of l m told i) e;
  }

  pub puts_new : (l l' : Left) → (has (table_at s.heap t).entries key || is_nil v) ≡ false → 4 ≤ l.steps → l' ≡ record l { steps = l.steps - 4 } → PutsEntry s t key v l u l'
  puts_new l l' new enough less_by = record {
    later = later;
    sinks = let n : l'.steps ≡ l.steps - 4 = ap (λ (o : Left). o.steps) less_by in omega (arith, n);
    put = λ m told i fs x e.
        let mv : Move = gives [] fs (with_entry t key v x) in
        ap (λ (z : Move). enact z (funds_of l m told i)) (second (has (table_at x.heap t).entries key || is_nil v) _ _ (ap (λ (h : Heap Proc). has (table_at h t).entries key || is_nil v) e ∙ new))
        ∙ ap (λ (o : Option ℕ). paid o (funds_of l m told i) (enact mv)) (less_of 4 l.steps enough)
        ∙ ap (λ (o : Left). enact mv (funds_of o m told i)) (sym less_by) ∙ entered fs x (funds_of l' m told i) e;
  }

-- FROM THE POINT where it is still to be set
pub set_follows : (s u : StoreView) (m : State) (l l' : Left) (k : ℕ) (t : ℕ) (key v : Value) (line : ℕ) → StateOf s m
    → ((fs : List SFrame) (x : Slots) → x.heap ≡ s.heap → set_table t key v (Some line) fs x ≡ put_entry t key v fs x) → PutsEntry s t key v l u l'
    → Follows s m (Sets ((EntryS (Table t) key line, v) ∷ []) (frames_of s m)) l k u m l' k (focus.Gives (given.Many []))
set_follows s u m l l' k t key v line of plain put =
    let fs : List SFrame = frames_of s m in
    let x : Slots = slots_of s m in
    let y : Slots = with_heap u.heap x in
    let p : Point = Sets ((EntryS (Table t) key line, v) ∷ []) fs in
    record {
      state = state_later s u put.later m of;
      world = refl;
      of = tt;
      later = put.later;
      rises = omega arith;
      sinks = put.sinks;
      led = λ told i j h.
          let w : CWorld = world_seen m.codes.world in
          let one : i ≡ j = omega (arith, h) in
          subst (λ (n : ℕ). Reaches w p x (funds_of l m told i) (Gives (Goes []) (frames_of u m)) (slots_of u m) (funds_of l' m told n)) one
          (subst (λ (z : Slots). Reaches w p x (funds_of l m told i) (Gives (Goes []) (frames_of u m)) z (funds_of l' m told i)) (sym (slots_stay s u put.later m of))
          (subst (λ (z : List SFrame). Reaches w p x (funds_of l m told i) (Gives (Goes []) z) y (funds_of l' m told i)) (sym (frames_stay s u put.later m of))
          (reach_then (further p x (funds_of l m told i) (Gives (Goes []) (SetsNext [] ∷ fs)) y (funds_of l' m told i) here
          (ap (λ (mv : Move). enact mv (funds_of l m told i)) (plain (SetsNext [] ∷ fs) x refl) ∙ put.put m told i (SetsNext [] ∷ fs) x refl))
          (free_then w (free w (Gives (Goes []) (SetsNext [] ∷ fs)) y (Sets [] fs) y refl) (free w (Sets [] fs) y (Gives (Goes []) fs) y refl) (funds_of l' m told i)))));
    }

pub not_put : (s u : StoreView) (m : State) (l l' : Left) (k : ℕ) → (u ≡ s) × (l' ≡ l) → Idles s m l k u m l' k
not_put s u m l l' k e = rw (e.0, e.1) (idle_here s m l k)
