-- WHAT STANDS at a point: within a larger set, within its image, within a closed set with the machine's roots, within an own set and the
-- read-only tables, and in each store that has the set as it was.
use Rattle.std.proofs.Common.{◌≡◌, Bool, true, false, List, ◌++◌, Some, IsTrue, refl, sym, ◌∙◌, ap, subst, inl, inr, ◌&&◌}
use Rattle.std.specs.List.{AllByRecursion, flat_map}
use Rattle.lua_heap.specs.Heap.{Heap, Ref, tab, Obj, look, is_shared, table_at}
use Rattle.lua_heap.specs.Related.{Map}
use Rattle.lua_heap.specs.Reach.{Set, AllIn, value_names, obj_names, shared_at, with_shared, image, cut, IsClosed, IsOwnSet}
use Rattle.lua_heap.proofs.Places.{some_back}
use Rattle.lua_heap.proofs.Stood.{look-table}
use Rattle.lua_heap.proofs.Names.{all-both, all-map}
use Rattle.lua_heap.proofs.Carried.{value-carried}
use Rattle.lua_heap.proofs.Sets.{keep-none, cut-moves, cut-back, image-at, image-back, closed-image, stands-cut, stands-frame, or-right, or-back, true-or-false, shared-is, shared-back, shared-look}
use Rattle.lua_heap.specs.Proc.{Proc, proc_names}
use Rattle.lua_agree.specs.LuaMeaningScope.{Function}
use Rattle.lua_goes.specs.LuaMeaningActs.{State, LuaRun}
use Rattle.lua_goes.specs.LuaSlotsCode.{CWorld}
use Rattle.lua_goes.specs.LuaSlotsSlots.{Slot, Slots}
use Rattle.lua_goes.specs.LuaSlotsPoints.{Point}
use Rattle.lua_agree.specs.Variables.{Var, Vars, vnone, vplain, vboxed}
use Rattle.lua_agree.specs.Functions.{SameFunction}
use Rattle.lua_agree.specs.Named.{slot_names, functions_names, point_names, module_names, data_names, run_frame_names, held_names, roots}
use Rattle.lua_agree.proofs.Carries.{split, modules-carried, data-carried, frames-carried, point-carried, function-looks}
use Rattle.lua_points.specs.At.{Standing}
use Rattle.lua_points.proofs.Images.{join, regs-image, modules-image, data-image, frames-image, point-image, function-names_stand}

pub both-in : {A : Type 0} (P Q W : A → Type 0) → ((x : A) → P x → Q x → W x) → (xs : List A) → AllByRecursion P xs → AllByRecursion Q xs → AllByRecursion W xs
both-in P Q W f xs a b = all-map (λ x. P x × Q x) W (λ x k. f x k.0 k.1) xs (all-both P Q xs a b)

pub and-split : (a b : Bool) → IsTrue (a && b) → IsTrue a × IsTrue b
and-split true b h = (refl, h)
and-split false b h = cc

pub and-both : (a b : Bool) → IsTrue a → IsTrue b → IsTrue (a && b)
and-both true b g h = h
and-both false b g h = cc

pub apart : {A : Type 0} (b : Bool) → IsTrue b → b ≡ false → A
apart b e f = cc

-- the registers, under a map that is cut down to a set with what they name
open-cut : (m : Map) (T : Set) (h : Heap Function) {vars : List Var} {regs : List Slot} → Vars m h vars regs → AllIn T (flat_map slot_names regs) → Vars (cut T m) h vars regs
open-cut m T h vnone i = vnone
open-cut m T h (vplain c v w vars regs a b s n rest) i =
    let p = split T (value_names w) (flat_map slot_names regs) i in
    vplain c v w vars regs a (keep-none T _ b) (value-carried m (cut T m) T (cut-moves m T) v w s p.0) n (open-cut m T h rest p.1)
open-cut m T h (vboxed c r vars regs a rest) i = vboxed c r vars regs (cut-moves m T _ _ a i.0) (open-cut m T h rest i.1)

module _ (code : CWorld) (h : State) (p : LuaRun) (point : Point) (s : Slots) where
  pub standing-wider : (S T : Set) → ((r : Ref) → IsTrue (S r) → IsTrue (T r)) → Standing code S h p point s → Standing code T h p point s
  standing-wider S T f a = record {
    map = a.map;
    vars = a.vars;
    stands = a.stands;
    open_ = a.open_;
    globals = a.globals;
    writable = a.writable;
    strings = a.strings;
    modules = a.modules;
    data_modules = a.data_modules;
    frames = a.frames;
    inside = λ q r e. f r (a.inside q r e);
    deep = a.deep;
    same = a.same;
  }

  module _ (S : Set) (a : Standing code S h p point s) where
    pub in-image : (q r : Ref) → a.map.to q ≡ Some r → IsTrue (image a.map r)
    in-image q r e = image-at (SameFunction code) a.map h.heap s.heap a.stands q r e

    -- THE IMAGE is closed, and has the roots
    pub image-closed : IsClosed proc_names (image a.map) s.heap
    image-closed = closed-image (SameFunction code) proc_names (function-names_stand code) a.map h.heap s.heap a.stands

    pub image-inside : (r : Ref) → IsTrue (image a.map r) → IsTrue (S r)
    image-inside r e = let b = image-back (SameFunction code) a.map h.heap s.heap a.stands r e in a.inside b.0 r b.1

    -- what is kept of the run, in front of what is named behind it
    kept-image : (more : List Ref) → AllIn (image a.map) more → AllIn (image a.map) (flat_map module_names s.modules ++ (flat_map data_names s.data_ ++ (flat_map run_frame_names s.frames ++ more)))
    kept-image more i =
        let frames : List Ref = flat_map run_frame_names s.frames ++ more in
        let data_ : List Ref = flat_map data_names s.data_ ++ frames in
        let k = join (image a.map) (flat_map run_frame_names s.frames) more (frames-image a.map (image a.map) in-image h.frames s.frames a.frames) i in
        let l = join (image a.map) (flat_map data_names s.data_) frames (data-image a.map (image a.map) in-image h.data_modules s.data_ a.data_modules) k in
        join (image a.map) (flat_map module_names s.modules) data_ (modules-image a.map (image a.map) in-image h.modules s.modules a.modules) l

    pub roots-image : AllIn (image a.map) (roots point s)
    roots-image =
        let k = point-image a.map (image a.map) in-image code a.same in
        join (image a.map) (point_names point) (held_names s) k.0
        (in-image _ _ a.globals, (in-image _ _ a.strings, kept-image (flat_map slot_names s.regs ++ functions_names s.functions) (join (image a.map) (flat_map slot_names s.regs) (functions_names s.functions) (regs-image a.map (image a.map) in-image h.heap a.open_) k.1)))

    pub standing-image : Standing code (image a.map) h p point s
    standing-image = record {
      map = a.map;
      vars = a.vars;
      stands = a.stands;
      open_ = a.open_;
      globals = a.globals;
      writable = a.writable;
      strings = a.strings;
      modules = a.modules;
      data_modules = a.data_modules;
      frames = a.frames;
      inside = in-image;
      deep = a.deep;
      same = a.same;
    }

    -- CUTTING DOWN to a closed set with the roots
    pub standing-cut : (T : Set) → IsClosed proc_names T s.heap → AllIn T (roots point s) → Standing code T h p point s
    standing-cut T c i =
        let n = split T (point_names point) (held_names s) i in
        let behind_frames : List Ref = flat_map slot_names s.regs ++ functions_names s.functions in
        let behind_data : List Ref = flat_map run_frame_names s.frames ++ behind_frames in
        let behind_modules : List Ref = flat_map data_names s.data_ ++ behind_data in
        let u = split T (flat_map module_names s.modules) behind_modules n.1.1.1 in
        let v = split T (flat_map data_names s.data_) behind_data u.1 in
        let w = split T (flat_map run_frame_names s.frames) behind_frames v.1 in
        let k = split T (flat_map slot_names s.regs) (functions_names s.functions) w.1 in
        let moves = cut-moves a.map T in
        record {
          map = cut T a.map;
          vars = a.vars;
          stands = stands-cut (SameFunction code) proc_names (function-looks code) a.map T h.heap s.heap a.stands c;
          open_ = open-cut a.map T h.heap a.open_ k.0;
          globals = moves _ _ a.globals n.1.0;
          writable = a.writable;
          strings = moves _ _ a.strings n.1.1.0;
          modules = modules-carried a.map (cut T a.map) T moves a.modules u.0;
          data_modules = data-carried a.map (cut T a.map) T moves a.data_modules v.0;
          frames = frames-carried a.map (cut T a.map) T moves a.frames w.0;
          inside = λ q r e. (cut-back a.map T q r e).1;
          deep = λ q r b e f y. a.deep q r b (cut-back a.map T q r e).0 f y;
          same = point-carried a.map (cut T a.map) T moves code a.same n.0 k.1;
        }

    -- what the contents of the image name is as it was, where the set is
    deep-frame : (t : Heap Proc) → ((r : Ref) (o : Obj Proc) → IsTrue (S r) → look s.heap r ≡ Some o → look t r ≡ Some o)
        → (r : Ref) (b : Obj Proc) → IsTrue (image a.map r) → look s.heap r ≡ Some b → AllIn (shared_at s.heap) (obj_names proc_names b) → AllIn (shared_at t) (obj_names proc_names b)
    deep-frame t f r b e g i =
        let v = image-closed.there r e in
        both-in (λ x. IsTrue (shared_at s.heap x)) (λ x. IsTrue (image a.map x)) (λ x. IsTrue (shared_at t x))
        (λ x y z. let o = shared-back s.heap x y in shared-is t x o.0 (f x o.0 (image-inside x z) o.1) o.2)
        (obj_names proc_names b) i (subst (λ o. AllIn (image a.map) (obj_names proc_names o)) (some_back (sym v.1 ∙ g)) v.2)

    -- and so is the table of the global variables
    still-plain : (t : Heap Proc) → ((r : Ref) (o : Obj Proc) → IsTrue (S r) → look s.heap r ≡ Some o → look t r ≡ Some o) → (table_at t s.globals).frozen ≡ false
    still-plain t f =
        let v = a.stands.holds _ _ a.globals in
        let at = f (tab s.globals) v.1 (a.inside _ _ a.globals) v.3 in
        ap is_shared (look-table t s.globals v.1 at) ∙ sym (ap is_shared (look-table s.heap s.globals v.1 v.3)) ∙ a.writable

    -- WHAT STANDS LOOKS AT ITS SET ALONE
    pub standing-frame : (t : Heap Proc) → ((r : Ref) (o : Obj Proc) → IsTrue (S r) → look s.heap r ≡ Some o → look t r ≡ Some o) → Standing code S h p point (record s { heap = t })
    standing-frame t f = record {
      map = a.map;
      vars = a.vars;
      stands = stands-frame (SameFunction code) a.map h.heap s.heap t a.stands (λ q r e. let v = a.stands.holds q r e in f r v.1 (a.inside q r e) v.3 ∙ sym v.3);
      open_ = a.open_;
      globals = a.globals;
      writable = still-plain t f;
      strings = a.strings;
      modules = a.modules;
      data_modules = a.data_modules;
      frames = a.frames;
      inside = a.inside;
      deep = λ q r b e g y.
          let v = a.stands.holds q r e in
          let k : v.1 ≡ b = some_back (sym (f r v.1 (a.inside q r e) v.3) ∙ g) in
          let l : look s.heap r ≡ Some b = subst (λ o. look s.heap r ≡ Some o) k v.3 in
          deep-frame t f r b (in-image q r e) l (a.deep q r b e l y);
      same = a.same;
    }

    -- AN OWN SET that has the roots but for read-only tables: what stands in it and in read-only tables is closed
    abbrev pub own_part : Set → Set
    own_part T r = image a.map r && with_shared T s.heap r

    own-object : (T : Set) → IsOwnSet proc_names T s.heap → (r : Ref) (o : Obj Proc) → IsTrue (image a.map r) → look s.heap r ≡ Some o → IsTrue (with_shared T s.heap r) → AllIn (with_shared T s.heap) (obj_names proc_names o)
    own-object T c r o e g i = elim (true-or-false (is_shared o)) [
      | inl y ↦
          let b = image-back (SameFunction code) a.map h.heap s.heap a.stands r e in
          all-map (λ x. IsTrue (shared_at s.heap x)) (λ x. IsTrue (with_shared T s.heap x)) (λ x k. or-right (T x) _ k) (obj_names proc_names o) (a.deep b.0 r o b.1 g y)
      | inr n ↦ elim (or-back (T r) (shared_at s.heap r) i) [
        | inl k ↦ let v = c.there r k in subst (λ x. AllIn (with_shared T s.heap) (obj_names proc_names x)) (some_back (sym v.1 ∙ g)) v.3
        | inr k ↦ apart (shared_at s.heap r) k (shared-look s.heap r o g ∙ n)
      ]
    ]

    pub own-part_closed : (T : Set) → IsOwnSet proc_names T s.heap → IsClosed proc_names (own_part T) s.heap
    own-part_closed T c = record {
      there = λ r e.
          let b = and-split (image a.map r) (with_shared T s.heap r) e in
          let v = image-closed.there r b.0 in
          (v.0, v.1, both-in (λ x. IsTrue (image a.map x)) (λ x. IsTrue (with_shared T s.heap x)) (λ x. IsTrue (own_part T x)) (λ x y z. and-both (image a.map x) _ y z) (obj_names proc_names v.0) v.2 (own-object T c r v.0 b.0 v.1 b.1));
    }

    pub roots-own_part : (T : Set) → AllIn (with_shared T s.heap) (roots point s) → AllIn (own_part T) (roots point s)
    roots-own_part T i = both-in (λ x. IsTrue (image a.map x)) (λ x. IsTrue (with_shared T s.heap x)) (λ x. IsTrue (own_part T x)) (λ x y z. and-both (image a.map x) _ y z) (roots point s) roots-image i

    pub standing-own : (T : Set) → IsOwnSet proc_names T s.heap → AllIn (with_shared T s.heap) (roots point s) → Standing code (own_part T) h p point s
    standing-own T c i = standing-cut (own_part T) (own-part_closed T c) (roots-own_part T i)
