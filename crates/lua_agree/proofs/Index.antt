-- READING AND SETTING an index, and their links.
use Rattle.std.proofs.Common.{◌≡◌, ℕ, Bool, false, ◌||◌, List, [], ◌∷◌, Option, Some, None, refl, sym, ◌∙◌, subst}
use Rattle.std.specs.Prelude.{codes}
use Rattle.lua_slots.specs.PageRunOutcome.{Goes, Jumps, on_value, ◌>>◌, give, begin}
use Rattle.lua_heap.specs.Value.{Value, Nil, Table}
use Rattle.lua_heap.specs.Heap.{tab, table_at, set_in}
use Rattle.lua_heap.specs.declared.library.Library.{Library}
use Rattle.lua_heap.specs.Related.{Map, none, more, Same, nil, text, table, builtin, markup}
use Rattle.lua_heap.proofs.Entries.{nil-related, has-related}
use Rattle.lua_heap.proofs.Steps.{one_to_one}
use Rattle.lua_heap.proofs.Stood.{stood-table}
use Rattle.lua_heap.proofs.Changes.{moved-set}
use Rattle.lua_slots.specs.LuaMeaningScope.{Levels}
use Rattle.lua_slots.specs.LuaMeaningActs.{Jump, State, IndexLink, SetLink}
use Rattle.lua_slots.specs.LuaMeaningMessages.{nil_key, read_only}
use Rattle.lua_library_agree.specs.LuaMeaningCalls as names_calls
use Rattle.lua_slots.specs.LuaMeaningHtml.{method_named, builtin_or_nil, field_of_object}
use Rattle.lua_library_agree.specs.LuaMeaningIndex.{index_by, index_table, index_all, index_link, set_entry, set_by, set_all, set_link, set_index}
use Rattle.lua_slots.specs.LuaMeaningWorld.{World}
use Rattle.lua_slots.specs.Code.{CWorld}
use Rattle.lua_slots.specs.Slots.{Slots, levels_at}
use Rattle.lua_slots.specs.Points.{IndexLinkS, SetLinkS, SFrame, Gives}
use Rattle.lua_slots.specs.Errors as machine
use Rattle.lua_slots.specs.Index as machine_index
use Rattle.lua_agree.specs.Variables.{Var}
use Rattle.lua_agree.specs.Functions.{SameFunction}
use Rattle.lua_agree.specs.Rests.{After, dropped, SameRest}
use Rattle.lua_agree.specs.Agree.{index_links, set_links, SamePoint, starts, Base, Rel}
use Rattle.lua_agree.specs.Follows.{Follows, takes, sees, changes}
use Rattle.lua_agree.proofs.Parts.{function-same, handler-same, entry-same, OnJump, rest-jumps, rel-moved, branches, here-now, values-on, one-value, fails, fails-with, calls}

-- a field of an object of mw.html
builtin-same : {m : Map} (o : Option Library) → Same m (builtin_or_nil o) (builtin_or_nil o)
builtin-same (Some which) = builtin which
builtin-same None = nil

method-same : {m : Map} {c d : Value} → Same m c d → Same m (field_of_object c) (field_of_object d)
method-same (text name) = builtin-same (method_named name)
method-same e = nil

module _ (world : World) (code : CWorld) (B : Base) {m : Map} {vars : List Var} {h : State} {s : Slots} (r : Rel code B m vars h s) {k : After (List Value)} {fs : List SFrame} (g : SameRest code m vars s.functions k fs) where
  -- READING an index
  module _ (ls : Levels) (line : Option ℕ) (l : ls ≡ levels_at s.functions line) where
    indexes-by : {i i' a b c d : Value} → Same m i i' → Same m a b → Same m c d → Follows world code B (index_by i a c ls k) h (machine_index.index_by i' b d line fs s)
    indexes-by {i} {i'} {a} {b} {c} {d} x e f =
        branches world code B (give (Nil ∷ [])) (begin (IndexLink a i c ls)) _ _ (nil-related m i i' x) (λ _. values-on world code B r g (one-value nil))
        (λ _. here-now world code B r (starts (IndexLink a i c ls) (IndexLinkS b i' d line) k fs (index_links _ _ _ _ _ _ ls line e x f l) g))

    pub indexes-table : (a b : ℕ) {c d : Value} → m.to (tab a) ≡ Some (tab b) → Same m c d → Follows world code B (index_table a c ls k) h (machine_index.index_table b d line fs s)
    indexes-table a b e f =
        let x = entry-same code m h.heap s.heap r.stands e f in
        sees _ _ _
        (branches world code B _ _ _ _ (nil-related m _ _ x) (λ _. indexes-by (handler-same code m h.heap s.heap r.stands (codes "__index") (table a b e)) (table a b e) f)
        (λ _. values-on world code B r g (one-value x)))

    pub indexes : {a b c d : Value} → Same m a b → Same m c d → Follows world code B (index_all a c ls k) h (machine_index.index b d line fs s)
    indexes (text x) f = sees _ _ _ (indexes-table h.strings s.strings r.strings f)
    indexes (table a b e) f = indexes-table a b e f
    indexes (markup x y z) f = values-on world code B r g (one-value (method-same f))
    indexes e f = fails-with world code B r line (rest-jumps code g) l refl

    pub index-links-on : {a b i i' c d : Value} → Same m a b → Same m i i' → Same m c d → Follows world code B (index_link a i c ls k) h (machine_index.index_link b i' d line fs s)
    index-links-on {a} {b} {i} {i'} {c} {d} e x f =
        branches world code B (names_calls.call i (a ∷ c ∷ []) ls) (index_all i c ls) _ _ (function-same x) (λ _. calls world code B r g ls line l x (more _ _ _ _ e (more _ _ _ _ f none)))
        (λ _. indexes x f)

  -- SETTING an entry: what follows in the run gets nothing, and what waits gets no values
  module _ (n : After (Unit {0})) (goes : n (Goes tt) ≡ k (Goes [])) (jumps : (j : Jump) → n (Jumps j) ≡ k (Jumps j)) (ls : Levels) (line : Option ℕ) (l : ls ≡ levels_at s.functions line) where
    unit-jumps : OnJump code m vars s.functions (Unit {0}) n fs
    unit-jumps = record { jump = λ j j' e. subst (λ p. SamePoint code m vars s.functions p (Gives (Jumps j') fs)) (sym (jumps j)) ((rest-jumps code g).jump j j' e) }

    entered : {a b : ℕ} {c d x y : Value} → m.to (tab a) ≡ Some (tab b) → (table_at s.heap b).frozen ≡ false → Same m c d → Same m x y
        → Follows world code B (n (Goes tt)) (record h { heap = set_in h.heap a c x }) (machine.gives [] fs (machine_index.with_entry b d y s))
    entered {a} {b} {c} {d} {x} {y} e z f v =
        subst (λ p. Follows world code B p (record h { heap = set_in h.heap a c x }) (machine.gives [] fs (machine_index.with_entry b d y s))) (sym goes)
        (values-on world code B (rel-moved code r (moved-set (SameFunction code) m h.heap s.heap a b c d x y r.stands e z f v)) g none)

    pub sets-entry : {a b : ℕ} {c d x y : Value} → m.to (tab a) ≡ Some (tab b) → Same m c d → Same m x y → Follows world code B (set_entry a c x ls n) h (machine_index.set_entry b d y line fs s)
    sets-entry {a} {b} {c} {d} {x} {y} e f v =
        let t = stood-table (SameFunction code) m h.heap s.heap a b r.stands e in
        sees _ _ _
        (branches world code B _ _ _ _ t.0.frozen (λ _. fails world code B r line unit-jumps l read_only)
        (λ o. branches world code B _ _ _ _ (nil-related m _ _ f) (λ _. fails world code B r line unit-jumps l nil_key)
        (λ _. branches world code B _ _ _ _ (both-same (has-related m (one_to_one (SameFunction code) m h.heap s.heap r.stands) _ _ _ _ t.0.entries f) (nil-related m _ _ v))
        (λ _. sees _ _ _ (changes _ _ _ _ (entered e (sym t.0.frozen ∙ o) f v)))
        (λ _. takes _ _ _ _ (sees _ _ _ (changes _ _ _ _ (entered e (sym t.0.frozen ∙ o) f v)))))))
      where
        both-same : {p q p' q' : Bool} → p ≡ p' → q ≡ q' → (p || q) ≡ (p' || q')
        both-same e f = rw (e, f) refl

  -- SETTING an index, with handlers
  module _ (ls : Levels) (line : Option ℕ) (l : ls ≡ levels_at s.functions line) where
    sets-plainly : {a b : ℕ} {c d x y : Value} → m.to (tab a) ≡ Some (tab b) → Same m c d → Same m x y → Follows world code B ((set_entry a c x ls >> give []) k) h (machine_index.set_entry b d y line fs s)
    sets-plainly e f v = sets-entry (on_value (λ _. give []) k) refl (λ j. refl) ls line l e f v

    sets-by : {a b : ℕ} {i i' c d x y : Value} → m.to (tab a) ≡ Some (tab b) → Same m i i' → Same m c d → Same m x y → Follows world code B (set_by i a c x ls k) h (machine_index.set_by i' b d y line fs s)
    sets-by {a} {b} {i} {i'} {c} {d} {x} {y} e z f v =
        branches world code B (set_entry a c x ls >> give []) (begin (SetLink (Table a) i c x ls)) _ _ (nil-related m i i' z) (λ _. sets-plainly e f v)
        (λ _. here-now world code B r (starts (SetLink (Table a) i c x ls) (SetLinkS (Table b) i' d y line) k fs (set_links _ _ _ _ _ _ _ _ ls line (table _ _ e) z f v l) g))

    pub sets-all : {a b c d x y : Value} → Same m a b → Same m c d → Same m x y → Follows world code B (set_all a c x ls k) h (machine_index.set_index b d y line fs s)
    sets-all (table a b e) f v =
        sees _ _ _
        (branches world code B _ _ _ _ (nil-related m _ _ (entry-same code m h.heap s.heap r.stands e f)) (λ _. sets-by e (handler-same code m h.heap s.heap r.stands (codes "__newindex") (table a b e)) f v)
        (λ _. sets-plainly e f v))
    sets-all e f v = fails-with world code B r line (rest-jumps code g) l refl

    pub set-links-on : {a b i i' c d x y : Value} → Same m a b → Same m i i' → Same m c d → Same m x y → Follows world code B (set_link a i c x ls k) h (machine_index.set_link b i' d y line fs s)
    set-links-on {a} {b} {i} {i'} {c} {d} {x} {y} e z f v =
        branches world code B (names_calls.call i (a ∷ c ∷ x ∷ []) ls) (set_all i c x ls) _ _ (function-same z) (λ _. calls world code B r g ls line l z (more _ _ _ _ e (more _ _ _ _ f (more _ _ _ _ v none))))
        (λ _. sets-all z f v)

-- an assignment to an index, whose values are dropped
module _ (world : World) (code : CWorld) (B : Base) {m : Map} {vars : List Var} {h : State} {s : Slots} (r : Rel code B m vars h s) (n : After (Unit {0})) {fs : List SFrame} (g : SameRest code m vars s.functions (dropped n) fs) where
  pub sets-index : (ls : Levels) (line : Option ℕ) → ls ≡ levels_at s.functions line → {a b c d x y : Value} → Same m a b → Same m c d → Same m x y → Follows world code B (set_index a c x ls n) h (machine_index.set_index b d y line fs s)
  sets-index ls line l e f v = sets-all world code B r g ls line l e f v
