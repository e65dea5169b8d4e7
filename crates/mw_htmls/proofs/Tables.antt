-- The entries of a table, read one after another.
use Rattle.std.proofs.Common.{◌≡◌, ◌∙◌, ap, sym, subst, refl, arith, ℕ, zero, suc, ◌+◌, ◌<◌, ◌≤◌, ℤ, true, false, List, [], ◌∷◌, ◌++◌, length, Option, Some, None, Ok, Err, slice_get, drop}
use Rattle.std.specs.Prelude.{Result}
use Rattle.std.proofs.lemmas.List.{get_or-set_same, set-get_or}
use Rattle.lua_strings.specs.WkBaseDeclaredLeftLeft.{Left}
use Rattle.lua_strings.specs.LuaHeapProc.{Proc}
use Rattle.lua_strings.specs.LuaHeapValue as kind
use Rattle.lua_strings.specs.LuaHeapValue.{is_nil}
use Rattle.mw_html.specs.LuaHeapTable.{Entries}
use Rattle.mw_html.proofs.LuaHeapPlaces.{some_back}
use Rattle.mw_html.specs.LuaHeapHeap.{Heap, MarkupNode, no_markup, table_at, markup_at, set_markup_in}
use Rattle.lua_strings.specs.LuaMeaningScope.{Bytes}
use Rattle.lua_strings.specs.LuaMeaningArguments.{Plain, PlainEnd, Fails, Argument, fails, with_charge, text_charge}
use Rattle.lua_strings.specs.LuaMeaningHtml as html
use Rattle.lua_strings.specs.LuaMeaningHtml.{Settings, behind_charge, go_on_with, set_each, entry_given}
use Rattle.lua_strings.specs.LuaStoreDeclaredIdsMarkupId.{MarkupId}
use Rattle.lua_strings.specs.LuaStoreDeclaredValueValue.{Value}
use Rattle.lua_strings.specs.LuaStoreSeen.{StoreView, seen}
use Rattle.lua_strings.specs.LuaStoreParts.{IsOf, IsMarkupOf, IsLater}
use Rattle.lua_strings.proofs.LuaStoreLater.{of-later, seen-later}
use Rattle.lua_strings.specs.LuaBasicDeclaredStopStop.{Stop}
use Rattle.lua_strings.specs.LuaBasicDeclaredStopStopTheVariants as stop
use Rattle.lua_strings.specs.LuaBasicSeen.{AllOf, AnswerOf, Stops, Refuses, Free, Paid}
use Rattle.lua_strings.proofs.LuaBasicFound.{for_nothing}
use Rattle.lua_strings.specs.Costs.{Takes, Lacks}
use Rattle.lua_strings.proofs.Taken.{takes_then, lacks_then, charged}
use Rattle.mw_htmls.specs.declared.setting.Setter.{Setter}
use Rattle.mw_htmls.specs.declared.setting.Setting.{Setting}
use Rattle.mw_htmls.specs.declared.tabled.SettingsRead.{SettingsRead}
use Rattle.mw_htmls.specs.Setters.{setter_of, set_by, all_set}
use Rattle.mw_htmls.specs.declared.tabled.EntryRead.{EntryRead}
use Rattle.mw_htmls.specs.declared.tabled.EntryRead.TheVariants as entry
use Rattle.mw_htmls.specs.Tabled.{charge_of, LiveIs, EntryIs, ReadUpTo, AreRead, ErrorOf, RaisedLater, EndsRead, GivesOrRaises}
use Rattle.mw_htmls.proofs.Changed.{set_twice, object_given}

-- AN ARGUMENT THAT IS REFUSED is a message, which is raised
pub refused_with : {Y : Type 0} (a : Argument Y) (s t : StoreView) (v : Value) (level : ℤ) → Refuses a s t (stop.Raised v level) → (message : Bytes) × (a ≡ Err message) × Stops (fails s.heap message) t (stop.Raised v level)
refused_with (Err message) s t v level none = (message, refl, none (λ y. fails s.heap message))
refused_with (Ok y) s t v level none = absurd (charged-none (ap (λ (p : Plain Proc). p.charge) (none (λ x. with_charge 1 (fails s.heap [])))))
  where
    charged-none : ◌≡◌ {A = ℕ} 1 0 → ⊥
    charged-none e = cc

pub never_spent : {Y : Type 0} (a : Argument Y) (s t : StoreView) → Refuses a s t stop.Spent → ⊥
never_spent a s t none = none (λ x. fails s.heap [])

-- SETTINGS behind charges
pub charged_on : (j k : ℕ) (r : Settings) → behind_charge j (behind_charge k r) ≡ behind_charge (j + k) r
charged_on j k r = ap (λ (n : ℕ). let x : Settings = record r { charge = n } in x) (omega arith)

-- what was read, and what is still to read, are all
abbrev pub IsReadSoFar : Setter → Entries → Entries → ℕ → List Setting → Type 0
IsReadSoFar which all rest k done = (n : MarkupNode) → behind_charge k (set_each (setter_of which) rest (all_set which done n)) ≡ set_each (setter_of which) all n

all_set-more : (which : Setter) (done : List Setting) (x : Setting) (n : MarkupNode) → all_set which (done ++ x ∷ []) n ≡ set_by which x (all_set which done n)
all_set-more which [] x n = refl
all_set-more which (y ∷ done) x n = all_set-more which done x (set_by which y n)

module _ (which : Setter) (all rest more : Entries) (e : kind.Value × kind.Value) (is : rest ≡ e ∷ more) where
  cleared : (n : MarkupNode) → is_nil e.1 ≡ true → set_each (setter_of which) (e ∷ more) n ≡ behind_charge 1 (set_each (setter_of which) more n)
  cleared n h = rw h refl

  live : (n : MarkupNode) → is_nil e.1 ≡ false → set_each (setter_of which) (e ∷ more) n
      ≡ behind_charge (text_charge (entry_given e)) (go_on_with n (html.set_one (setter_of which) (entry_given e) n) (λ made. set_each (setter_of which) more made))
  live n h = rw h refl

  pub passed_on : (k : ℕ) (done : List Setting) → IsReadSoFar which all rest k done → is_nil e.1 ≡ true → IsReadSoFar which all more (k + 1) done
  passed_on k done so h n =
      sym (charged_on k 1 (set_each (setter_of which) more (all_set which done n))) ∙ ap (behind_charge k) (sym (cleared (all_set which done n) h))
      ∙ ap (λ es. behind_charge k (set_each (setter_of which) es (all_set which done n))) (sym is) ∙ so n

  pub named_on : (k : ℕ) (done after : List Setting) (x : Setting) → IsReadSoFar which all rest k done → is_nil e.1 ≡ false → after ≡ done ++ x ∷ []
      → ((n : MarkupNode) → html.set_one (setter_of which) (entry_given e) n ≡ Ok (set_by which x n)) → IsReadSoFar which all more (k + text_charge (entry_given e)) after
  named_on k done after x so h pushed sets n =
      let was = all_set which done n in
      let c = text_charge (entry_given e) in
      ap (λ ds. behind_charge (k + c) (set_each (setter_of which) more (all_set which ds n))) pushed
      ∙ ap (λ m. behind_charge (k + c) (set_each (setter_of which) more m)) (all_set-more which done x n)
      ∙ sym (charged_on k c (set_each (setter_of which) more (set_by which x was)))
      ∙ sym (ap (λ a. behind_charge k (behind_charge c (go_on_with was a (λ made. set_each (setter_of which) more made)))) (sets was))
      ∙ ap (behind_charge k) (sym (live was h)) ∙ ap (λ es. behind_charge k (set_each (setter_of which) es was)) (sym is) ∙ so n

  pub wrong_at : (k : ℕ) (done : List Setting) (n : MarkupNode) (message : Bytes) → IsReadSoFar which all rest k done → is_nil e.1 ≡ false → html.set_one (setter_of which) (entry_given e) (all_set which done n) ≡ Err message
      → set_each (setter_of which) all n ≡ record { charge = k + text_charge (entry_given e); node = all_set which done n; fault = Some message }
  wrong_at k done n message so h bad =
      let was = all_set which done n in
      let c = text_charge (entry_given e) in
      let zero_ : k + (c + 0) ≡ k + c = omega arith in
      sym (so n) ∙ ap (λ es. behind_charge k (set_each (setter_of which) es was)) is ∙ ap (behind_charge k) (live was h)
      ∙ ap (λ a. behind_charge k (behind_charge c (go_on_with was a (λ made. set_each (setter_of which) more made)))) bad
      ∙ ap (λ (i : ℕ). let x : Settings = record { charge = i; node = was; fault = Some message } in x) zero_

  -- the charge of an entry is part of the whole
  pub entry_counts : (k : ℕ) (done : List Setting) (n : MarkupNode) → IsReadSoFar which all rest k done → k + charge_of e ≤ (set_each (setter_of which) all n).charge
  entry_counts k done n so =
      let whole = ap (λ (r : Settings). r.charge) (sym (so n) ∙ ap (λ es. behind_charge k (set_each (setter_of which) es (all_set which done n))) is) in
      subst (λ (i : ℕ). k + charge_of e ≤ i) (sym whole) (go (is_nil e.1) refl)
    where
      go : (b : _) → is_nil e.1 ≡ b → k + charge_of e ≤ k + (set_each (setter_of which) (e ∷ more) (all_set which done n)).charge
      go true h = rw h (omega arith)
      go false h = rw h (omega arith)

pub all_done : (which : Setter) (all rest : Entries) (k : ℕ) (done : List Setting) (n : MarkupNode) → IsReadSoFar which all rest k done → rest ≡ []
    → set_each (setter_of which) all n ≡ record { charge = k; node = all_set which done n; fault = None }
all_done which all rest k done n so is =
    let zero_ : k + 0 ≡ k = omega arith in
    sym (so n) ∙ ap (λ es. behind_charge k (set_each (setter_of which) es (all_set which done n))) is
    ∙ ap (λ (i : ℕ). let x : Settings = record { charge = i; node = all_set which done n; fault = None } in x) zero_

-- AN ENTRY of a table
pub drop_at : {A : Type 0} (xs : List A) (n : ℕ) (x : A) → slice_get xs n ≡ Some x → drop n xs ≡ x ∷ drop (n + 1) xs
drop_at [] n x e = cc
drop_at (y ∷ xs) zero x e = ap (λ z. z ∷ xs) (some_back e)
drop_at (y ∷ xs) (suc n) x e = let is : suc (n + 1) ≡ suc n + 1 = omega arith in drop_at xs n x e ∙ ap (λ (k : ℕ). x ∷ drop k (y ∷ xs)) is

pub entry_among : (s t : StoreView) (m n : ℕ) (e : kind.Value × kind.Value) → t ≡ s → drop n (table_at t.heap m).entries ≡ e ∷ drop (n + 1) (table_at t.heap m).entries
    → drop n (table_at s.heap m).entries ≡ e ∷ drop (n + 1) (table_at s.heap m).entries
entry_among s t m n e is there = subst (λ (x : StoreView). drop n (table_at x.heap m).entries ≡ e ∷ drop (n + 1) (table_at x.heap m).entries) is there

pub drop_past : {A : Type 0} (xs : List A) (n : ℕ) → slice_get xs n ≡ None → drop n xs ≡ []
drop_past [] zero e = refl
drop_past [] (suc n) e = refl
drop_past (y ∷ xs) zero e = cc
drop_past (y ∷ xs) (suc n) e = drop_past xs n e

pub nil_lacks : (which : Setter) (e : kind.Value × kind.Value) (s : StoreView) (l m : Left) (stop_ : Stop) (r : Result EntryRead Stop) → is_nil e.1 ≡ true → Lacks 1 l m stop_ → r ≡ Err stop_ → EntryIs which e s l s m r
nil_lacks which e s l m stop.Spent r h u is =
    subst (EntryIs which e s l s m) (sym is) (let k : charge_of e ≡ 1 = rw h refl in (subst (λ n. l.steps < n) (sym k) u.0, u.1, refl))
nil_lacks which e s l m (stop.Raised v level) r h u is = absurd u
nil_lacks which e s l m stop.NoMemory r h u is = absurd u

pub live_lacks : (which : Setter) (e : kind.Value × kind.Value) (s : StoreView) (l m : Left) (stop_ : Stop) (r : Result EntryRead Stop) → is_nil e.1 ≡ false → Lacks (text_charge (entry_given e)) l m stop_ → r ≡ Err stop_ → EntryIs which e s l s m r
live_lacks which e s l m stop.Spent r h u is =
    subst (EntryIs which e s l s m) (sym is) (let k : charge_of e ≡ text_charge (entry_given e) = rw h refl in (subst (λ n. l.steps < n) (sym k) u.0, u.1, refl))
live_lacks which e s l m (stop.Raised v level) r h u is = absurd u
live_lacks which e s l m stop.NoMemory r h u is = absurd u

pub entry_live : (which : Setter) (e : kind.Value × kind.Value) (s t : StoreView) (l m : Left) (r : Result EntryRead Stop) → is_nil e.1 ≡ false → Takes (text_charge (entry_given e)) l m → LiveIs which (entry_given e) s t r → EntryIs which e s l t m r
entry_live which e s t l m (Ok entry.Passed) h took is = absurd is
entry_live which e s t l m (Ok (entry.Named x)) h took is = (h, took, is)
entry_live which e s t l m (Ok (entry.Wrong v level)) h took is = (h, took, is)
entry_live which e s t l m (Err stop.NoMemory) h took is = tt
entry_live which e s t l m (Err stop.Spent) h took is = absurd is
entry_live which e s t l m (Err (stop.Raised v level)) h took is = absurd is

-- nothing was read yet
pub none_read : (which : Setter) (es : Entries) → IsReadSoFar which es es 0 []
none_read which es n = let zero_ : 0 + (set_each (setter_of which) es n).charge ≡ (set_each (setter_of which) es n).charge = omega arith in
    ap (λ (i : ℕ). let x : Settings = record (set_each (setter_of which) es n) { charge = i } in x) zero_

-- WHAT IS SET of a list
pub set_none : (h : Heap Proc) (m : ℕ) → h ≡ set_markup_in h m (markup_at h m)
set_none h m = ap (λ ns. let x : Heap Proc = record h { markup = ns } in x) (sym (set-get_or h.markup m no_markup))

pub set_more : (which : Setter) (h i j : Heap Proc) (m : ℕ) (done : List Setting) (x : Setting) → m < length h.markup → i ≡ set_markup_in h m (all_set which done (markup_at h m)) → j ≡ set_markup_in i m (set_by which x (markup_at i m))
    → j ≡ set_markup_in h m (all_set which (done ++ x ∷ []) (markup_at h m))
set_more which h i j m done x lt e f =
    let n = all_set which done (markup_at h m) in
    let there : markup_at (set_markup_in h m n) m ≡ n = get_or-set_same h.markup m n no_markup lt in
    f ∙ ap (λ (k : Heap Proc). set_markup_in k m (set_by which x (markup_at k m))) e ∙ ap (λ y. set_markup_in (set_markup_in h m n) m (set_by which x y)) there
    ∙ ap (λ ns. let k : Heap Proc = record h { markup = ns } in k) (set_twice h.markup m n (set_by which x n)) ∙ ap (set_markup_in h m) (sym (all_set-more which done x (markup_at h m)))

-- THE READING so far: so many steps were taken, and the store is as it was
abbrev pub IsSoFar : Setter → Entries → Entries → StoreView → Left → StoreView → Left → List Setting → Type 0
IsSoFar which es rest s l t m done = ((k : ℕ) × Takes k l m × IsReadSoFar which es rest k done) × (t ≡ s)

module _ (which : Setter) (es rest : Entries) (s t : StoreView) (l m : Left) (done : List Setting) (so : IsSoFar which es rest s l t m done) where
  pub ends_read : rest ≡ [] → ReadUpTo which es s l t m done None
  ends_read is = let k = so.0.0 in (k, so.0.1, (λ n. all_done which es rest k done n so.0.2 is), so.1)

  module _ (more : Entries) (e : kind.Value × kind.Value) (is : rest ≡ e ∷ more) (u : StoreView) (j : Left) where
    pub goes_passed : EntryIs which e t m u j (Ok entry.Passed) → IsSoFar which es more s l u j done
    goes_passed p = let k = so.0.0 in ((k + 1, takes_then k 1 l m j so.0.1 p.1, passed_on which es rest more e is k done so.0.2 p.0), p.2 ∙ so.1)

    pub goes_named : (after : List Setting) (x : Setting) → after ≡ done ++ x ∷ [] → EntryIs which e t m u j (Ok (entry.Named x)) → IsSoFar which es more s l u j after
    goes_named after x pushed p =
        let k = so.0.0 in
        let c = text_charge (entry_given e) in
        ((k + c, takes_then k c l m j so.0.1 p.1, named_on which es rest more e is k done after x so.0.2 p.0 pushed p.2.0), p.2.1 ∙ so.1)

    pub ends_wrong : (v : Value) (level : ℤ) → EntryIs which e t m u j (Ok (entry.Wrong v level)) → ReadUpTo which es s l u j done (Some (v, level))
    ends_wrong v level p =
        let k = so.0.0 in
        let c = text_charge (entry_given e) in (
          k + c,
          takes_then k c l m j so.0.1 p.1,
          λ n. let w = p.2 (all_set which done n) in (w.0, wrong_at which es rest more e is k done n w.0 so.0.2 p.0 w.1, subst (λ (x : StoreView). Stops (fails x.heap w.0) u (stop.Raised v level)) so.1 w.2),
        )

    pub ends_lacking : (stop_ : Stop) (r : Result SettingsRead Stop) → EntryIs which e t m u j (Err stop_) → r ≡ Err stop_ → AreRead which es s l u j r
    ends_lacking stop.Spent r p eq =
        let k = so.0.0 in
        let lacks = lacks_then k (charge_of e) l m j stop.Spent so.0.1 (p.0, p.1) in
        let few : (n : MarkupNode) → l.steps < (set_each (setter_of which) es n).charge = λ n. let le = entry_counts which es rest more e is k done n so.0.2 in omega (arith, lacks.0, le) in
        subst (AreRead which es s l u j) (sym eq) (few, lacks.1, p.2 ∙ so.1)
    ends_lacking (stop.Raised v level) r p eq = absurd p
    ends_lacking stop.NoMemory r p eq = subst (AreRead which es s l u j) (sym eq) tt

-- WHAT IS GIVEN of all that was read
pub raised_later : (s t : StoreView) (m : ℕ) (node : MarkupNode) (e : Value × ℤ) → t.heap ≡ set_markup_in s.heap m node → seen t.texts e.0 ≡ seen s.texts e.0 → RaisedLater s m node e t (Err (stop.Raised e.0 e.1))
raised_later s t m node e heap same = (heap, same, refl)

pub table_ends : (which : Setter) (es : Entries) (s t u : StoreView) (l m : Left) (id : ℕ) (read : SettingsRead) (r : Result (List Value) Stop) → AreRead which es s l t m (Ok read) → t.heap ≡ s.heap
    → EndsRead t id (all_set which read.settings (markup_at t.heap id)) read.fault u r → Paid (html.sets_each s.heap id (set_each (setter_of which) es (markup_at s.heap id))) s l u m r
table_ends which es s t u l m id read r are heap ended = go read.fault are (subst (λ h. EndsAt h read.fault) heap ended)
  where
    n : MarkupNode
    n = markup_at s.heap id

    EndsAt : Heap Proc → Option (Value × ℤ) → Type 0
    EndsAt h fault = EndsRead (record t { heap = h }) id (all_set which read.settings (markup_at h id)) fault u r

    go : (fault : Option (Value × ℤ)) → ReadUpTo which es s l t m read.settings fault → EndsAt s.heap fault → Paid (html.sets_each s.heap id (set_each (setter_of which) es n)) s l u m r
    go None (k, took, is, same) f =
        subst (λ x. Paid (html.sets_each s.heap id x) s l u m r) (sym (is n)) (charged k (html.puts s.heap id (all_set which read.settings n)) s l m m u r took (for_nothing _ s u m r f))
    go (Some e) (k, took, is) f = let w = is n in
        subst (λ x. Paid (html.sets_each s.heap id x) s l u m r) (sym w.1) (charged k (fails (set_markup_in s.heap id (all_set which read.settings n)) w.0) s l m m u r took (for_nothing _ s u m r (raised r e w.0 w.2 f)))
      where
        raised : (r : Result (List Value) Stop) (e : Value × ℤ) (message : Bytes) → Stops (fails s.heap message) t (stop.Raised e.0 e.1) → RaisedLater (record t { heap = s.heap }) id (all_set which read.settings n) e u r
            → Free (fails (set_markup_in s.heap id (all_set which read.settings n)) message) u r
        raised (Ok vs) e message stops f = absurd f
        raised (Err stop.Spent) e message stops f = absurd f
        raised (Err stop.NoMemory) e message stops f = tt
        raised (Err (stop.Raised v level)) e message stops f =
            let was : Fails (kind.Text message) _ ≡ Fails (seen t.texts e.0) e.1 = ap (λ (p : Plain Proc). p.end) stops in
            ap (fallen message) (sym f.0) ∙ ap (λ (x : PlainEnd). let p : Plain Proc = record { charge = 0; heap = u.heap; end = x } in p) (was ∙ ap (λ x. Fails x e.1) (sym f.1) ∙ ap (Fails (seen u.texts v)) (sym f.2))
          where
            fallen : Bytes → Heap Proc → Plain Proc
            fallen message h = fails h message

-- reading changes no object
pub read_heap : (which : Setter) (es : Entries) (s t : StoreView) (l m : Left) (done : List Setting) (fault : Option (Value × ℤ)) → ReadUpTo which es s l t m done fault → t.heap ≡ s.heap
read_heap which es s t l m done None (k, took, is, same) = ap (λ (x : StoreView). x.heap) same
read_heap which es s t l m done (Some e) (k, took, is) = sym (ap (λ (p : Plain Proc). p.heap) (is no_markup).2)

pub ended_read : (s t : StoreView) (id : MarkupId) (node : MarkupNode) (fault : Option (Value × ℤ)) (r : Result (List Value) Stop) → t.heap ≡ set_markup_in s.heap id.at node → IsLater s t → ErrorOf s fault → GivesOrRaises id fault r → EndsRead s id.at node fault t r
ended_read s t id node None (Ok vs) heap later of is = object_given (set_markup_in s.heap id.at node) t (kind.Markup id.at) id vs heap refl is
ended_read s t id node None (Err stop.NoMemory) heap later of is = tt
ended_read s t id node None (Err stop.Spent) heap later of is = absurd is
ended_read s t id node None (Err (stop.Raised v level)) heap later of is = absurd is
ended_read s t id node (Some e) (Ok vs) heap later of is = absurd is
ended_read s t id node (Some e) (Err stop.NoMemory) heap later of is = tt
ended_read s t id node (Some e) (Err stop.Spent) heap later of is = absurd is
ended_read s t id node (Some e) (Err (stop.Raised v level)) heap later of is = (heap, ap (seen t.texts) is.0 ∙ seen-later s t later e.0 of, is.1)

pub ended_of : (s t : StoreView) (id : MarkupId) (fault : Option (Value × ℤ)) (r : Result (List Value) Stop) → IsLater s t → IsMarkupOf t id → ErrorOf s fault → GivesOrRaises id fault r → AnswerOf t r
ended_of s t id None (Ok vs) later there of is = subst (AllOf t) (sym is) (there, tt)
ended_of s t id None (Err stop.NoMemory) later there of is = tt
ended_of s t id None (Err stop.Spent) later there of is = tt
ended_of s t id None (Err (stop.Raised v level)) later there of is = absurd is
ended_of s t id (Some e) (Ok vs) later there of is = absurd is
ended_of s t id (Some e) (Err stop.NoMemory) later there of is = tt
ended_of s t id (Some e) (Err stop.Spent) later there of is = tt
ended_of s t id (Some e) (Err (stop.Raised v level)) later there of is = subst (IsOf t) (sym is.0) (of-later s t later e.0 of)
