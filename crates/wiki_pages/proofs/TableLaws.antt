-- The tables of a text, by the code's values.
use Rattle.std.proofs.Common.{◌≡◌, ℕ, ◌+◌, ◌-◌, ◌<◌, ◌≤◌, Bool, true, false, cond, ◌||◌, nat_eq, bytes_eq, is_some, List, [], ◌∷◌, ◌++◌, slice_get, Option, Some, None, IfSome, refl, sym, ap, subst, ◌∙◌, true≢false, arith}
use Rattle.std.proofs.lemmas.Bool.{eqb-true, and_parts}
use Rattle.std.proofs.lemmas.Slice.Eq.{bytes_eq-Decides}
use Rattle.std.specs.declared.random_state.RandomState.{RandomState}
use Rattle.std.specs.Option.{option_copied}
use Rattle.std.specs.Borrow.{Bor}
use Rattle.indexmap.specs.IndexMap.{IndexMap, get, hasher_of}
use Rattle.wiki_markup.specs.WkBaseSpace.{trim}
use Rattle.wiki_markup.specs.Nodes.{Node}
use Rattle.wiki_markup.specs.Trees.{Trees}
use Rattle.expand_texts.specs.ExpandMeaningTexts.{number_of, same_bool, same_number, are_equal}
use Rattle.expand_texts.specs.ExpandMeaningPlaces.{no_part, value_in}
use Rattle.expand_texts.specs.ExpandMeaningExpand.{is_default}
use Rattle.wiki_pages.specs.Stretches.{trees_between, parts_from}
use Rattle.wiki_pages.specs.Forests.{nodes_in, trees_in, parts, size}
use Rattle.wiki_pages.specs.CaseTables.{constant_name, size_hash, hash_as, lower_half, hash_of, Right, find_in, find_among, InOrder, IsRightRun, IsRight, AreRight, noted, Notes, Passes}
use Rattle.wiki_pages.specs.declared.cases.Case.{Case}
use Rattle.wiki_pages.specs.declared.cases.Stretch.{Stretch}
use Rattle.wiki_pages.specs.declared.cases.Stop.{Stop}
use Rattle.wiki_pages.specs.declared.cases.CaseRun.{CaseRun}
use Rattle.wiki_pages.specs.declared.tables.CaseTable.{CaseTable}
use Rattle.wiki_pages.specs.declared.forest.Forest.{Forest}
use Rattle.wiki_pages.proofs.CaseLaws.{Alike, valueless_right, valued_right}

-- ---- equal names have one hash

same_hash : (seed : RandomState) (o p : Option (Bool × ℕ)) (x y : List ℕ) → same_number o p ≡ true → hash_as seed o x ≡ hash_as seed p y
same_hash seed (Some m) (Some n) x y e = ap (size_hash seed) (eqb-true m.1 n.1 (and_parts (same_bool m.0 n.0) (nat_eq m.1 n.1) e).1)
same_hash seed (Some m) None x y e = absurd cc
same_hash seed None p x y e = absurd cc

hash_by : (seed : RandomState) (x y : List ℕ) (b : Bool) → bytes_eq x y ≡ b → (b || same_number (number_of x) (number_of y)) ≡ true → hash_of seed x ≡ hash_of seed y
unfolding hash_of
hash_by seed x y true b e = ap (hash_of seed) ((bytes_eq-Decides x y).0 b)
hash_by seed x y false b e = ap lower_half (same_hash seed (number_of x) (number_of y) x y e)

pub alike_hash : (seed : RandomState) → Alike (hash_of seed)
unfolding are_equal
alike_hash seed x y e = hash_by seed x y (bytes_eq x y) refl e

-- ---- what is noted

there_by : (o : Option Case) (b : Bool) (c : Case) → (b ≡ true → is_some o ≡ true) → o ≡ noted o b c
there_by (Some there) b c f = refl
there_by None true c f = absurd (true≢false (sym (f refl)))
there_by None false c f = refl

pub noted_before : (find : ℕ → Option Case) (y : ℕ) (c : Case) → is_some (find y) ≡ true → Notes find find y c
noted_before find y c e q = there_by (find q) (nat_eq y q) c (λ b. ap (λ z. is_some (find z)) (sym (eqb-true y q b)) ∙ e)

new_by : (o : Option Case) (b : Bool) (c : Case) → (b ≡ true → is_some o ≡ false) → cond b (Some c) o ≡ noted o b c
new_by (Some there) true c f = absurd (true≢false (f refl))
new_by (Some there) false c f = refl
new_by None true c f = refl
new_by None false c f = refl

pub noted_new : (find find' : ℕ → Option Case) (y : ℕ) (c : Case) → is_some (find y) ≡ false → ((q : ℕ) → find' q ≡ cond (nat_eq y q) (Some c) (find q)) → Notes find find' y c
noted_new find find' y c e u q = u q ∙ new_by (find q) (nat_eq y q) c (λ b. ap (λ z. is_some (find z)) (sym (eqb-true y q b)) ∙ e)

-- ---- tables

pub empty_right : (hash : List ℕ → ℕ) (nodes : List Node) (end at : ℕ) (find : ℕ → Option Case) (values : List ℕ) → ((y : ℕ) → find y ≡ None) → values ≡ [] → Right hash nodes end at find values (record { at = at; waits = false; default = None })
empty_right hash nodes end at find values none empty = record {
  miss = λ x d e sc k. refl;
  hit = λ x d c e h. let n : find (hash x) ≡ None = none (hash x) in absurd cc;
  within = λ y c e. let n : find y ≡ None = none y in absurd cc;
  light = omega arith;
  falls = λ group value e. let n : slice_get values group ≡ None = ap (λ vs. slice_get vs group) empty in absurd cc;
}

passed : (nodes : List Node) (at : ℕ) (old new : CaseRun) (name values : List ℕ) (stop : Stop) → Passes old new name values stop → Right (hash_of (hasher_of old.cases)) nodes old.end at (find_in new.cases) values stop → IsRightRun nodes at new
passed nodes at old new name values stop p r =
    subst (λ s. Right (hash_of s) nodes new.end at (find_in new.cases) new.values.items new.stop) (sym p.hasher)
    (subst (λ e. Right (hash_of (hasher_of old.cases)) nodes e at (find_in new.cases) new.values.items new.stop) (sym p.end)
    (subst (λ vs. Right (hash_of (hasher_of old.cases)) nodes old.end at (find_in new.cases) vs new.stop) (sym p.values)
    (subst (λ s. Right (hash_of (hasher_of old.cases)) nodes old.end at (find_in new.cases) values s) (sym p.stop) r)))

valueless_passed : (nodes : List Node) (at next : ℕ) (old new : CaseRun) (part : Trees) (n : List ℕ)
    → Passes old new (trim n) old.values.items (record { at = next; waits = old.stop.waits || is_default (trim n); default = old.stop.default })
    → parts_from nodes old.end old.stop.at ≡ part ∷ parts_from nodes old.end next → constant_name part ≡ Some n → value_in part ≡ None → no_part (parts_from nodes old.end next) ≡ false → old.end - next ≤ old.end - old.stop.at
    → IsRightRun nodes at old → IsRightRun nodes at new
valueless_passed nodes at next old new part n p first named valueless more light right =
    passed nodes at old new (trim n) old.values.items (record { at = next; waits = old.stop.waits || is_default (trim n); default = old.stop.default }) p
    (valueless_right (hash_of (hasher_of old.cases)) nodes old.end at next (find_in old.cases) (find_in new.cases) old.values.items old.stop part n right (alike_hash (hasher_of old.cases)) p.notes first named valueless more light)

valued_passed : (nodes : List Node) (at next : ℕ) (old new : CaseRun) (part value : Trees) (s : Stretch) (n : List ℕ)
    → Passes old new (trim n) (old.values.items ++ old.stop.at ∷ []) (record { at = next; waits = false; default = cond (old.stop.waits || is_default (trim n)) (Some s) old.stop.default })
    → parts_from nodes old.end old.stop.at ≡ part ∷ parts_from nodes old.end next → constant_name part ≡ Some n → value_in part ≡ Some value → trees_between nodes s.start s.end ≡ value
    → (old.end - next) + (s.end - s.start) ≤ old.end - old.stop.at
    → IsRightRun nodes at old → IsRightRun nodes at new
valued_passed nodes at next old new part value s n p first named valued stands light right =
    passed nodes at old new (trim n) (old.values.items ++ old.stop.at ∷ []) (record { at = next; waits = false; default = cond (old.stop.waits || is_default (trim n)) (Some s) old.stop.default }) p
    (valued_right (hash_of (hasher_of old.cases)) nodes old.end at next (find_in old.cases) (find_in new.cases) old.values.items old.stop part n right (alike_hash (hasher_of old.cases)) p.notes first named value s valued stands light)

pub all_right : (nodes : List Node) (old new : IndexMap ℕ CaseTable RandomState) (at : ℕ) (t : CaseTable) → AreRight nodes old → IsRight nodes at t
    → ((q : ℕ) → get nat_eq new q ≡ cond (nat_eq at q) (Some t) (get nat_eq old q)) → AreRight nodes new
all_right nodes old new at t h r u q v e = by (nat_eq at q) refl
  where
    by : (b : Bool) → nat_eq at q ≡ b → IsRight nodes q v
    by true b =
        let here : Some t ≡ Some v = sym (u q ∙ ap (λ c. cond c (Some t) (get nat_eq old q)) b) ∙ e in
        let same : t ≡ v = cc in
        subst (λ w. IsRight nodes q w) same (subst (λ p. IsRight nodes p t) (eqb-true at q b) r)
    by false b = h q v (sym (u q ∙ ap (λ c. cond c (Some t) (get nat_eq old q)) b) ∙ e)

-- ---- forests

pub parts_are : (f : Forest) (nodes : List Node) (end at : ℕ) → nodes_in f.nodes ≡ nodes → f.end ≡ end → f.at ≡ at → parts f ≡ parts_from nodes end at
unfolding trees_in trees_between
parts_are f nodes end at n e a =
    ap (λ ns. parts_from ns f.end f.at) n ∙ ap (λ z. parts_from nodes z f.at) e ∙ ap (parts_from nodes end) a

pub trees_are : (f : Forest) (nodes : List Node) → nodes_in f.nodes ≡ nodes → trees_between nodes f.at f.end ≡ trees_in f
unfolding trees_in trees_between
trees_are f nodes n = ap (λ ns. trees_between ns f.at f.end) (sym n)

-- the table of a run that is right, with the same cases in order
pub held_right : (nodes : List Node) (at : ℕ) (run : CaseRun) (t : CaseTable) → t.seed ≡ hasher_of run.cases → ((y : ℕ) → find_among t.cases.items y ≡ find_in run.cases y) → InOrder t.cases.items
    → t.values.items ≡ run.values.items → t.stop ≡ run.stop → t.end ≡ run.end → IsRightRun nodes at run → IsRight nodes at t
held_right nodes at run t h f o v s z r = record {
  right =
      subst (λ i. Right (hash_of i) nodes t.end at (find_among t.cases.items) t.values.items t.stop) (sym h)
      (subst (λ g. Right (hash_of (hasher_of run.cases)) nodes t.end at g t.values.items t.stop) (λ i y. sym (f y) i)
      (subst (λ vs. Right (hash_of (hasher_of run.cases)) nodes t.end at (find_in run.cases) vs t.stop) (sym v)
      (subst (λ p. Right (hash_of (hasher_of run.cases)) nodes t.end at (find_in run.cases) run.values.items p) (sym s)
      (subst (λ n. Right (hash_of (hasher_of run.cases)) nodes n at (find_in run.cases) run.values.items run.stop) (sym z) r))));
  order = o;
}

-- ---- a part in front of other parts is passed

module _ (part next : Forest) (old new : CaseRun) (n name : List ℕ)
    (first : parts_from (nodes_in next.nodes) old.end old.stop.at ≡ trees_in part ∷ parts next) (amid : nodes_in part.nodes ≡ nodes_in next.nodes) (end : next.end ≡ old.end)
    (falls : size part + size next < old.end - old.stop.at) (named : constant_name (trees_in part) ≡ Some n) (is : name ≡ trim n) where
  next_is : parts next ≡ parts_from (nodes_in next.nodes) old.end next.at
  next_is = parts_are next (nodes_in next.nodes) old.end next.at refl end refl

  left_is : old.end - next.at ≡ size next
  left_is = ap (λ z. z - next.at) (sym end)

  pub part_valueless : value_in (trees_in part) ≡ None → no_part (parts next) ≡ false
      → Passes old new name old.values.items (record { at = next.at; waits = old.stop.waits || is_default name; default = old.stop.default })
      → (at : ℕ) → IsRightRun (nodes_in next.nodes) at old → IsRightRun (nodes_in next.nodes) at new
  part_valueless valueless more p at right =
      valueless_passed (nodes_in next.nodes) at next.at old new (trees_in part) n
      (subst (λ m. Passes old new m old.values.items (record { at = next.at; waits = old.stop.waits || is_default m; default = old.stop.default })) is p)
      (first ∙ ap (λ ps. trees_in part ∷ ps) next_is) named valueless (ap no_part (sym next_is) ∙ more) (omega (arith, left_is, falls)) right

  pub part_valued : (value : Forest) (s : Stretch) → value_in (trees_in part) ≡ Some (trees_in value) → nodes_in value.nodes ≡ nodes_in part.nodes → size value ≤ size part → s ≡ record { start = value.at; end = value.end }
      → Passes old new name (old.values.items ++ old.stop.at ∷ []) (record { at = next.at; waits = false; default = cond (old.stop.waits || is_default name) (Some s) old.stop.default })
      → (at : ℕ) → IsRightRun (nodes_in next.nodes) at old → IsRightRun (nodes_in next.nodes) at new
  part_valued value s valued stays light place p at right =
      let wide : s.end - s.start ≡ size value = ap (λ (t : Stretch). t.end - t.start) place in
      valued_passed (nodes_in next.nodes) at next.at old new (trees_in part) (trees_in value) s n
      (subst (λ m. Passes old new m (old.values.items ++ old.stop.at ∷ []) (record { at = next.at; waits = false; default = cond (old.stop.waits || is_default m) (Some s) old.stop.default })) is p)
      (first ∙ ap (λ ps. trees_in part ∷ ps) next_is) named valued (ap (λ (t : Stretch). trees_between (nodes_in next.nodes) t.start t.end) place ∙ trees_are value (nodes_in next.nodes) (stays ∙ amid))
      (omega (arith, left_is, falls, light, wide)) right

pub passed_falls : (part next : Forest) (old new : CaseRun) (name values : List ℕ) (stop : Stop) → Passes old new name values stop → stop.at ≡ next.at → next.end ≡ old.end → size part + size next < old.end - old.stop.at
    → new.end - new.stop.at < old.end - old.stop.at
passed_falls part next old new name values stop p a e f =
    let here : new.stop.at ≡ next.at = ap (λ (s : Stop). s.at) p.stop ∙ a in
    let there : new.end ≡ next.end = p.end ∙ sym e in
    let left : new.end - new.stop.at ≡ size next = ap (λ z. z - new.stop.at) there ∙ ap (λ z. next.end - z) here in
    omega (arith, left, f)

-- the parts of a run from its stop on
pub next_first : (run rest part next : Forest) (at end : ℕ) → nodes_in rest.nodes ≡ nodes_in run.nodes → rest.at ≡ at → rest.end ≡ run.end → end ≡ run.end → nodes_in next.nodes ≡ nodes_in rest.nodes
    → parts rest ≡ trees_in part ∷ parts next → parts_from (nodes_in next.nodes) end at ≡ trees_in part ∷ parts next
next_first run rest part next at end n a e f s p = sym (parts_are rest (nodes_in next.nodes) end at (sym s) (e ∙ sym f) a) ∙ p

pub table_is : (nodes : List Node) (tables : IndexMap ℕ CaseTable RandomState) (at : ℕ) (r : Option (Bor CaseTable)) → option_copied r ≡ get nat_eq tables at → AreRight nodes tables → IfSome r (λ t. IsRight nodes at t.now)
table_is nodes tables at None e h = tt
table_is nodes tables at (Some t) e h = h at t.now (sym e)

pub noted_as : (find find' : ℕ → Option Case) (y z at group : ℕ) (c : Case) → y ≡ z → c.at ≡ at → c.group ≡ group → Notes find find' y c → Notes find find' z (record { at = at; group = group })
noted_as find find' y z at group c i a g h = subst (λ w. Notes find find' w (record { at = at; group = group })) i (subst (Notes find find' y) (λ j. record { at = a j; group = g j }) h)

pub stretch_trees : (f : Forest) (nodes : List Node) (start end : ℕ) → nodes_in f.nodes ≡ nodes → f.at ≡ start → f.end ≡ end → trees_in f ≡ trees_between nodes start end
stretch_trees f nodes start end n a e = sym (trees_are f nodes n) ∙ ap (λ z. trees_between nodes z f.end) a ∙ ap (trees_between nodes start) e
