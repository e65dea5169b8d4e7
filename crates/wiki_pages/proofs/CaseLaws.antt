-- A table stays right where one more part is passed.
use Rattle.std.proofs.Common.{◌≡◌, ℕ, zero, suc, ◌+◌, ◌-◌, ◌<◌, ◌≤◌, Bool, true, false, cond, ◌||◌, nat_eq, List, [], ◌∷◌, ◌++◌, length, slice_get, Option, Some, None, ◌⊎◌, inl, inr, refl, sym, ap, subst, ◌∙◌, true≢false, arith}
use Rattle.std.proofs.lemmas.Bool.{eq-eqb, cases_lt}
use Rattle.std.proofs.lemmas.List.{length-append}
use Rattle.std.proofs.lemmas.Option.{slice_get_past}
use Rattle.wiki_markup.specs.WkBaseSpace.{trim}
use Rattle.wiki_markup.specs.Nodes.{Node}
use Rattle.wiki_markup.specs.Trees.{Trees}
use Rattle.expand_texts.specs.ExpandMeaningTexts.{are_equal}
use Rattle.expand_texts.specs.ExpandMeaningPlaces.{first_in, no_part, value_in}
use Rattle.expand_texts.specs.ExpandMeaningExpand.{Looking, is_default, switch}
use Rattle.wiki_pages.specs.Stretches.{trees_between, parts_from}
use Rattle.wiki_pages.specs.CaseTables.{constant_name, equals_name, Same, met_before, default_in, size_in, stopped, Reaches, Right, noted, Notes}
use Rattle.wiki_pages.specs.declared.cases.Case.{Case}
use Rattle.wiki_pages.specs.declared.cases.Stretch.{Stretch}
use Rattle.wiki_pages.specs.declared.cases.Stop.{Stop}
use Rattle.wiki_pages.proofs.SwitchLaws.{valueless_turn, valued_turn, valued_here, valued_met}

-- ---- what is found once a case is noted

nothing_noted : (o : Option Case) (b : Bool) (c : Case) → noted o b c ≡ None → (o ≡ None) × (b ≡ false)
nothing_noted (Some there) b c e = absurd cc
nothing_noted None true c e = absurd cc
nothing_noted None false c e = (refl, refl)

something_noted : (o : Option Case) (b : Bool) (c d : Case) → noted o b c ≡ Some d → (o ≡ Some d) ⊎ ((o ≡ None) × (d ≡ c))
something_noted (Some there) b c d e = inl e
something_noted None true c d e = inr (refl, cc)
something_noted None false c d e = absurd cc

abbrev pub Alike : (List ℕ → ℕ) → Type 0
Alike hash = (x y : List ℕ) → are_equal x y ≡ true → hash x ≡ hash y

unequal_by : (hash : List ℕ → ℕ) (x y : List ℕ) (b : Bool) → Alike hash → nat_eq (hash y) (hash x) ≡ false → are_equal x y ≡ b → b ≡ false
unequal_by hash x y true alike differ e = let same : nat_eq (hash y) (hash x) ≡ true = eq-eqb (hash y) (hash x) (sym (alike x y e)) in absurd (true≢false (sym same ∙ differ))
unequal_by hash x y false alike differ e = refl

unequal : (hash : List ℕ → ℕ) (x y : List ℕ) → Alike hash → nat_eq (hash y) (hash x) ≡ false → are_equal x y ≡ false
unequal hash x y alike differ = unequal_by hash x y (are_equal x y) alike differ refl

on : (x : List ℕ) (ps qs rs : List Trees) (s t u : Looking) → Same x ps s qs t → Same x qs t rs u → Same x ps s rs u
on x ps qs rs s t u a b = λ sc k. a sc k ∙ b sc k

-- ---- the values

value_before : (values : List ℕ) (at group : ℕ) → group < length values → slice_get (values ++ at ∷ []) group ≡ slice_get values group
value_before [] at group l = absurd (omega (arith, l))
value_before (v ∷ values) at zero l = refl
value_before (v ∷ values) at (suc group) l = value_before values at group (omega (arith, l))

value_last : (values : List ℕ) (at : ℕ) → slice_get (values ++ at ∷ []) (length values) ≡ Some at
value_last [] at = refl
value_last (v ∷ values) at = value_last values at

value_falls : (values : List ℕ) (at : ℕ) (P : ℕ → Type 0) → P at → ((group value : ℕ) → slice_get values group ≡ Some value → P value) → (group value : ℕ) → slice_get (values ++ at ∷ []) group ≡ Some value → P value
value_falls [] at P p f zero value e = let h : at ≡ value = cc in subst P h p
value_falls [] at P p f (suc group) value e = absurd cc
value_falls (v ∷ values) at P p f zero value e = f zero value e
value_falls (v ∷ values) at P p f (suc group) value e = value_falls values at P p (λ g w. f (suc g) w) group value e

module _ (hash : List ℕ → ℕ) (nodes : List Node) (end at next : ℕ) (find find' : ℕ → Option Case) (values : List ℕ) (stop : Stop) (part : Trees) (n : List ℕ)
    (right : Right hash nodes end at find values stop) (alike : Alike hash)
    (notes : Notes find find' (hash (trim n)) (record { at = stop.at; group = length values }))
    (first : parts_from nodes end stop.at ≡ part ∷ parts_from nodes end next) (named : constant_name part ≡ Some n) where
  -- what isn't found was not found before, and isn't the name
  missed : (x : List ℕ) → find' (hash x) ≡ None → (find (hash x) ≡ None) × (are_equal x (trim n) ≡ false)
  missed x e =
      let m = nothing_noted (find (hash x)) (nat_eq (hash (trim n)) (hash x)) (record { at = stop.at; group = length values }) (sym (notes (hash x)) ∙ e) in
      (m.0, unequal hash x (trim n) alike m.1)

  -- the name that is noted is that of the part
  equals_here : (x : List ℕ) (c : Case) → c ≡ record { at = stop.at; group = length values } → equals_name x (constant_name (first_in (parts_from nodes end c.at))) ≡ true → are_equal x (trim n) ≡ true
  equals_here x c is e =
      sym (ap (λ (d : Case). equals_name x (constant_name (first_in (parts_from nodes end d.at)))) is
      ∙ ap (λ ps. equals_name x (constant_name (first_in ps))) first
      ∙ ap (equals_name x) named) ∙ e

  -- ---- a valueless part

  abbrev behind_valueless : Stop
  behind_valueless = record { at = next; waits = stop.waits || is_default (trim n); default = stop.default }

  module _ (valueless : value_in part ≡ None) (more : no_part (parts_from nodes end next) ≡ false) where
    goes_valueless : (x : List ℕ) (d : Trees) (met : Bool) → Same x (parts_from nodes end stop.at) (stopped nodes stop met d) (parts_from nodes end next) (stopped nodes behind_valueless (met || are_equal x (trim n)) d)
    goes_valueless x d met = λ sc k.
        ap (λ ps. switch x ps sc (stopped nodes stop met d) k) first
        ∙ valueless_turn x n part (parts_from nodes end next) sc (stopped nodes stop met d) k valueless named more

    unmet : (x : List ℕ) (d : Trees) → are_equal x (trim n) ≡ false → Same x (parts_from nodes end stop.at) (stopped nodes stop false d) (parts_from nodes end next) (stopped nodes behind_valueless false d)
    unmet x d e = λ sc k. goes_valueless x d false sc k ∙ ap (λ b. switch x (parts_from nodes end next) sc (stopped nodes behind_valueless b d) k) e

    meets : (x : List ℕ) (d : Trees) → are_equal x (trim n) ≡ true → Same x (parts_from nodes end stop.at) (stopped nodes stop false d) (parts_from nodes end next) (stopped nodes behind_valueless true d)
    meets x d e = λ sc k. goes_valueless x d false sc k ∙ ap (λ b. switch x (parts_from nodes end next) sc (stopped nodes behind_valueless b d) k) e

    still_reaches : (x : List ℕ) (d : Trees) (o : Option ℕ) → Reaches x nodes end at stop d o → Reaches x nodes end at behind_valueless d o
    still_reaches x d (Some value) h = h
    still_reaches x d None h = λ sc k. h sc k ∙ goes_valueless x d true sc k

    hits_valueless : (x : List ℕ) (d : Trees) (c : Case) → (find (hash x) ≡ Some c) ⊎ ((find (hash x) ≡ None) × (c ≡ record { at = stop.at; group = length values }))
        → equals_name x (constant_name (first_in (parts_from nodes end c.at))) ≡ true → Reaches x nodes end at behind_valueless d (slice_get values c.group)
    hits_valueless x d c (inl there) e = still_reaches x d (slice_get values c.group) (right.hit x d c there e)
    hits_valueless x d c (inr new) e =
        subst (Reaches x nodes end at behind_valueless d) (sym (ap (λ (f : Case). slice_get values f.group) new.1 ∙ slice_get_past values (length values) (omega arith)))
        (λ sc k. right.miss x d new.0 sc k ∙ meets x d (equals_here x c new.1 e) sc k)

    within_valueless : (y : ℕ) (c : Case) → (find y ≡ Some c) ⊎ ((find y ≡ None) × (c ≡ record { at = stop.at; group = length values })) → c.group ≤ length values
    within_valueless y c (inl there) = right.within y c there
    within_valueless y c (inr new) = let g : c.group ≡ length values = ap (λ (f : Case). f.group) new.1 in omega (arith, g)

    pub valueless_right : end - next ≤ end - stop.at → Right hash nodes end at find' values behind_valueless
    valueless_right light = record {
      miss = λ x d e. let m = missed x e in λ sc k. right.miss x d m.0 sc k ∙ unmet x d m.1 sc k;
      hit = λ x d c e h. hits_valueless x d c (something_noted (find (hash x)) (nat_eq (hash (trim n)) (hash x)) (record { at = stop.at; group = length values }) c (sym (notes (hash x)) ∙ e)) h;
      within = λ y c e. within_valueless y c (something_noted (find y) (nat_eq (hash (trim n)) y) (record { at = stop.at; group = length values }) c (sym (notes y) ∙ e));
      light = omega (arith, light, right.light);
      falls = right.falls;
    }

  -- ---- a valued part

  module _ (value : Trees) (s : Stretch) (valued : value_in part ≡ Some value) (stands : trees_between nodes s.start s.end ≡ value) where
    abbrev behind_valued : Stop
    behind_valued = record { at = next; waits = false; default = cond (stop.waits || is_default (trim n)) (Some s) stop.default }

    default_by : (b : Bool) (d : Trees) → cond b value (default_in nodes stop.default d) ≡ default_in nodes (cond b (Some s) stop.default) d
    default_by true d = sym stands
    default_by false d = refl

    passes : (x : List ℕ) (d : Trees) → are_equal x (trim n) ≡ false → Same x (parts_from nodes end stop.at) (stopped nodes stop false d) (parts_from nodes end next) (stopped nodes behind_valued false d)
    passes x d e = λ sc k.
        ap (λ ps. switch x ps sc (stopped nodes stop false d) k) first
        ∙ valued_turn x n part value (parts_from nodes end next) sc (stopped nodes stop false d) k valued named refl e
        ∙ ap (λ t. switch x (parts_from nodes end next) sc (record { met = false; waits = false; default = t }) k) (default_by (stop.waits || is_default (trim n)) d)

    -- behind an equal part it gives the value, whatever is known besides
    gives_met : (x : List ℕ) (s t : Looking) → s.met ≡ true → t.met ≡ true → Same x (parts_from nodes end stop.at) s (parts_from nodes end stop.at) t
    gives_met x s t i j = λ sc k.
        ap (λ ps. switch x ps sc s k) first ∙ valued_met x part value (parts_from nodes end next) sc s k valued i
        ∙ sym (ap (λ ps. switch x ps sc t k) first ∙ valued_met x part value (parts_from nodes end next) sc t k valued j)

    gives_here : (x : List ℕ) (d : Trees) → are_equal x (trim n) ≡ true → Same x (parts_from nodes end stop.at) (stopped nodes stop false d) (parts_from nodes end stop.at) (met_before d)
    gives_here x d e = λ sc k.
        ap (λ ps. switch x ps sc (stopped nodes stop false d) k) first ∙ valued_here x n part value (parts_from nodes end next) sc (stopped nodes stop false d) k valued named refl e
        ∙ sym (ap (λ ps. switch x ps sc (met_before d) k) first ∙ valued_met x part value (parts_from nodes end next) sc (met_before d) k valued refl)

    -- a case of an earlier group, or of the one that ends here
    reaches_value : (x : List ℕ) (d : Trees) (o : Option ℕ) → o ≡ None → Reaches x nodes end at stop d o → Reaches x nodes end at behind_valued d (Some stop.at)
    reaches_value x d (Some v) e h = absurd cc
    reaches_value x d None e h = λ sc k. h sc k ∙ gives_met x (stopped nodes stop true d) (met_before d) refl refl sc k

    reaches_other : (x : List ℕ) (d : Trees) (o : Option ℕ) (group : ℕ) → o ≡ slice_get values group → group < length values → Reaches x nodes end at stop d o → Reaches x nodes end at behind_valued d o
    reaches_other x d (Some v) group e l h = h
    reaches_other x d None group e l h = absurd (never values group l e)
      where
        never : (vs : List ℕ) (g : ℕ) → g < length vs → None ≡ slice_get vs g → ⊥
        never [] g l e = omega (arith, l)
        never (v ∷ vs) zero l e = absurd cc
        never (v ∷ vs) (suc g) l e = never vs g (omega (arith, l)) e

    hits_group : (x : List ℕ) (d : Trees) (group : ℕ) → Reaches x nodes end at stop d (slice_get values group) → (group < length values) ⊎ (length values ≤ group) → group ≤ length values → Reaches x nodes end at behind_valued d (slice_get (values ++ stop.at ∷ []) group)
    hits_group x d group h (inl l) w = subst (Reaches x nodes end at behind_valued d) (sym (value_before values stop.at group l)) (reaches_other x d (slice_get values group) group refl l h)
    hits_group x d group h (inr l) w =
        let g : group ≡ length values = omega (arith, l, w) in
        subst (Reaches x nodes end at behind_valued d) (sym (ap (slice_get (values ++ stop.at ∷ [])) g ∙ value_last values stop.at))
        (reaches_value x d (slice_get values group) (slice_get_past values group l) h)

    hits_valued : (x : List ℕ) (d : Trees) (c : Case) → (find (hash x) ≡ Some c) ⊎ ((find (hash x) ≡ None) × (c ≡ record { at = stop.at; group = length values }))
        → equals_name x (constant_name (first_in (parts_from nodes end c.at))) ≡ true → Reaches x nodes end at behind_valued d (slice_get (values ++ stop.at ∷ []) c.group)
    hits_valued x d c (inl there) e = hits_group x d c.group (right.hit x d c there e) (cases_lt c.group (length values)) (right.within (hash x) c there)
    hits_valued x d c (inr new) e =
        subst (Reaches x nodes end at behind_valued d) (sym (ap (λ (f : Case). slice_get (values ++ stop.at ∷ []) f.group) new.1 ∙ value_last values stop.at))
        (λ sc k. right.miss x d new.0 sc k ∙ gives_here x d (equals_here x c new.1 e) sc k)

    longer : length (values ++ stop.at ∷ []) ≡ length values + 1
    longer = length-append values (stop.at ∷ [])

    within_valued : (y : ℕ) (c : Case) → (find y ≡ Some c) ⊎ ((find y ≡ None) × (c ≡ record { at = stop.at; group = length values })) → c.group ≤ length (values ++ stop.at ∷ [])
    within_valued y c (inl there) = let w = right.within y c there in omega (arith, w, longer)
    within_valued y c (inr new) = let g : c.group ≡ length values = ap (λ (f : Case). f.group) new.1 in omega (arith, g, longer)

    light_by : (b : Bool) → (end - next) + (s.end - s.start) ≤ end - stop.at → (end - next) + size_in (cond b (Some s) stop.default) ≤ end - at
    light_by true h = omega (arith, h, right.light)
    light_by false h = omega (arith, h, right.light)

    pub valued_right : (end - next) + (s.end - s.start) ≤ end - stop.at → Right hash nodes end at find' (values ++ stop.at ∷ []) behind_valued
    valued_right light = record {
      miss = λ x d e. let m = missed x e in λ sc k. right.miss x d m.0 sc k ∙ passes x d m.1 sc k;
      hit = λ x d c e h. hits_valued x d c (something_noted (find (hash x)) (nat_eq (hash (trim n)) (hash x)) (record { at = stop.at; group = length values }) c (sym (notes (hash x)) ∙ e)) h;
      within = λ y c e. within_valued y c (something_noted (find y) (nat_eq (hash (trim n)) y) (record { at = stop.at; group = length values }) c (sym (notes y) ∙ e));
      light = light_by (stop.waits || is_default (trim n)) light;
      falls = value_falls values stop.at (λ v. end - v ≤ end - at) (omega (arith, right.light)) right.falls;
    }
