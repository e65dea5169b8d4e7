-- What is kept of loads: found by title, and by the names of the modules whose loads completed.
use Rattle.std.proofs.Common.{◌≡◌, ◌⊎◌, inr, ℕ, ◌∙◌, Bool, true, false, List, [], ◌∷◌, ◌++◌, Option, Some, None, refl, sym, ap, subst, ◌+◌, ◌-◌, ◌<◌}
use Rattle.std.specs.Prelude.{◌<◌, ◌||◌, bytes_eq, cond, is_some, option_map}
use Rattle.std.specs.List.{AllByRecursion}
use Rattle.std.proofs.lemmas.Slice.Eq.{bytes_eq-Decides}
use Rattle.wk_base.specs.declared.title.Namespace.{Namespace}
use Rattle.wk_base.specs.declared.title.Namespace.TheVariants.{Module as ModuleNs}
use Rattle.wk_base.specs.declared.title.Title.{Title}
use Rattle.wk_base.specs.contracts.title.TitlePartialEq.TheImpl as titles
use Rattle.wk_base.specs.Titles.{is_module, title_text, prefix_of}
use Rattle.page_run.specs.Walk.{WalkState, is_in}
use Rattle.lua_code.specs.LuaMeaningWorld.{Modules}
use Rattle.page_ground.specs.declared.keep.Kept.{Kept}
use Rattle.wk_base.specs.declared.left.Left.{Left}
use Rattle.lua_code.specs.Held.{TitledModules, modules_seen}
use Rattle.page_ground.specs.Ground.{Ground, TellsHeld}
use Rattle.page_ground.specs.Kept.{kept_for, kept_beside, keep_with, EntryOf, KeepOf, IsShort, IsEntry, Keeps}
use Rattle.std.specs.Borrow.{Bor}
use Rattle.std.specs.Option.{option_copied}

-- TITLES OF MODULES are equal where their names are, and where their texts are
is_of_modules : (ns : Namespace) → is_module ns ≡ true → ns ≡ ModuleNs
is_of_modules ModuleNs h = refl
is_of_modules _ h = cc

abbrev named : List ℕ → Title
named name = record { ns = ModuleNs; name = name }

is_named : (t : Title) → is_module t.ns ≡ true → t ≡ named t.name
is_named t h = ap (λ ns. record t { ns = ns }) (is_of_modules t.ns h)

text_names : (a b : List ℕ) → bytes_eq (title_text (named a)) (title_text (named b)) ≡ bytes_eq a b
unfolding title_text prefix_of
text_names a b = refl

title_names : (a b : List ℕ) → titles.ghosts.eq (named a) (named b) ≡ bytes_eq a b
title_names a b = refl

same_texts : (a b : Title) → is_module a.ns ≡ true → is_module b.ns ≡ true → bytes_eq (title_text a) (title_text b) ≡ titles.ghosts.eq a b
same_texts a b h k =
    subst (λ (t : Title). bytes_eq (title_text t) (title_text b) ≡ titles.ghosts.eq t b) (sym (is_named a h))
    (subst (λ (t : Title). bytes_eq (title_text (named a.name)) (title_text t) ≡ titles.ghosts.eq (named a.name) t) (sym (is_named b k)) (text_names a.name b.name ∙ sym (title_names a.name b.name)))

same_title : (a b : Title) → is_module a.ns ≡ true → is_module b.ns ≡ true → titles.ghosts.eq a b ≡ true → a ≡ b
same_title a b h k e =
    let i : titles.ghosts.eq (named a.name) (named b.name) ≡ true = subst (λ (t : Title). titles.ghosts.eq t (named b.name) ≡ true) (is_named a h) (subst (λ (t : Title). titles.ghosts.eq a t ≡ true) (is_named b k) e) in
    is_named a h ∙ ap named ((bytes_eq-Decides a.name b.name).0 (sym (title_names a.name b.name) ∙ i)) ∙ sym (is_named b k)

-- WHAT IS FOUND
found_one : (b : Bool) (x : Kept) → is_some (cond b (Some x) None) ≡ (b || false)
found_one true x = refl
found_one false x = refl

found_more : (b c : Bool) (x : Kept) (o o' : Option Kept) → is_some o' ≡ (c || is_some o) → is_some (cond b (Some x) o') ≡ (c || is_some (cond b (Some x) o))
found_more true true x o o' e = refl
found_more true false x o o' e = refl
found_more false c x o o' e = e

found_behind : (keep : List (Title × Kept)) (t title : Title) (kept : Kept) → is_some (kept_for (keep ++ (title, kept) ∷ []) t) ≡ (titles.ghosts.eq t title || is_some (kept_for keep t))
found_behind [] t title kept = found_one (titles.ghosts.eq t title) kept
found_behind (e ∷ es) t title kept = found_more (titles.ghosts.eq t e.0) (titles.ghosts.eq t title) e.1 (kept_for es t) (kept_for (es ++ (title, kept) ∷ []) t) (found_behind es t title kept)

-- an entry that is found is that of the title
entry_by : (P : Title × Kept → Type 0) (x : Title × Kept) (rest : Option Kept) (title : Title) (e : Kept) → is_module title.ns ≡ true → is_module x.0.ns ≡ true → P x → (rest ≡ Some e → P (title, e)) → cond (titles.ghosts.eq title x.0) (Some x.1) rest ≡ Some e → (b : Bool) → titles.ghosts.eq title x.0 ≡ b → P (title, e)
entry_by P x rest title e m n here there i true h =
    let same : x.0 ≡ title = sym (same_title title x.0 m n h) in
    let it : Some x.1 ≡ Some e = ap (λ b. cond b (Some x.1) rest) (sym h) ∙ i in
    let item : x.1 ≡ e = cc in
    subst (λ (t : Title). P (t, e)) same (subst (λ k. P (x.0, k)) item here)
entry_by P x rest title e m n here there i false h = there (ap (λ b. cond b (Some x.1) rest) (sym h) ∙ i)

found_entry : (P : Title × Kept → Type 0) (keep : List (Title × Kept)) (title : Title) (e : Kept) → is_module title.ns ≡ true → KeepOf keep → AllByRecursion P keep → kept_for keep title ≡ Some e → P (title, e)
found_entry P [] title e m of all i = absurd cc
found_entry P (x ∷ xs) title e m of all i = entry_by P x (kept_for xs title) title e m of.0.0 all.0 (found_entry P xs title e m of.1 all.1) i (titles.ghosts.eq title x.0) refl

pub entry_data : (keep : List (Title × Kept)) (title : Title) (e : Kept) → is_module title.ns ≡ true → KeepOf keep → kept_for keep title ≡ Some e → EntryOf (title, e)
entry_data keep title e m of i = found_entry EntryOf keep title e m of of i

pub entry_is : (g : Ground) (modules : Modules) (keep : List (Title × Kept)) (now : WalkState) (title : Title) (e : Kept) → is_module title.ns ≡ true → KeepOf keep → Keeps g modules keep now → kept_for keep title ≡ Some e → IsEntry g modules (title, e)
entry_is g modules keep now title e m of k i = found_entry (IsEntry g modules) keep title e m of k.all i

-- ONE MORE
all_push : (P : Title × Kept → Type 0) (keep : List (Title × Kept)) (x : Title × Kept) → AllByRecursion P keep → P x → AllByRecursion P (keep ++ x ∷ [])
all_push P [] x all h = (h, tt)
all_push P (y ∷ ys) x all h = (all.0, all_push P ys x all.1 h)

all_beside : (P : Title × Kept → Type 0) (o : Option Kept) (keep : List (Title × Kept)) (title : Title) (kept : Kept) → AllByRecursion P keep → P (title, kept) → AllByRecursion P (kept_beside o keep title kept)
all_beside P (Some e) keep title kept all h = all
all_beside P None keep title kept all h = all_push P keep (title, kept) all h

pub keep_with_of : (keep : List (Title × Kept)) (title : Title) (kept : Kept) → KeepOf keep → EntryOf (title, kept) → KeepOf (keep_with keep title kept)
keep_with_of keep title kept all h = all_beside EntryOf (kept_for keep title) keep title kept all h

or_there : (b c : Bool) → (b ≡ true → c ≡ true) → (b || c) ≡ c
or_there true c h = sym (h refl)
or_there false c h = refl

pub keeps_with : (g : Ground) (modules : Modules) (keep : List (Title × Kept)) (title : Title) (kept : Kept) (now next : WalkState) → is_module title.ns ≡ true → IsEntry g modules (title, kept) → next.completed_modules ≡ title_text title ∷ now.completed_modules → Keeps g modules keep now → Keeps g modules (keep_with keep title kept) next
keeps_with g modules keep title kept now next m h e k = record {
  all = all_beside (IsEntry g modules) (kept_for keep title) keep title kept k.all h;
  names = λ t i. ap (is_in (title_text t)) e ∙ names (kept_for keep title) refl t i;
}
  where
    names : (o : Option Kept) → kept_for keep title ≡ o → (t : Title) → is_module t.ns ≡ true → (bytes_eq (title_text t) (title_text title) || is_in (title_text t) now.completed_modules) ≡ is_some (kept_for (kept_beside o keep title kept) t)
    names None i t n = ap (λ b. b || is_in (title_text t) now.completed_modules) (same_texts t title n m) ∙ ap (λ b. titles.ghosts.eq t title || b) (k.names t n) ∙ sym (found_behind keep t title kept)
    names (Some x) i t n =
        or_there (bytes_eq (title_text t) (title_text title)) (is_in (title_text t) now.completed_modules)
        (λ b. ap (λ text. is_in text now.completed_modules) ((bytes_eq-Decides (title_text t) (title_text title)).0 b) ∙ k.names title m ∙ ap is_some i)
        ∙ k.names t n

-- WHETHER A MODULE IS HELD
nothing_is : {A : Type 0} (o : Option A) → false ≡ is_some o → o ≡ None
nothing_is None e = refl
nothing_is (Some a) e = absurd cc

pub tells_held : (held : TitledModules) (title : Title) (b : Bool) → b ≡ is_some (modules_seen held (title_text title)) → is_module title.ns ≡ true → TellsHeld held title b
tells_held held title true e m = (sym e, m)
tells_held held title false e m = inr (nothing_is (modules_seen held (title_text title)) e)

-- what is found covers, or is short
pub finds_none : (keep : List (Title × Kept)) (title : Title) (left : Left) → kept_for keep title ≡ None → IsShort (kept_for keep title) left
finds_none keep title left e = subst (λ o. IsShort o left) (sym e) tt

pub finds_short : (keep : List (Title × Kept)) (title : Title) (left : Left) (x : Kept) → kept_for keep title ≡ Some x → (left.steps < x.charge) ⊎ (left.calls < x.height) → IsShort (kept_for keep title) left
finds_short keep title left x e short = subst (λ o. IsShort o left) (sym e) short

-- what is kept of a module stays, and what is new comes behind the others
pub kept_stays : (keep : List (Title × Kept)) (title : Title) (kept : Kept) (o : Option Kept) → kept_for keep title ≡ o → is_some o ≡ true → keep ≡ keep_with keep title kept
kept_stays keep title kept None e h = absurd cc
kept_stays keep title kept (Some x) e h = sym (ap (λ o. kept_beside o keep title kept) e)

pub kept_behind : (keep : List (Title × Kept)) (title : Title) (kept : Kept) → kept_for keep title ≡ None → keep ++ (title, kept) ∷ [] ≡ keep_with keep title kept
kept_behind keep title kept e = sym (ap (λ o. kept_beside o keep title kept) e)

-- WHAT IS FOUND in maps
pub held_seen : {A B : Type 0} (f : Bor A → B) (o : Option (Bor A)) (seen : Option B) → option_map f o ≡ seen → is_some o ≡ is_some seen
held_seen f None seen e = ap is_some e
held_seen f (Some b) seen e = ap is_some e

pub nothing_found : {A : Type 0} (o : Option (Bor A)) (found : Option A) → option_copied o ≡ found → o ≡ None → found ≡ None
nothing_found o found e none = sym e ∙ ap option_copied none

pub kept_found : {A : Type 0} (o : Option (Bor A)) (found : Option A) (b : Bor A) → option_copied o ≡ found → o ≡ Some b → found ≡ Some b.now
kept_found o found b e some = sym e ∙ ap option_copied some

pub copied_some : {A : Type 0} (o : Option (Bor A)) (found : Option A) → option_copied o ≡ found → is_some o ≡ true → is_some found ≡ true
copied_some None found e h = absurd cc
copied_some (Some b) found e h = ap is_some (sym e)

pub copied_none : {A : Type 0} (o : Option (Bor A)) (found : Option A) → option_copied o ≡ found → is_some o ≡ false → found ≡ None
copied_none None found e h = sym e
copied_none (Some b) found e h = absurd cc
