-- Modules are found by the texts of their titles as they are by these.
use Rattle.std.proofs.Common.{◌≡◌, ◌∙◌, ℕ, Bool, true, false, refl, sym, ap, subst, List, [], ◌∷◌, ◌++◌, map, take, drop, Option, Some, None, option_map, cond, bytes_eq, Bor, codes, true≢false}
use Rattle.std.proofs.lemmas.List.{take-append-drop}
use Rattle.std.proofs.lemmas.Slice.Eq.{bytes_eq-Decides}
use Rattle.std.specs.Option.{option_copied}
use Rattle.std.specs.Map.{lookup}
use Rattle.lua_syntax.specs.WkBaseDeclaredTitleNamespace.{Namespace}
use Rattle.lua_slots.specs.WkBaseDeclaredTitleNamespaceTheVariants.{Module as ModuleNs}
use Rattle.lua_syntax.specs.WkBaseDeclaredTitleTitle.{Title}
use Rattle.lua_syntax.specs.WkBaseContractsTitleTitlePartialEqTheImpl as titles
use Rattle.lua_syntax.specs.WkBaseTitles.{is_module, title_text, prefix_of}
use Rattle.lua_code.specs.declared.modules.Module.{Module}
use Rattle.lua_code.specs.Held.{TitledModules, find_module, module_seen, modules_seen, AreModules}

is_of_modules : (ns : Namespace) → is_module ns ≡ true → ns ≡ ModuleNs
is_of_modules ModuleNs h = refl
is_of_modules _ h = cc

-- the title of a module, with its namespace written out
abbrev pub named : List ℕ → Title
named name = record { ns = ModuleNs; name = name }

is_named : (t : Title) → is_module t.ns ≡ true → t ≡ named t.name
is_named t h = ap (λ ns. record t { ns = ns }) (is_of_modules t.ns h)

same_names : (a b : List ℕ) → bytes_eq (title_text (named a)) (title_text (named b)) ≡ titles.ghosts.eq (named a) (named b)
unfolding title_text prefix_of
same_names a b = refl

same_titles : (a b : Title) → is_module a.ns ≡ true → is_module b.ns ≡ true → bytes_eq (title_text a) (title_text b) ≡ titles.ghosts.eq a b
same_titles a b h k =
    subst (λ (t : Title). bytes_eq (title_text t) (title_text b) ≡ titles.ghosts.eq t b) (sym (is_named a h))
    (subst (λ (t : Title). bytes_eq (title_text (named a.name)) (title_text t) ≡ titles.ghosts.eq (named a.name) t) (sym (is_named b k)) (same_names a.name b.name))

found : (held : TitledModules) (t : Title) → AreModules held → is_module t.ns ≡ true → lookup (bytes_eq (title_text t)) (map (λ e. (title_text e.0, e.1)) held) ≡ find_module held t
found [] t all h = refl
found (e ∷ es) t all h =
    ap (λ b. cond b (Some e.1) (lookup (bytes_eq (title_text t)) (map (λ e. (title_text e.0, e.1)) es))) (same_titles t e.0 h all.0)
    ∙ ap (λ o. cond (titles.ghosts.eq t e.0) (Some e.1) o) (found es t all.1 h)

copied : (m : Option (Bor Module)) → option_map (λ x. module_seen x.now) m ≡ option_map module_seen (option_copied m)
copied None = refl
copied (Some x) = refl

pub seen : (held : TitledModules) (t : Title) (m : Option (Bor Module)) → option_copied m ≡ find_module held t → AreModules held → is_module t.ns ≡ true → option_map (λ x. module_seen x.now) m ≡ modules_seen held (title_text t)
seen held t m e all h = copied m ∙ ap (option_map module_seen) (e ∙ sym (found held t all h))

more : (held : TitledModules) (t : Title) (m : Module) → AreModules held → is_module t.ns ≡ true → AreModules (held ++ (t, m) ∷ [])
more [] t m all h = (h, tt)
more (e ∷ es) t m all h = (all.0, more es t m all.1 h)

pub added : (held new : TitledModules) (t : Title) (m : Module) → new ≡ held ++ (t, m) ∷ [] → AreModules held → is_module t.ns ≡ true → AreModules new
added held new t m e all h = subst AreModules (sym e) (more held t m all h)

-- BY A TEXT: one that begins as no title of a module is of none
begins_named : (n : List ℕ) → bytes_eq (take 7 (title_text (named n))) (codes "Module:") ≡ true
unfolding title_text prefix_of
begins_named n = refl

begins_so : (text : List ℕ) (t : Title) → is_module t.ns ≡ true → text ≡ title_text t → bytes_eq (take 7 text) (codes "Module:") ≡ true
begins_so text t h e = ap (λ x. bytes_eq (take 7 x) (codes "Module:")) (e ∙ ap title_text (is_named t h)) ∙ begins_named t.name

lacked : (held : TitledModules) (text : List ℕ) → AreModules held → bytes_eq (take 7 text) (codes "Module:") ≡ false → lookup (bytes_eq text) (map (λ e. (title_text e.0, e.1)) held) ≡ None
lacked [] text all h = refl
lacked (e ∷ es) text all h = by (bytes_eq text (title_text e.0)) refl (lacked es text all.1 h)
  where
    by : (b : Bool) → bytes_eq text (title_text e.0) ≡ b → lookup (bytes_eq text) (map (λ e. (title_text e.0, e.1)) es) ≡ None → cond b (Some e.1) (lookup (bytes_eq text) (map (λ e. (title_text e.0, e.1)) es)) ≡ None
    by true p later = absurd (true≢false (sym (begins_so text e.0 all.0 ((bytes_eq-Decides text (title_text e.0)).0 p)) ∙ h))
    by false p later = later

pub lacking : (held : TitledModules) (text : List ℕ) → AreModules held → bytes_eq (take 7 text) (codes "Module:") ≡ false → None ≡ modules_seen held text
lacking held text all h = sym (ap (option_map module_seen) (lacked held text all h))

-- and one that begins so is the text of a title of a module
text_named : (n : List ℕ) → codes "Module:" ++ n ≡ title_text (named n)
unfolding title_text prefix_of
text_named n = refl

pub text_of : (text : List ℕ) → bytes_eq (take 7 text) (codes "Module:") ≡ true → title_text (named (drop 7 text)) ≡ text
text_of text h = sym (text_named (drop 7 text)) ∙ ap (λ x. x ++ drop 7 text) (sym ((bytes_eq-Decides (take 7 text) (codes "Module:")).0 h)) ∙ take-append-drop 7 text
