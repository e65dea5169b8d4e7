-- Code of the modules of pages, one page more at a time.
use Rattle.std.proofs.Common.{◌≡◌, ◌∙◌, refl, sym, ap, subst, ℕ, Bool, true, false, ◌&&◌, ◌||◌, ◌⊎◌, inl, inr, List, [], ◌∷◌, ◌++◌, map, length, option_map, is_some, Result, Ok, Err, Bor}
use Rattle.std.specs.Prelude.{Option, Some, None, if◌then◌else◌, OnOk}
use Rattle.std.specs.Map.{lookup}
use Rattle.std.specs.Option.{option_copied}
use Rattle.std.specs.Str.{bytes_eq}
use Rattle.std.proofs.lemmas.Slice.Eq.{bytes_eq-Decides}
use Rattle.wiki_pages.specs.WkBaseDeclaredTitleTitle.{Title}
use Rattle.wiki_pages.specs.WkBaseContractsTitleTitlePartialEqTheImpl as titles
use Rattle.lua_code.specs.WkBaseTitles.{is_module, title_text}
use Rattle.wiki_markup.proofs.WkBaseTitleLaws.{same_title}
use Rattle.lua_code.specs.LuaSlotsCode.{CModule}
use Rattle.lua_code.specs.declared.modules.Module.{Module}
use Rattle.lua_code.specs.Held.{TitledModules, find_module, code_seen, module_seen, modules_seen}
use Rattle.wiki_texts.specs.declared.raw.RawPage.{RawPage}
use Rattle.wiki_texts.specs.Pages.{is_held}
use Rattle.wiki_texts.specs.Modules.{module_text}
use Rattle.wiki_texts.specs.Code.{IsCodeOf, IsCodeOfModule, AreCodeOf, Adds}
use Rattle.wiki_texts.proofs.PageLaws.{or_kept, entry_more, held_more, other_space}

-- the first one, or else the other
abbrev or_else : {A : Type 0} → Option A → Option A → Option A
or_else (Some x) other = Some x
or_else None other = other

-- ---- one page more

text_more : (pages : List RawPage) (page : RawPage) (name : List ℕ) → module_text (pages ++ page ∷ []) name ≡ or_else (module_text pages name) (module_text (page ∷ []) name)
text_more [] page name = refl
text_more (p ∷ pages) page name = go (is_module p.title.ns && bytes_eq name (title_text p.title)) (text_more pages page name)
  where
    go : (b : Bool) → module_text (pages ++ page ∷ []) name ≡ or_else (module_text pages name) (module_text (page ∷ []) name) → (if b then Some p.bytes else module_text (pages ++ page ∷ []) name) ≡ or_else (if b then Some p.bytes else module_text pages name) (module_text (page ∷ []) name)
    go true later = refl
    go false later = later

seen_more : (held : TitledModules) (t : Title) (m : Module) (name : List ℕ) → modules_seen (held ++ (t, m) ∷ []) name ≡ or_else (modules_seen held name) (if bytes_eq name (title_text t) then Some (module_seen m) else None)
seen_more [] t m name = go (bytes_eq name (title_text t))
  where
    go : (b : Bool) → option_map module_seen (if b then Some m else None) ≡ (if b then Some (module_seen m) else None)
    go true = refl
    go false = refl
seen_more (e ∷ held) t m name = go (bytes_eq name (title_text e.0)) (seen_more held t m name)
  where
    one : Option CModule
    one = if bytes_eq name (title_text t) then Some (module_seen m) else None

    go : (b : Bool) → modules_seen (held ++ (t, m) ∷ []) name ≡ or_else (modules_seen held name) one
        → option_map module_seen (if b then Some e.1 else lookup (bytes_eq name) (map (λ x. (title_text x.0, x.1)) (held ++ (t, m) ∷ [])))
        ≡ or_else (option_map module_seen (if b then Some e.1 else lookup (bytes_eq name) (map (λ x. (title_text x.0, x.1)) held))) one
    go true later = refl
    go false later = later

-- what one page alone gives
of_module : (page : RawPage) (name : List ℕ) → is_module page.title.ns ≡ true → module_text (page ∷ []) name ≡ (if bytes_eq name (title_text page.title) then Some page.bytes else None)
of_module page name h = ap (λ (b : Bool). if b && bytes_eq name (title_text page.title) then Some page.bytes else None) h

of_no_module : (page : RawPage) (name : List ℕ) → is_module page.title.ns ≡ false → module_text (page ∷ []) name ≡ None
of_no_module page name h = ap (λ (b : Bool). if b && bytes_eq name (title_text page.title) then Some page.bytes else None) h

-- ---- code

stays : (o one : Option (List ℕ)) (c : Option CModule) → (one ≡ None) ⊎ (is_some c ≡ true) → IsCodeOfModule o c → IsCodeOfModule (or_else o one) c
stays (Some t) one c h k = k
stays None one None (inl e) k = subst (λ (o : Option (List ℕ)). IsCodeOfModule o None) (sym e) tt
stays None one None (inr e) k = absurd cc
stays None one (Some m) h k = absurd k

grows : (o : Option (List ℕ)) (c : Option CModule) (text : List ℕ) (m : CModule) (b : Bool) → IsCodeOfModule o c → (m.size ≡ length text) × IsCodeOf text m.code → IsCodeOfModule (or_else o (if b then Some text else None)) (or_else c (if b then Some m else None))
grows (Some x) (Some y) text m b h new = h
grows None None text m true h new = new
grows None None text m false h new = tt
grows (Some x) None text m b h new = absurd h
grows None (Some y) text m b h new = absurd h

code_stays : (earlier : List RawPage) (page : RawPage) (held : TitledModules) (name : List ℕ) → (module_text (page ∷ []) name ≡ None) ⊎ (is_some (modules_seen held name) ≡ true) → IsCodeOfModule (module_text earlier name) (modules_seen held name) → IsCodeOfModule (module_text (earlier ++ page ∷ []) name) (modules_seen held name)
code_stays earlier page held name why h =
    subst (λ (o : Option (List ℕ)). IsCodeOfModule o (modules_seen held name)) (sym (text_more earlier page name))
    (stays (module_text earlier name) (module_text (page ∷ []) name) (modules_seen held name) why h)

-- ---- a page that is no module

pub passed_over : (page : RawPage) (held : TitledModules) → is_module page.title.ns ≡ false → Adds page held held
passed_over page held n earlier all = record {
  code = λ name. code_stays earlier page held name (inl (of_no_module page name n)) (all.code name);
  names = λ title h. all.names title h ∙ or_kept (is_held earlier title) (titles.ghosts.eq title page.title) (λ e. absurd (other_space title page.title h n e)) ∙ sym (held_more earlier page title);
}

-- ---- one whose title is there

is_mapped : {A B : Type 0} (f : A → B) (r : Option A) → is_some (option_map f r) ≡ is_some r
is_mapped f (Some x) = refl
is_mapped f None = refl

is_copied : {A : Type 0} (r : Option (Bor A)) → is_some (option_copied r) ≡ is_some r
is_copied (Some x) = refl
is_copied None = refl

module _ (page : RawPage) (held : TitledModules) (r : Option (Bor Module)) (h : is_module page.title.ns ≡ true) (found : option_copied r ≡ find_module held page.title) (seen : is_module page.title.ns ≡ true → option_map (λ m. module_seen m.now) r ≡ modules_seen held (title_text page.title)) (some : is_some r ≡ true) where
  is_found : is_some (find_module held page.title) ≡ true
  is_found = ap is_some (sym found) ∙ is_copied r ∙ some

  is_seen : is_some (modules_seen held (title_text page.title)) ≡ true
  is_seen = ap is_some (sym (seen h)) ∙ is_mapped (λ (m : Bor Module). module_seen m.now) r ∙ some

  why : (name : List ℕ) → (module_text (page ∷ []) name ≡ None) ⊎ (is_some (modules_seen held name) ≡ true)
  why name = go (bytes_eq name (title_text page.title)) refl
    where
      go : (b : Bool) → bytes_eq name (title_text page.title) ≡ b → (module_text (page ∷ []) name ≡ None) ⊎ (is_some (modules_seen held name) ≡ true)
      go true e = inr (ap (λ (x : List ℕ). is_some (modules_seen held x)) ((bytes_eq-Decides name (title_text page.title)).0 e) ∙ is_seen)
      go false e = inl (of_module page name h ∙ ap (λ (b : Bool). if b then Some page.bytes else None) e)

  pub is_there : Adds page held held
  is_there earlier all = record {
    code = λ name. code_stays earlier page held name (why name) (all.code name);
    names = λ title k.
        or_kept (is_some (find_module held title)) (titles.ghosts.eq title page.title) (λ e. ap (λ (t : Title). is_some (find_module held t)) (same_title title page.title e) ∙ is_found)
        ∙ ap (λ (b : Bool). b || titles.ghosts.eq title page.title) (all.names title k)
        ∙ sym (held_more earlier page title);
  }

-- ---- and one that is added

added_itself : (page : RawPage) (held : TitledModules) (m : Module) → is_module page.title.ns ≡ true → m.size ≡ length page.bytes → IsCodeOf page.bytes (code_seen m.code) → Adds page held (held ++ (page.title, m) ∷ [])
added_itself page held m h size code earlier all = record {
  code = λ name.
      subst (λ (o : Option (List ℕ)). IsCodeOfModule o (modules_seen (held ++ (page.title, m) ∷ []) name)) (sym (text_more earlier page name ∙ ap (or_else (module_text earlier name)) (of_module page name h)))
      (subst (λ (c : Option CModule). IsCodeOfModule (or_else (module_text earlier name) (if bytes_eq name (title_text page.title) then Some page.bytes else None)) c) (sym (seen_more held page.title m name))
      (grows (module_text earlier name) (modules_seen held name) page.bytes (module_seen m) (bytes_eq name (title_text page.title)) (all.code name) (size, code)));
  names = λ title k.
      entry_more (titles.ghosts.eq title) held page.title m
      ∙ ap (λ (b : Bool). b || titles.ghosts.eq title page.title) (all.names title k)
      ∙ sym (held_more earlier page title);
}

pub added : (page : RawPage) (held more : TitledModules) (title : Title) (m : Module) → title ≡ page.title → more ≡ held ++ (title, m) ∷ [] → is_module page.title.ns ≡ true → m.size ≡ length page.bytes → IsCodeOf page.bytes (code_seen m.code) → Adds page held more
added page held more title m same is h size code =
    subst (Adds page held) (sym (is ∙ ap (λ (t : Title). held ++ (t, m) ∷ []) same)) (added_itself page held m h size code)

-- ---- no page at all

pub none_yet : AreCodeOf [] []
none_yet = record { code = λ name. tt; names = λ title h. refl }

-- what follows from a call that went well
pub on_ok : {T E : Type 0} (P Q : Type 0) (r : Result T E) → (P → Q) → OnOk r P → OnOk r Q
on_ok P Q (Ok x) f h = f h
on_ok P Q (Err e) f h = tt
