-- A NOTE IS ALLOWED where the module of its source names it; and what the text of a module names that is reached is in the answer.
use Rattle.std.proofs.Common.{◌≡◌, ◌∙◌, ◌⊎◌, inl, inr, ℕ, zero, suc, List, [], ◌∷◌, map, drop, Option, Some, None, refl, sym, ap, subst}
use Rattle.std.specs.Prelude.{Result, Ok, Err, slice_get}
use Rattle.std.specs.BTreeSet.{insert_key}
use Rattle.std.specs.Ordering.{is_eq, match_ordering}
use Rattle.std.proofs.lemmas.Slice.Eq.{bytes_eq-Decides}
use Rattle.std.specs.declared.cmp.Ordering.{Ordering}
use Rattle.std.specs.declared.cmp.Ordering.TheVariants.{Less, Equal, Greater}
use Rattle.std.specs.Cmp.Lexicographic.{texts_ties}
use Rattle.wk_base.specs.declared.title.Title.{Title}
use Rattle.wk_base.specs.declared.title.Namespace.{Namespace}
use Rattle.wk_base.specs.declared.title.Namespace.TheVariants.{Module as InModules}
use Rattle.wk_base.specs.Titles.{title_text, prefix_of}
use Rattle.lua_meaning.specs.LuaSyntaxDeclaredFaultFaultAt.{FaultAt}
use Rattle.lua_meaning.specs.LuaSyntaxTree.{Block}
use Rattle.lua_meaning.specs.World.{Module, World}
use Rattle.lua_uses.specs.Uses.{Use, text_uses}
use Rattle.lua_uses.specs.Modules.{Named, Read, Unknown, Names, by_bytes, read_at, reached, reads, uses_of, uses_at, first_hidden, with_uses, names_from, answer, uses}
use Rattle.lua_lint_laws.specs.Laws.{IsIn, HasNoOther, NoneIsMissed}
use Rattle.lua_lint_laws.proofs.Told.{Allowed}
use Rattle.lua_lint_laws.proofs.Modules.{IfChunk, IfModule, IsAllowedWorld}
use Rattle.lua_lint_laws.proofs.Runs.{notes_allowed}

-- ---- NAMES that are gathered
-- a use of this name is among them
abbrev IsUsed : List Use → List ℕ → Type 0
IsUsed [] name = ⊥
IsUsed (u ∷ us) name = (u.name ≡ name) ⊎ IsUsed us name

same_bytes : (a b : List ℕ) → by_bytes a b ≡ Equal → a ≡ b
same_bytes a b e = (bytes_eq-Decides a b).0 (texts_ties a b ∙ ap is_eq e)

inserted : (k : List ℕ) (ks : List (List ℕ)) → IsIn k (insert_key by_bytes ks k)
inserted k [] = inl refl
inserted k (x ∷ ks) = go (by_bytes k x) refl (inserted k ks)
  where
    go : (o : Ordering) → by_bytes k x ≡ o → IsIn k (insert_key by_bytes ks k) → IsIn k (match_ordering o (k ∷ x ∷ ks) (x ∷ ks) (x ∷ insert_key by_bytes ks k))
    go Less e h = inl refl
    go Equal e h = inl (sym (same_bytes k x e))
    go Greater e h = inr h

kept_in : (k name : List ℕ) (ks : List (List ℕ)) → IsIn name ks → IsIn name (insert_key by_bytes ks k)
kept_in k name [] at = absurd at
kept_in k name (x ∷ ks) at = go (by_bytes k x) at (kept_in k name ks)
  where
    go : (o : Ordering) → IsIn name (x ∷ ks) → (IsIn name ks → IsIn name (insert_key by_bytes ks k)) → IsIn name (match_ordering o (k ∷ x ∷ ks) (x ∷ ks) (x ∷ insert_key by_bytes ks k))
    go Less at h = inr at
    go Equal at h = at
    go Greater (inl e) h = inl e
    go Greater (inr at) h = inr (h at)

still_in : (us : List Use) (name : List ℕ) (names : List (List ℕ)) → IsIn name names → IsIn name (with_uses names us)
still_in [] name names at = at
still_in (u ∷ us) name names at = still_in us name (insert_key by_bytes names u.name) (kept_in u.name name names at)

used_in : (us : List Use) (name : List ℕ) (names : List (List ℕ)) → IsUsed us name → IsIn name (with_uses names us)
used_in [] name names at = absurd at
used_in (u ∷ us) name names (inl e) = still_in us name (insert_key by_bytes names u.name) (subst (λ (n : List ℕ). IsIn n (insert_key by_bytes names u.name)) e (inserted u.name names))
used_in (u ∷ us) name names (inr at) = used_in us name (insert_key by_bytes names u.name) at

through_reads : (rs : List Read) (name : List ℕ) (names : List (List ℕ)) → IsIn name names → IsIn name (names_from names rs)
through_reads [] name names at = at
through_reads (r ∷ rs) name names at = through_reads rs name (with_uses names r.uses) (still_in r.uses name names at)

read_in : (modules : List Named) (places : List ℕ) (at : ℕ) (name : List ℕ) (names : List (List ℕ)) → IsIn at places → IsUsed (uses_at modules at) name → IsIn name (names_from names (map (read_at modules) places))
read_in modules [] at name names held used = absurd held
read_in modules (p ∷ places) at name names (inl e) used = through_reads (map (read_at modules) places) name (with_uses names (uses_at modules p)) (used_in (uses_at modules p) name names (subst (λ (n : ℕ). IsUsed (uses_at modules n) name) (sym e) used))
read_in modules (p ∷ places) at name names (inr more) used = read_in modules places at name (with_uses names (uses_at modules p)) more used

-- the names are those of the modules that were read
are_names : (o : Option Unknown) (all names : List (List ℕ)) → answer o all ≡ Names names → all ≡ names
are_names None all names e = cc
are_names (Some at) all names e = absurd (never at names e)
  where
    never : (at : Unknown) (names : List (List ℕ)) → answer (Some at) all ≡ Names names → ⊥
    never at names e = absurd cc

-- ---- WHAT IS ALLOWED: a module of this title names it
abbrev NamedBy : List Named → Allowed
NamedBy modules source name = (m : Named) × IsIn m modules × (title_text m.title ≡ source) × IsUsed (text_uses m.chunk) name

used_there : (u : Use) (us : List Use) → IsIn u us → IsUsed us u.name
used_there u [] at = absurd at
used_there u (x ∷ us) (inl e) = inl (ap (λ (v : Use). v.name) e)
used_there u (x ∷ us) (inr at) = inr (used_there u us at)

chunk_allowed : (modules : List Named) (world : World) (title : Title) (m : Module) (chunk : Result Block FaultAt) → HasNoOther world modules → world.modules title ≡ Some m → m.chunk ≡ chunk → IfChunk (NamedBy modules) title chunk
chunk_allowed modules world title m (Ok b) no_other e f =
    record { each = λ u at. (record { title = title; chunk = b }, no_other title m b e f, refl, used_there u (text_uses b) at) }
chunk_allowed modules world title m (Err fault) no_other e f = tt

module_allowed : (modules : List Named) (world : World) (title : Title) (m : Option Module) → HasNoOther world modules → world.modules title ≡ m → IfModule (NamedBy modules) title m
module_allowed modules world title None no_other e = tt
module_allowed modules world title (Some m) no_other e = chunk_allowed modules world title m m.chunk no_other e refl

world_allowed : (modules : List Named) (world : World) → HasNoOther world modules → IsAllowedWorld (NamedBy modules) world
world_allowed modules world no_other title = module_allowed modules world title (world.modules title) no_other refl

-- ---- TITLES of modules are told by their texts
name_behind : (title : Title) → title.ns ≡ InModules → drop 7 (title_text title) ≡ title.name
unfolding title_text prefix_of
name_behind title e = ap (λ (ns : Namespace). drop 7 (title_text (record { ns = ns; name = title.name }))) e

same_titles : (a b : Title) → a.ns ≡ InModules → b.ns ≡ InModules → title_text a ≡ title_text b → a ≡ b
same_titles a b e f same =
    let names : a.name ≡ b.name = sym (name_behind a e) ∙ ap (drop 7) same ∙ name_behind b f in
    ap (λ (n : List ℕ). record a { name = n }) names ∙ ap (λ (ns : Namespace). (let t : Title = record { ns = ns; name = b.name } in t)) (e ∙ sym f)

-- ---- A NOTE
in_modules : (modules : List Named) (at : ℕ) (m : Named) → slice_get modules at ≡ Some m → IsIn m modules
in_modules [] zero m e = absurd cc
in_modules [] (suc at) m e = absurd cc
in_modules (x ∷ modules) zero m e = inl cc
in_modules (x ∷ modules) (suc at) m e = inr (in_modules modules at m e)

pub none_is_missed : NoneIsMissed
none_is_missed modules root names is are one world no_other work left replies note noted_ at m place held source =
    let by : NamedBy modules note.source note.name = (notes_allowed {P = NamedBy modules} world (world_allowed modules world no_other) work left replies).each note noted_ in
    let here : IsIn m modules = in_modules modules at m held in
    let same : by.0 ≡ m = one by.0 m by.1 here (same_titles by.0.title m.title (are by.0 by.1) (are m here) (by.2 ∙ source)) in
    let used : IsUsed (text_uses m.chunk) note.name = subst (λ (x : Named). IsUsed (text_uses x.chunk) note.name) same by.3 in
    let at_place : IsUsed (uses_at modules at) note.name = subst (λ (o : Option Named). IsUsed (uses_of o) note.name) (sym held) used in
    subst (IsIn note.name) (are_names (first_hidden (reads modules root)) (names_from [] (reads modules root)) names is) (read_in modules (reached modules root) at note.name [] place at_place)
