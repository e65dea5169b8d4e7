-- A text means one tree or one fault at most, and where there is code of the modules of pages, there are such modules, which agree with it.
use Rattle.std.proofs.Common.{◌≡◌, ◌∙◌, refl, sym, ap, subst, ℕ, ◌==◌, Bool, true, false, ◌&&◌, inl, inr, List, [], ◌∷◌, length, Result, Ok, Err, true≢false, codes}
use Rattle.std.specs.Prelude.{Option, Some, None, if◌then◌else◌}
use Rattle.std.specs.List.{starts_with}
use Rattle.std.specs.Str.{bytes_eq}
use Rattle.std.proofs.lemmas.Slice.Eq.{bytes_eq-Decides}
use Rattle.wiki_markup.specs.WkBaseDeclaredTitleNamespace.{Namespace}
use Rattle.lua_code.specs.WkBaseDeclaredTitleNamespaceTheVariants.{Module as ModuleNs}
use Rattle.wiki_pages.specs.WkBaseDeclaredTitleTitle.{Title}
use Rattle.lua_code.specs.WkBaseTitles.{is_module, title_text, prefix_of}
use Rattle.lua_parser.specs.LuaSyntaxDeclaredFaultFaultAt.{FaultAt}
use Rattle.lua_grammar_laws.specs.LuaSyntaxTree.{Block}
use Rattle.lua_grammar_laws.specs.LuaLexerDeclaredTokenToken.{Token}
use Rattle.lua_grammar_laws.specs.LuaLexerLexis.{Lexes}
use Rattle.lua_grammar_laws.proofs.LuaLexerLists as lists
use Rattle.lua_grammar_laws.specs.LuaGrammarGrammar.{IsChunk}
use Rattle.lua_grammar_laws.proofs.Once.{text_spelled_once}
use Rattle.lua_parser.proofs.lemmas.AnsweredOnce.{one_fault}
use Rattle.lua_code.specs.LuaMeaningWorld.{Module, Modules}
use Rattle.lua_code.specs.LuaSlotsCode.{Protos, CModule}
use Rattle.lua_resolve.specs.LuaSlotsIsCode.{IsProtos, IsCodeOrFault, IsModule}
use Rattle.lua_code.specs.Held.{TitledModules, modules_seen}
use Rattle.wiki_texts.specs.declared.raw.RawPage.{RawPage}
use Rattle.wiki_texts.specs.Modules.{module_text, IsTree, IsMeantBy, AreMeantBy}
use Rattle.wiki_texts.specs.Code.{IsCodeOf, IsCodeOfModule, AreCodeOf}

-- ---- one tree or one fault

tree_once : (text : List ℕ) (b c : Block) → IsTree text (Ok b) → IsTree text (Ok c) → b ≡ c
tree_once text b c x y = text_spelled_once text x.0 y.0 b c x.1 y.1 x.2 y.2

fault_once : (text : List ℕ) (f g : FaultAt) → IsTree text (Err f) → IsTree text (Err g) → f ≡ g
fault_once text f g x y = one_fault text f g x y

same_tokens : (text : List ℕ) (ts us : List Token) → Lexes text ts → Lexes text us → us ≡ ts
same_tokens text ts us h k = sym (lists.one_list text h.0 k.0 0 1 ts us h.1 k.1)

not_both : (text : List ℕ) (b : Block) (f : FaultAt) → IsTree text (Ok b) → IsTree text (Err f) → ⊥
not_both text b f x (inl y) = lists.no_list_with_fault text x.1.0 y.0 0 1 x.0 f.kind f.line x.1.1 y.1
not_both text b f x (inr y) = y.2.1.1 b (subst (λ (v : List Token). IsChunk v b) (same_tokens text y.0 x.0 y.1 x.1) x.2)

chunk_once : (text : List ℕ) (x y : Result Block FaultAt) → IsTree text x → IsTree text y → x ≡ y
chunk_once text (Ok b) (Ok c) h k = ap Ok (tree_once text b c h k)
chunk_once text (Err f) (Err g) h k = ap Err (fault_once text f g h k)
chunk_once text (Ok b) (Err g) h k = absurd (not_both text b g h k)
chunk_once text (Err f) (Ok c) h k = absurd (not_both text c f k h)

same_module : (m n : Module) → m.size ≡ n.size → m.chunk ≡ n.chunk → m ≡ n
same_module m n a b = ap (λ (s : ℕ). record { size = s; chunk = m.chunk }) a ∙ ap (λ (c : Result Block FaultAt). record { size = n.size; chunk = c }) b

module_once : (o : Option (List ℕ)) (m n : Option Module) → IsMeantBy o m → IsMeantBy o n → m ≡ n
module_once None None None h k = refl
module_once (Some text) (Some m) (Some n) h k = ap Some (same_module m n (h.0 ∙ sym k.0) (chunk_once text m.chunk n.chunk h.1 k.1))
module_once None (Some m) n h k = absurd h
module_once None None (Some n) h k = absurd k
module_once (Some text) None n h k = absurd h
module_once (Some text) (Some m) None h k = absurd k

pub meant_once : (pages : List RawPage) (some other : Modules) → AreMeantBy pages some → AreMeantBy pages other → (title : Title) → some title ≡ other title
meant_once pages some other h k title = module_once (module_text pages (title_text title)) (some title) (other title) (h title) (k title)

-- ---- modules that agree with code

chunk_agrees : (text : List ℕ) (chunk : Result Block FaultAt) (code : Result Protos FaultAt) → IsTree text chunk → IsCodeOf text code → IsCodeOrFault chunk code
chunk_agrees text (Ok b) (Ok at) h k = subst (IsProtos at) (tree_once text k.0 b k.1 h) k.2
chunk_agrees text (Err e) (Err f) h k = fault_once text f e k h
chunk_agrees text (Ok b) (Err f) h k = absurd (not_both text b f h k)
chunk_agrees text (Err e) (Ok at) h k = absurd (not_both text k.0 e k.1 h)

pub module_agrees : (o : Option (List ℕ)) (m : Option Module) (c : Option CModule) → IsMeantBy o m → IsCodeOfModule o c → IsModule m c
module_agrees None None None h k = tt
module_agrees (Some text) (Some m) (Some c) h k = (k.0 ∙ sym h.0, chunk_agrees text m.chunk c.code h.1 k.1)
module_agrees None (Some m) c h k = absurd h
module_agrees None None (Some c) h k = absurd k
module_agrees (Some text) None c h k = absurd h
module_agrees (Some text) (Some m) None h k = absurd k

-- ---- what is not named as a module is none

abbrev named : List ℕ → Title
named name = record { ns = ModuleNs; name = name }

is_of_modules : (ns : Namespace) → is_module ns ≡ true → ns ≡ ModuleNs
is_of_modules ModuleNs h = refl
is_of_modules _ h = cc

begins_named : (name : List ℕ) → starts_with ◌==◌ (title_text (named name)) (codes "Module:") ≡ true
unfolding title_text prefix_of
begins_named name = refl

begins_so : (t : Title) → is_module t.ns ≡ true → starts_with ◌==◌ (title_text t) (codes "Module:") ≡ true
begins_so t h = subst (λ (u : Title). starts_with ◌==◌ (title_text u) (codes "Module:") ≡ true) (sym (ap (λ (ns : Namespace). record t { ns = ns }) (is_of_modules t.ns h))) (begins_named t.name)

pub unnamed : (pages : List RawPage) (name : List ℕ) → starts_with ◌==◌ name (codes "Module:") ≡ false → module_text pages name ≡ None
unnamed [] name h = refl
unnamed (p ∷ pages) name h = go (is_module p.title.ns) (bytes_eq name (title_text p.title)) refl refl (unnamed pages name h)
  where
    go : (a b : Bool) → is_module p.title.ns ≡ a → bytes_eq name (title_text p.title) ≡ b → module_text pages name ≡ None → (if a && b then Some p.bytes else module_text pages name) ≡ None
    go true true x y later = absurd (true≢false (sym (begins_so p.title x) ∙ ap (λ (n : List ℕ). starts_with ◌==◌ n (codes "Module:")) (sym ((bytes_eq-Decides name (title_text p.title)).0 y)) ∙ h))
    go true false x y later = later
    go false b x y later = later

pub lacks : (o : Option (List ℕ)) (m : Option Module) → IsMeantBy o m → o ≡ None → m ≡ None
lacks None None h e = refl
lacks None (Some m) h e = absurd h
lacks (Some text) m h e = absurd cc

-- ---- there are such modules

abbrev tree_in : (text : List ℕ) (code : Result Protos FaultAt) → IsCodeOf text code → Result Block FaultAt
tree_in text (Ok at) h = Ok h.0
tree_in text (Err f) h = Err f

is_tree : (text : List ℕ) (code : Result Protos FaultAt) (h : IsCodeOf text code) → IsTree text (tree_in text code h)
is_tree text (Ok at) h = h.1
is_tree text (Err f) h = h

abbrev meant_in : (o : Option (List ℕ)) (c : Option CModule) → IsCodeOfModule o c → Option Module
meant_in (Some text) (Some c) h = Some (record { size = length text; chunk = tree_in text c.code h.1 })
meant_in _ _ h = None

is_meant : (o : Option (List ℕ)) (c : Option CModule) (h : IsCodeOfModule o c) → IsMeantBy o (meant_in o c h)
is_meant (Some text) (Some c) h = (refl, is_tree text c.code h.1)
is_meant None None h = tt
is_meant (Some text) None h = absurd h
is_meant None (Some c) h = absurd h

pub there_are : (pages : List RawPage) (held : TitledModules) → AreCodeOf pages held → (modules : Modules) × AreMeantBy pages modules
there_are pages held all = (
  λ title. meant_in (module_text pages (title_text title)) (modules_seen held (title_text title)) (all.code (title_text title)),
  λ title. is_meant (module_text pages (title_text title)) (modules_seen held (title_text title)) (all.code (title_text title)),
)
