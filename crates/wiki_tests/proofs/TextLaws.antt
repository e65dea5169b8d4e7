-- Texts of modules by the texts of their titles, and what they mean.
use Rattle.std.proofs.Common.{◌≡◌, ◌∙◌, ℕ, Bool, true, false, ◌&&◌, cond, List, [], ◌∷◌, ◌++◌, length, refl, sym, ap, subst, Result, Ok, Err, OnOk}
use Rattle.std.specs.Prelude.{Option, Some, None, if◌then◌else◌, option_map, IfOk, is_some}
use Rattle.std.specs.Borrow.{Bor}
use Rattle.std.specs.List.{cons_option}
use Rattle.std.specs.Map.{lookup}
use Rattle.std.specs.Str.{bytes_eq}
use Rattle.std.proofs.lemmas.List.Elements.{filter_map-append}
use Rattle.std.proofs.lemmas.Slice.Eq.{bytes_eq-Decides}
use Rattle.wk_base.specs.declared.NoMemory.{NoMemory}
use Rattle.wk_base.specs.declared.title.Title.{Title}
use Rattle.wk_base.specs.declared.title.Namespace.TheVariants.{Module as ModuleNs}
use Rattle.wk_base.specs.Titles.{is_module, title_text}
use Rattle.lua_syntax.specs.declared.fault.FaultAt.{FaultAt}
use Rattle.lua_syntax.specs.declared.fault.SyntaxFault.TheVariants.{At}
use Rattle.lua_syntax.specs.declared.Chunk.{Chunk}
use Rattle.lua_syntax.specs.Tree.{Block}
use Rattle.lua_syntax.specs.View.{chunk_view}
use Rattle.lua_parser.specs.Chunks.{IsParsed}
use Rattle.case_names.specs.Cases.{cases_of}
use Rattle.lua_meaning.specs.World.{Module, Modules}
use Rattle.wiki_batch.specs.WikiTextsDeclaredRawRawPage.{RawPage}
use Rattle.wiki_batch.specs.WikiTextsModules.{module_text, IsTree, IsMeantBy, AreMeantBy}
use Rattle.wiki_batch.proofs.WikiTextsMeaningLaws.{meant_once}
use Rattle.wiki_tests.specs.declared.tested.TestModule.{TestModule}
use Rattle.wiki_tests.specs.Tested.{cases_in, tested, tested_of, all_tested, test_titles}
use Rattle.wiki_tests.specs.Texts.{TitledTexts, text_named, text_in, or_else, AddsText, AreTexts, AddsPage, AreCases, IsTested, AreTested, AreTestModules}

or_none : (o : Option (List ℕ)) → or_else o None ≡ o
or_none (Some x) = refl
or_none None = refl

-- ---- one text more

named_more : (texts : TitledTexts) (title : List ℕ) (text : Bor (List ℕ)) (name : List ℕ) → text_named (texts ++ (title, text) ∷ []) name ≡ or_else (text_named texts name) (if bytes_eq name title then Some text.now else None)
named_more [] title text name = go (bytes_eq name title)
  where
    go : (b : Bool) → option_map (λ (t : Bor (List ℕ)). t.now) (cond b (Some text) None) ≡ (if b then Some text.now else None)
    go true = refl
    go false = refl
named_more (e ∷ texts) title text name = go (bytes_eq name e.0) (named_more texts title text name)
  where
    one : Option (List ℕ)
    one = if bytes_eq name title then Some text.now else None

    go : (b : Bool) → text_named (texts ++ (title, text) ∷ []) name ≡ or_else (text_named texts name) one
        → option_map (λ (t : Bor (List ℕ)). t.now) (cond b (Some e.1) (lookup (bytes_eq name) (texts ++ (title, text) ∷ []))) ≡ or_else (option_map (λ (t : Bor (List ℕ)). t.now) (cond b (Some e.1) (lookup (bytes_eq name) texts))) one
    go true later = refl
    go false later = later

pub lacks : {A : Type 0} (o : Option A) → is_some o ≡ false → o ≡ None
lacks None h = refl
lacks (Some x) h = absurd cc

-- a text is added where there was none of its title
pub added : (texts more : TitledTexts) (title : List ℕ) (text : Bor (List ℕ)) → more ≡ texts ++ (title, text) ∷ [] → AddsText title text.now texts more
added texts more title text is name = ap (λ (es : TitledTexts). text_named es name) is ∙ named_more texts title text name

-- and none where there was one
pub stays : (texts : TitledTexts) (title text : List ℕ) → is_some (lookup (bytes_eq title) texts) ≡ true → AddsText title text texts texts
stays texts title text some name = go (bytes_eq name title) refl
  where
    mapped : (o : Option (Bor (List ℕ))) → is_some o ≡ true → (one : Option (List ℕ)) → option_map (λ t. t.now) o ≡ or_else (option_map (λ t. t.now) o) one
    mapped (Some t) h one = refl
    mapped None h one = absurd cc

    go : (b : Bool) → bytes_eq name title ≡ b → text_named texts name ≡ or_else (text_named texts name) (if b then Some text else None)
    go true e = mapped (lookup (bytes_eq name) texts) (ap (λ (n : List ℕ). is_some (lookup (bytes_eq n) texts)) ((bytes_eq-Decides name title).0 e) ∙ some) (Some text)
    go false e = sym (or_none (text_named texts name))

-- no page
pub no_texts : (texts : TitledTexts) → texts ≡ [] → AreTexts [] texts
no_texts texts none name = ap (λ (es : TitledTexts). text_named es name) none

-- ---- one page more

text_more : (pages : List RawPage) (page : RawPage) (name : List ℕ) → module_text (pages ++ page ∷ []) name ≡ or_else (module_text pages name) (module_text (page ∷ []) name)
text_more [] page name = refl
text_more (p ∷ pages) page name = go (is_module p.title.ns && bytes_eq name (title_text p.title)) (text_more pages page name)
  where
    go : (b : Bool) → module_text (pages ++ page ∷ []) name ≡ or_else (module_text pages name) (module_text (page ∷ []) name) → (if b then Some p.bytes else module_text (pages ++ page ∷ []) name) ≡ or_else (if b then Some p.bytes else module_text pages name) (module_text (page ∷ []) name)
    go true later = refl
    go false later = later

alone : (page : RawPage) (name : List ℕ) (b : Bool) → is_module page.title.ns ≡ b → module_text (page ∷ []) name ≡ (if b && bytes_eq name (title_text page.title) then Some page.bytes else None)
alone page name b h = ap (λ (b : Bool). if b && bytes_eq name (title_text page.title) then Some page.bytes else None) h

pub no_module : (page : RawPage) (texts : TitledTexts) → is_module page.title.ns ≡ false → AddsPage page texts texts
no_module page texts h pages are name = are name ∙ sym (or_none (module_text pages name)) ∙ ap (or_else (module_text pages name)) (sym (alone page name false h)) ∙ sym (text_more pages page name)

pub a_module : (page : RawPage) (title : List ℕ) (texts more : TitledTexts) → is_module page.title.ns ≡ true → title ≡ title_text page.title → AddsText title page.bytes texts more → AddsPage page texts more
a_module page title texts more h is adds pages are name =
    adds name
    ∙ ap (λ (o : Option (List ℕ)). or_else o (if bytes_eq name title then Some page.bytes else None)) (are name)
    ∙ ap (λ (t : List ℕ). or_else (module_text pages name) (if bytes_eq name t then Some page.bytes else None)) is
    ∙ ap (or_else (module_text pages name)) (sym (alone page name true h))
    ∙ sym (text_more pages page name)

-- so it is where the text is put, and where it isn't asked for
pub module_put : {T E : Type 0} (r : Result T E) (page : RawPage) (title : List ℕ) (texts more : TitledTexts) → is_module page.title.ns ≡ true → title ≡ title_text page.title → OnOk r (AddsText title page.bytes texts more) → OnOk r (AddsPage page texts more)
module_put (Ok x) page title texts more h is adds = a_module page title texts more h is adds
module_put (Err e) page title texts more h is adds = tt

-- ---- a text means one tree or one fault: it is that of a module by itself

abbrev one_page : List ℕ → List RawPage
one_page text = record { title = record { ns = ModuleNs; name = [] }; bytes = text } ∷ []

abbrev one_module : List ℕ → Result Block FaultAt → Modules
one_module text chunk title = option_map (λ (t : List ℕ). record { size = length t; chunk = chunk }) (module_text (one_page text) (title_text title))

one_meant : (text : List ℕ) (chunk : Result Block FaultAt) → IsTree text chunk → AreMeantBy (one_page text) (one_module text chunk)
one_meant text chunk is title = go (bytes_eq (title_text title) (title_text (record { ns = ModuleNs; name = [] })))
  where
    go : (b : Bool) → IsMeantBy (if b then Some text else None) (option_map (λ (t : List ℕ). record { size = length t; chunk = chunk }) (if b then Some text else None))
    go true = (refl, is)
    go false = tt

abbrev own_name : List ℕ
own_name = title_text (record { ns = ModuleNs; name = [] })

-- the chunk of a module, if it is there
abbrev chunk_in : Result Block FaultAt → Option Module → Result Block FaultAt
chunk_in x (Some m) = m.chunk
chunk_in x None = x

pub chunk_once : (text : List ℕ) (x y : Result Block FaultAt) → IsTree text x → IsTree text y → x ≡ y
chunk_once text x y h k = go (bytes_eq own_name own_name) ((bytes_eq-Decides own_name own_name).1 refl) (meant_once (one_page text) (one_module text x) (one_module text y) (one_meant text x h) (one_meant text y k) (record { ns = ModuleNs; name = [] }))
  where
    go : (b : Bool) → b ≡ true → option_map {U = Module} (λ (t : List ℕ). record { size = length t; chunk = x }) (if b then Some text else None) ≡ option_map {U = Module} (λ (t : List ℕ). record { size = length t; chunk = y }) (if b then Some text else None) → x ≡ y
    go true e same = ap (chunk_in x) same
    go false e same = absurd cc

-- ---- what is tested

pub of_text : (text : List ℕ) (chunk : Result Block FaultAt) (cases : Result (List (List ℕ)) FaultAt) → IsTree text chunk → cases ≡ cases_in chunk → AreCases text cases
of_text text chunk cases h is other k = is ∙ ap cases_in (chunk_once text chunk other h k)

-- the cases of the chunk that is parsed
pub of_chunk : (text : List ℕ) (chunk : Chunk) (names : List (List ℕ)) → IsParsed (Ok chunk) text → names ≡ cases_of (chunk_view chunk) → AreCases text (Ok names)
of_chunk text chunk names (tokens, lexes, one) is = of_text text (Ok (chunk_view chunk)) (Ok names) (tokens, lexes, one.0) (ap Ok is)

-- the fault of a text that is no Lua
pub of_fault : (text : List ℕ) (fault : FaultAt) → IsParsed (Err (At fault)) text → AreCases text (Err fault)
of_fault text fault is = of_text text (Err fault) (Err fault) is refl

-- there is no such module
pub none_tested : (texts : TitledTexts) (title : Title) → None ≡ text_in texts title → IsTested texts title None
none_tested texts title none pages modules are mean = go (modules title) (subst (λ (o : Option (List ℕ)). IsMeantBy o (modules title)) (sym (are (title_text title)) ∙ sym none) (mean title))
  where
    go : (m : Option Module) → IsMeantBy None m → None ≡ option_map (tested title) m
    go None h = refl
    go (Some m) h = absurd h

-- a module of this text
one_tested_so : (texts : TitledTexts) (title : Title) (text : List ℕ) (cases : Result (List (List ℕ)) FaultAt) → Some text ≡ text_in texts title → AreCases text cases → IsTested texts title (Some (record { title = title; cases = cases }))
one_tested_so texts title text cases some have pages modules are mean = go (modules title) (subst (λ (o : Option (List ℕ)). IsMeantBy o (modules title)) (sym (are (title_text title)) ∙ sym some) (mean title))
  where
    go : (m : Option Module) → IsMeantBy (Some text) m → Some (record { title = title; cases = cases }) ≡ option_map (tested title) m
    go None h = absurd h
    go (Some m) h = ap (λ (cs : Result (List (List ℕ)) FaultAt). Some (record { title = title; cases = cs })) (have m.chunk h.1)

-- with a copy of the title
pub one_tested : (texts : TitledTexts) (title copy : Title) (text : List ℕ) (cases : Result (List (List ℕ)) FaultAt) → copy ≡ title → Some text ≡ text_in texts title → AreCases text cases → IsTested texts title (Some (record { title = copy; cases = cases }))
one_tested texts title copy text cases same some have = subst (λ (t : Title). IsTested texts title (Some (record { title = t; cases = cases }))) (sym same) (one_tested_so texts title text cases some have)

pub none_yet : (texts : TitledTexts) → AreTested texts [] []
none_yet texts pages modules are mean = refl

pub with_tested : (texts : TitledTexts) (titles : List Title) (all : List TestModule) (title : Title) (more : Option TestModule) → AreTested texts titles all → IsTested texts title more → AreTested texts (titles ++ title ∷ []) (all ++ cons_option more [])
with_tested texts titles all title more h k pages modules are mean =
    ap (λ (ts : List TestModule). ts ++ cons_option more []) (h pages modules are mean)
    ∙ ap (λ (o : Option TestModule). all_tested modules titles ++ cons_option o []) (k pages modules are mean)
    ∙ sym (filter_map-append (tested_of modules) titles (title ∷ []))

-- of the pages
pub modules_tested : (pages : List RawPage) (titles : List Title) (texts : TitledTexts) (r : Result (List TestModule) NoMemory) → titles ≡ test_titles pages → AreTexts pages texts → IfOk r (λ all. AreTested texts titles all) → IfOk r (λ all. AreTestModules pages all)
modules_tested pages titles texts (Err m) is are h = tt
modules_tested pages titles texts (Ok all) is are h = λ modules mean. h pages modules are mean ∙ ap (all_tested modules) is
