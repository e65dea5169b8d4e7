-- What is told of globals: one report at most, and how the modules of a folder are read.
use Rattle.std.proofs.Common.{◌≡◌, ◌∙◌, ℕ, suc, ◌+◌, ◌<◌, ◌≤◌, Bool, true, false, true≢false, cond, inl, inr, List, [], ◌∷◌, ◌++◌, drop, length, get_or, refl, sym, ap, subst, append_assoc, append-nil, arith}
use Rattle.std.specs.Prelude.{Option, Some, None, unwrap_or, OnOk, Result, Ok, Err}
use Rattle.std.proofs.lemmas.List.{drop_more, drop_all}
use Rattle.wk_base.specs.declared.title.Title.{Title}
use Rattle.wk_base.specs.contracts.title.TitlePartialEq.TheImpl as titles
use Rattle.wk_base.specs.Titles.{is_module}
use Rattle.wk_tool.specs.WkShelfDeclaredFolderFolderPage.{FolderPage}
use Rattle.lua_syntax.specs.declared.Chunk.{Chunk}
use Rattle.lua_syntax.specs.declared.fault.FaultAt.{FaultAt}
use Rattle.lua_syntax.specs.declared.fault.SyntaxFault.TheVariants.{At}
use Rattle.lua_syntax.specs.Tree.{Block}
use Rattle.lua_syntax.specs.View.{chunk_view}
use Rattle.lua_parser.specs.Chunks.{IsParsed}
use Rattle.lua_parser.proofs.lemmas.AnsweredOnce.{one_chunk, chunk_or_fault}
use Rattle.lua_uses.specs.Modules.{Named, GlobalUses, Names, CannotTell as Hidden, place_from, uses}
use Rattle.lua_lint.specs.declared.reading.Named.{Named as CodeNamed}
use Rattle.lua_lint.specs.Reading.{modules_seen}
use Rattle.lua_lint.proofs.ReadingLemmas.{opened}
use Rattle.wk_tool.specs.declared.report.Report.{Report}
use Rattle.wiki_lint.specs.Linting.{IsTree, HasNoTree, IsTreeOf, AreTrees, as_module, modules_of, told, place_of, IsTold, IsToldStatus}
use Rattle.wiki_lint.specs.Trees.{AddsModule, HasModules, HasRest}

-- ---- one tree, and one report
pub no_tree : (text : List ℕ) (fault : FaultAt) → IsParsed (Err (At fault)) text → HasNoTree text
no_tree text fault is tree (chunk, e, x) = chunk_or_fault text chunk fault x is

one_tree : (text : List ℕ) (a b : Block) → IsTree text a → IsTree text b → a ≡ b
one_tree text a b (c, e, x) (d, f, y) = sym e ∙ one_chunk text c d x y ∙ f

treeless : (page : FolderPage) (tree : Block) → IsTreeOf page None → IsTreeOf page (Some tree) → ⊥
treeless page tree (inl other) (is, h) = true≢false (sym is ∙ other)
treeless page tree (inr none) (is, h) = none tree h

one_tree_of : (page : FolderPage) (a b : Option Block) → IsTreeOf page a → IsTreeOf page b → a ≡ b
one_tree_of page None None x y = refl
one_tree_of page None (Some b) x y = absurd (treeless page b x y)
one_tree_of page (Some a) None x y = absurd (treeless page a y x)
one_tree_of page (Some a) (Some b) x y = ap Some (one_tree page.bytes a b x.1 y.1)

one_list : (pages : List FolderPage) (as_ bs : List (Option Block)) → AreTrees pages as_ → AreTrees pages bs → as_ ≡ bs
one_list [] [] [] x y = refl
one_list (page ∷ pages) (a ∷ as_) (b ∷ bs) x y = ap (λ (t : Option Block). t ∷ as_) (one_tree_of page a b x.0 y.0) ∙ ap (λ (ts : List (Option Block)). b ∷ ts) (one_list pages as_ bs x.1 y.1)
one_list [] (a ∷ as_) bs x y = absurd x
one_list [] [] (b ∷ bs) x y = absurd y
one_list (page ∷ pages) [] bs x y = absurd x
one_list (page ∷ pages) (a ∷ as_) [] x y = absurd y

abbrev told_of : Title → List FolderPage → List (Option Block) → Report
told_of title pages trees = told (modules_of pages trees) (uses (modules_of pages trees) (place_of (modules_of pages trees) title))

pub one_told : (title : Title) (pages : List FolderPage) (r s : Report) → IsTold title pages r → IsTold title pages s → r ≡ s
one_told title pages r s (as_, x, e) (bs, y, f) = e ∙ ap (told_of title pages) (one_list pages as_ bs x y) ∙ sym f

-- ---- reading the modules
pub added : {T E : Type 0} (page : FolderPage) (chunk : Chunk) (old new : List CodeNamed) (r : Result T E) → is_module page.title.ns ≡ true → IsParsed (Ok chunk) page.bytes
    → OnOk r (modules_seen new ≡ modules_seen old ++ record { title = page.title; chunk = chunk_view chunk } ∷ []) → OnOk r (AddsModule page old new)
added page chunk old new (Ok x) is parsed e = (Some (chunk_view chunk), (is, (chunk, refl, parsed)), e)
added page chunk old new (Err x) is parsed e = tt

pub passed_over : (page : FolderPage) (old : List CodeNamed) → IsTreeOf page None → AddsModule page old old
passed_over page old is = (None, is, sym (append-nil (modules_seen old)))

pub one_read : (pages whole : List FolderPage) (i : ℕ) (page : FolderPage) (old new : List CodeNamed) → page ≡ get_or whole i page → i < length whole → AddsModule page old new
    → HasRest pages (modules_seen old) (drop i whole) → HasRest pages (modules_seen new) (drop (i + 1) whole)
one_read pages whole i page old new at less one h trees are =
    let rest : List FolderPage = drop (i + 1) whole in
    let w : drop i whole ≡ page ∷ rest = drop_more whole i page less ∙ ap (λ (p : FolderPage). p ∷ rest) (sym at) in
    let all : HasModules pages (modules_seen old ++ modules_of (drop i whole) (one.0 ∷ trees)) = h (one.0 ∷ trees) (subst (λ (l : List FolderPage). AreTrees l (one.0 ∷ trees)) (sym w) (one.1, are)) in
    let joined : modules_seen old ++ modules_of (drop i whole) (one.0 ∷ trees) ≡ modules_seen new ++ modules_of rest trees =
    ap (λ (l : List FolderPage). modules_seen old ++ modules_of l (one.0 ∷ trees)) w
    ∙ sym (append_assoc (modules_seen old) (as_module page.title one.0) (modules_of rest trees))
    ∙ ap (λ (l : List Named). l ++ modules_of rest trees) (sym one.2) in
    subst (HasModules pages) joined all

pub all_read : (pages whole : List FolderPage) (i : ℕ) (now : List Named) → length whole ≤ i → HasRest pages now (drop i whole) → HasModules pages now
all_read pages whole i now less h = subst (HasModules pages) (append-nil now) (subst (HasRest pages now) (drop_all i whole less) h [] tt)

-- ---- the place of a module
module _ (ms : List CodeNamed) (place : ℕ) (title : Title) where
  abbrev Passed : ℕ → Type 0
  Passed n = place_from n (drop n (modules_seen ms)) title ≡ place_from 0 (modules_seen ms) title

  at_place : (m : CodeNamed) (b : Bool) → place < length ms → m ≡ get_or ms place m → titles.ghosts.eq (get_or ms place m).title title ≡ b
      → place_from place (drop place (modules_seen ms)) title ≡ cond b (Some place) (place_from (suc place) (drop (suc place) (modules_seen ms)) title)
  at_place m b less is e =
      ap (λ (l : List Named). place_from place l title) (opened ms place m less is)
      ∙ ap (λ (c : Bool). cond c (Some place) (place_from (suc place) (drop (suc place) (modules_seen ms)) title)) (ap (λ (n : CodeNamed). titles.ghosts.eq n.title title) is ∙ e)

  pub found_at : (m : CodeNamed) → place < length ms → m ≡ get_or ms place m → titles.ghosts.eq (get_or ms place m).title title ≡ true → Passed place → place ≡ place_of (modules_seen ms) title
  found_at m less is e h = ap (λ (o : Option ℕ). unwrap_or o 0) (sym (at_place m true less is e) ∙ h)

  pub passed_by : (m : CodeNamed) → place < length ms → m ≡ get_or ms place m → titles.ghosts.eq (get_or ms place m).title title ≡ false → Passed place → Passed (place + 1)
  passed_by m less is e h =
      let more : place + 1 ≡ suc place = omega arith in
      ap (λ (n : ℕ). place_from n (drop n (modules_seen ms)) title) more ∙ sym (at_place m false less is e) ∙ h

-- ---- the statuses of what is told
told_status : (modules : List Named) (answer : GlobalUses) → IsToldStatus (told modules answer).status
told_status modules (Names names) = tt
told_status modules (Hidden at) = tt

pub status_told : (title : Title) (pages : List FolderPage) (report : Report) → IsTold title pages report → IsToldStatus report.status
status_told title pages report (trees, are, e) = subst (λ (x : Report). IsToldStatus x.status) (sym e) (told_status (modules_of pages trees) (uses (modules_of pages trees) (place_of (modules_of pages trees) title)))
