-- Titles that are held, and the report of all of them.
use Rattle.std.proofs.Common.{◌≡◌, ◌∙◌, List, [], ◌∷◌, refl, sym, ap, subst, is_some, if◌then◌else◌}
use Rattle.std.specs.Prelude.{Option, Some, None, All, IsSome}
use Rattle.std.proofs.lemmas.List.Elements.{All-nil, All-cons}
use Rattle.wk_base.specs.declared.title.Title.{Title}
use Rattle.wiki_pages.specs.Entries.{Entry}
use Rattle.wiki_pages.specs.Pages.{Pages, find_page}
use Rattle.wk_tool.specs.declared.report.Report.{Report}
use Rattle.wk_tool.specs.Report.{missing_report}
use Rattle.wiki_app.specs.Pages.{first_missing}
use Rattle.wiki_app.specs.Report.{tool, unless_missing}

first_held : (map : Pages) (title : Title) (titles : List Title) (o : Option Entry) → find_page map title ≡ o → (if is_some o then first_missing map titles else Some title) ≡ None → IsSome (find_page map title) × (first_missing map titles ≡ None)
first_held map title titles None s e = absurd cc
first_held map title titles (Some entry) s e = (subst (λ (o : Option Entry). IsSome o) (sym s) refl, e)

-- where no title is missing, each is held
pub all_held : (map : Pages) (titles : List Title) → first_missing map titles ≡ None → All (λ title. IsSome (find_page map title)) titles
all_held map [] e = All-nil (λ title. IsSome (find_page map title))
all_held map (title ∷ titles) e =
    let both : IsSome (find_page map title) × (first_missing map titles ≡ None) = first_held map title titles (find_page map title) refl e in
    All-cons (λ title. IsSome (find_page map title)) title titles both.0 (all_held map titles both.1)

-- a title that is missing
pub missing_case : (report other : Report) (missing : Option Title) (title : Title) → report ≡ missing_report tool title → missing ≡ Some title → report ≡ unless_missing missing other
missing_case report other missing title r e = r ∙ ap (λ (o : Option Title). unless_missing o other) (sym e)

-- none is
pub done_case : (report other : Report) (missing : Option Title) → report ≡ other → missing ≡ None → report ≡ unless_missing missing other
done_case report other missing r e = r ∙ ap (λ (o : Option Title). unless_missing o other) (sym e)
