-- Whatever modules the texts mean, one report is due at most.
use Rattle.std.proofs.Common.{◌≡◌, ◌∙◌, ℕ, true, false, List, ◌∷◌, refl, sym, ap, subst}
use Rattle.std.specs.Prelude.{Option, Some, None, IfSome, IfOk, is_some, option_map, Result, Ok, Err}
use Rattle.wk_tool.specs.WkShelfDeclaredFolderFolderPage.{FolderPage}
use Rattle.wk_tool.specs.WkShelfFiles.{StoredFile}
use Rattle.wk_tool.specs.declared.report.Report.{Report}
use Rattle.wk_tool.specs.declared.report.Status.{Status}
use Rattle.wk_tool.specs.declared.report.Status.TheVariants.{Done, NoSuchPage, SourceFault}
use Rattle.wk_tool.specs.declared.ending.Unread.{Unread}
use Rattle.wk_tool.specs.declared.ending.Unread.TheVariants.{Failed, NoMemory}
use Rattle.wk_tool.specs.Report.{status_code, usage_report, source_report}
use Rattle.wk_tool.specs.Ending.{is_among, is_cut, Prepares}
use Rattle.wiki_words.specs.declared.command.Command.{Command}
use Rattle.wiki_words.specs.Command.{command_of}
use Rattle.wiki_batch.specs.LuaMeaningWorld.{Modules}
use Rattle.wiki_batch.specs.WikiTextsModules.{AreMeantBy}
use Rattle.wiki_app.specs.Pages.{wiki_for, raw_pages}
use Rattle.wiki_app.specs.Report.{tool, usage, statuses, is_command, report_of, expected_for, AreMeantIn, IsReportOf, AreThere, AreMeantFor, HasModules, IsDue, IsOfFolder, IsWork, ReadsFolder, ReadFailed}

-- ---- what words come to, by the command that they are

some_back : {A : Type 0} {x y : A} → Some x ≡ Some y → x ≡ y
some_back e = cc

abbrev IsDueFor : Option Command → Option (List StoredFile) → Report → Type 0
IsDueFor command files report = (modules : Modules) × AreMeantFor command files modules × (expected_for modules command files ≡ Some report)

abbrev Prepared : Result Report Unread → Option Command → Option (List StoredFile) → Type 0 → Type 0
Prepared work command files rose = Prepares work (is_some command) statuses (IsDueFor command files) (ReadsFolder command × rose)

-- ---- no command

no_modules : Modules
no_modules title = None

only_usage : (files : Option (List StoredFile)) (due : Report) → IsDueFor None files due → due ≡ usage_report usage
only_usage files due (modules, mean, is) = sym (some_back is)

-- (whatever a failed read is)
pub usage_prepared : (words : List (List ℕ)) (files : Option (List StoredFile)) → None ≡ command_of words → Prepares (Ok (usage_report usage)) (is_command words) statuses (IsDue words files) (Unit {0})
usage_prepared words files e =
    subst (λ (o : Option Command). Prepared (Ok (usage_report usage)) o files (Unit {0})) e (only_usage files, refl, refl, (λ h. refl), (λ h. refl))

pub usage_meant : (words : List (List ℕ)) (files : Option (List StoredFile)) → None ≡ command_of words → HasModules words files
usage_meant words files e = (no_modules, subst (λ (o : Option Command). AreMeantFor o files no_modules) e tt)

-- ---- a command

-- the pages of a wiki, or a fault
abbrev pub Found : Type 0
Found = Result (List FolderPage) (List ℕ)

only_due : (command : Command) (files : Option (List StoredFile)) (report : Report) → IfSome (wiki_for command.work files) (IsReportOf command report) → (due : Report) → IsDueFor (Some command) files due → due ≡ report
only_due command files report h due (modules, mean, is) = go (wiki_for command.work files) h mean is
  where
    go : (wiki : Option Found) → IfSome wiki (IsReportOf command report) → IfSome wiki (λ w. AreMeantIn w modules) → option_map (report_of modules command) wiki ≡ Some due → due ≡ report
    go None h mean is = absurd cc
    go (Some w) h mean is = sym (some_back is) ∙ sym (h modules mean)

among : (status : Status) → IsWork status → is_among (status_code status) (0 ∷ statuses) ≡ true
among Done h = refl
among NoSuchPage h = refl
among SourceFault h = refl
among _ h = absurd h

uncut : (status : Status) → IsWork status → is_cut (status_code status) ≡ false
uncut Done h = refl
uncut NoSuchPage h = refl
uncut SourceFault h = refl
uncut _ h = absurd h

no_usage : {A : Type 0} (status : Status) → IsWork status → status_code status ≡ 2 → A
no_usage Done h e = absurd cc
no_usage NoSuchPage h e = absurd cc
no_usage SourceFault h e = absurd cc
no_usage _ h e = absurd h

module _ (words : List (List ℕ)) (files : Option (List StoredFile)) (command : Command) (work : Result Report Unread) (is : Some command ≡ command_of words) where
  -- what the work on a command came to
  pub work_prepared : (rose : Type 0) → IfOk work (λ report. IfSome (wiki_for command.work files) (IsReportOf command report)) → IfOk work (λ report. IsWork report.status) → (work ≡ Err Failed → IsOfFolder command.work × rose) → Prepares work (is_command words) statuses (IsDue words files) (ReadFailed words rose)
  work_prepared rose h ends cause = subst (λ (o : Option Command). Prepared work o files rose) is (go work h ends cause)
    where
      go : (work : Result Report Unread) → IfOk work (λ report. IfSome (wiki_for command.work files) (IsReportOf command report)) → IfOk work (λ report. IsWork report.status) → (work ≡ Err Failed → IsOfFolder command.work × rose) → Prepared work (Some command) files rose
      go (Ok report) h ends cause = (only_due command files report h, among report.status ends, uncut report.status ends, (λ e. no_usage report.status ends e), (λ no. absurd cc))
      go (Err Failed) h ends cause = (refl, cause refl)
      go (Err NoMemory) h ends cause = tt

  -- there are modules that the texts mean
  pub work_meant : IfOk work (λ _. IfSome (wiki_for command.work files) AreThere) → IfOk work (λ _. HasModules words files)
  work_meant h = go work h
    where
      there : (wiki : Option Found) → IfSome wiki AreThere → (modules : Modules) × IfSome wiki (λ w. AreMeantIn w modules)
      there None h = (no_modules, tt)
      there (Some w) h = h

      found : IfSome (wiki_for command.work files) AreThere → HasModules words files
      found h = let m = there (wiki_for command.work files) h in (m.0, subst (λ (o : Option Command). AreMeantFor o files m.0) is m.1)

      go : (work : Result Report Unread) → IfOk work (λ _. IfSome (wiki_for command.work files) AreThere) → IfOk work (λ _. HasModules words files)
      go (Ok report) h = found h
      go (Err e) h = tt

-- ---- a command's report, from what the folder gave

module _ (wiki : Option Found) (command : Command) (report : Report) where
  pub of_pages : (pages : List FolderPage) → IfSome wiki (λ w. w ≡ Ok pages) → ((modules : Modules) → AreMeantBy (raw_pages pages) modules → report ≡ report_of modules command (Ok pages)) → IfSome wiki (IsReportOf command report)
  of_pages pages is h = go wiki is
    where
      go : (wiki : Option Found) → IfSome wiki (λ w. w ≡ Ok pages) → IfSome wiki (IsReportOf command report)
      go None is = tt
      go (Some w) is = λ modules mean. h modules (subst (λ (r : Found). AreMeantIn r modules) is mean) ∙ sym (ap (report_of modules command) is)

  pub meant_by_pages : (pages : List FolderPage) → IfSome wiki (λ w. w ≡ Ok pages) → (modules : Modules) × AreMeantBy (raw_pages pages) modules → IfSome wiki AreThere
  meant_by_pages pages is h = go wiki is
    where
      go : (wiki : Option Found) → IfSome wiki (λ w. w ≡ Ok pages) → IfSome wiki AreThere
      go None is = tt
      go (Some w) is = (h.0, subst (λ (r : Found). AreMeantIn r h.0) (sym is) h.1)

  pub of_fault : (line : List ℕ) → IfSome wiki (λ w. w ≡ Err line) → report ≡ source_report tool line → IfSome wiki (IsReportOf command report)
  of_fault line is e = go wiki is
    where
      go : (wiki : Option Found) → IfSome wiki (λ w. w ≡ Err line) → IfSome wiki (IsReportOf command report)
      go None is = tt
      go (Some w) is = λ modules mean. e ∙ sym (ap (report_of modules command) is)

  pub meant_by_none : (line : List ℕ) → IfSome wiki (λ w. w ≡ Err line) → IfSome wiki AreThere
  meant_by_none line is = go wiki is
    where
      go : (wiki : Option Found) → IfSome wiki (λ w. w ≡ Err line) → IfSome wiki AreThere
      go None is = tt
      go (Some w) is = (no_modules, subst (λ (r : Found). AreMeantIn r no_modules) (sym is) tt)
