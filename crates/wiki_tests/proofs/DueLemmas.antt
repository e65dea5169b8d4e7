-- One report is due at most.
use Rattle.std.proofs.Common.{◌≡◌, ◌∙◌, ℕ, true, false, List, ◌∷◌, refl, sym, ap, subst}
use Rattle.std.specs.Prelude.{Option, Some, None, IfSome, IfOk, IfErr, is_some, Result, Ok, Err}
use Rattle.wk_base.specs.declared.left.Limits.{Limits}
use Rattle.wk_shelf.specs.declared.folder.FolderPage.{FolderPage}
use Rattle.wk_shelf.specs.Files.{StoredFile}
use Rattle.wk_shelf.specs.Folder.{files_of, wiki_of}
use Rattle.wk_tool.specs.declared.report.Report.{Report}
use Rattle.wk_tool.specs.declared.report.Status.{Status}
use Rattle.wk_tool.specs.declared.report.Status.TheVariants.{Done, SourceFault, CaseFailed}
use Rattle.wk_tool.specs.declared.ending.Unread.{Unread}
use Rattle.wk_tool.specs.declared.ending.Unread.TheVariants.{Failed, NoMemory}
use Rattle.wk_tool.specs.Report.{status_code, usage_report, source_report}
use Rattle.wk_tool.specs.Ending.{is_among, is_cut, Prepares}
use Rattle.lua_meaning.specs.World.{Modules}
use Rattle.wiki_batch.specs.WikiTextsDeclaredRawRawPage.{RawPage}
use Rattle.wiki_batch.specs.WikiTextsModules.{AreMeantBy}
use Rattle.wiki_tests.specs.declared.reporting.TestReport.{TestReport}
use Rattle.wiki_tests.specs.Command.{Command, command_of, is_command}
use Rattle.wiki_tests.specs.Due.{tool, usage, statuses, raw_pages, printed, folder_report, IsWikiReport, IsFolderReport, IsOnlyReport, IsDueFor, IsDue, HasDueFor, HasDue, IsAnswer}

-- ---- a folder

only : (limits : Limits) (wiki : Result (List FolderPage) (List ℕ)) (report due : Report) → IsOnlyReport limits wiki report → IsWikiReport limits wiki due → due ≡ report
only limits (Err fault) report due h is = is ∙ sym h
only limits (Ok pages) report due h (modules, mean, is) = is ∙ sym (h.1 modules mean)

is_due : (limits : Limits) (wiki : Result (List FolderPage) (List ℕ)) (report : Report) → IsOnlyReport limits wiki report → IsWikiReport limits wiki report
is_due limits (Err fault) report h = h
is_due limits (Ok pages) report h = h.0

-- the report of some pages, as it is printed
pub printed_report : (limits : Limits) (raw pages : List RawPage) (made : TestReport) (report : Report) → raw ≡ pages → report ≡ printed made → (modules : Modules) × AreMeantBy raw modules → ((modules : Modules) → AreMeantBy raw modules → made ≡ folder_report modules limits raw) → IsFolderReport limits pages report
printed_report limits raw pages made report same is (modules, mean) each =
    let all : (modules : Modules) → AreMeantBy raw modules → report ≡ printed (folder_report modules limits raw) = λ m are. is ∙ ap printed (each m are) in
    subst (λ (ps : List RawPage). IsFolderReport limits ps report) same ((modules, mean, all modules mean), all)

-- ---- what reading the folder came to

pub of_pages : (r : Result Report Unread) (limits : Limits) (pages : List FolderPage) (known : Option (List StoredFile)) (folder : List ℕ) → IfSome known (λ files. wiki_of (files_of folder files) ≡ Ok pages) → IfOk r (λ report. IsFolderReport limits (raw_pages pages) report) → IfOk r (λ report. IfSome known (λ files. IsOnlyReport limits (wiki_of (files_of folder files)) report))
of_pages (Err e) limits pages known folder is h = tt
of_pages (Ok report) limits pages None folder is h = tt
of_pages (Ok report) limits pages (Some files) folder is h = subst (λ (w : Result (List FolderPage) (List ℕ)). IsOnlyReport limits w report) (sym is) h

pub of_fault : (r : Result Report Unread) (limits : Limits) (fault : List ℕ) (known : Option (List StoredFile)) (folder : List ℕ) → IfSome known (λ files. wiki_of (files_of folder files) ≡ Err fault) → IfOk r (λ report. report ≡ source_report tool fault) → IfOk r (λ report. IfSome known (λ files. IsOnlyReport limits (wiki_of (files_of folder files)) report))
of_fault (Err e) limits fault known folder is h = tt
of_fault (Ok report) limits fault None folder is h = tt
of_fault (Ok report) limits fault (Some files) folder is h = subst (λ (w : Result (List FolderPage) (List ℕ)). IsOnlyReport limits w report) (sym is) h

-- a command as it is held, and as it is seen
pub at_view : (r : Result Report Unread) (known : Option (List StoredFile)) (folder : List ℕ) (limits : Limits) (jobs : ℕ) (command : Command) → record { folder = folder; limits = limits; jobs = jobs } ≡ command → IfOk r (λ report. IfSome known (λ files. IsOnlyReport limits (wiki_of (files_of folder files)) report)) → IfOk r (λ report. IfSome known (λ files. IsOnlyReport command.limits (wiki_of (files_of command.folder files)) report))
at_view r known folder limits jobs command e h = subst (λ (k : Command). IfOk r (λ report. IfSome known (λ files. IsOnlyReport k.limits (wiki_of (files_of k.folder files)) report))) e h

-- want of memory is no failed read
pub no_failure : {P : Type 0} (r : Result Report Unread) → IfErr r (λ e. e ≡ NoMemory) → r ≡ Err Failed → P
no_failure r h f = absurd (go (subst (λ (x : Result Report Unread). IfErr x (λ e. e ≡ NoMemory)) f h))
  where
    go : Failed ≡ NoMemory → ⊥
    go e = absurd cc

-- ---- the statuses of a command's report

among : (status : Status) → IsAnswer status → is_among (status_code status) (0 ∷ statuses) ≡ true
among Done h = refl
among SourceFault h = refl
among CaseFailed h = refl
among _ h = absurd h

uncut : (status : Status) → IsAnswer status → is_cut (status_code status) ≡ false
uncut Done h = refl
uncut SourceFault h = refl
uncut CaseFailed h = refl
uncut _ h = absurd h

no_usage : {A : Type 0} (status : Status) → IsAnswer status → status_code status ≡ 2 → A
no_usage Done h e = absurd cc
no_usage SourceFault h e = absurd cc
no_usage CaseFailed h e = absurd cc
no_usage _ h e = absurd h

-- ---- the words

abbrev Prepared : Result Report Unread → Option Command → Option (List StoredFile) → Type 0 → Type 0
Prepared work command files rose = Prepares work (is_some command) statuses (IsDueFor command files) rose

abbrev IsOnly : Command → Option (List StoredFile) → Report → Type 0
IsOnly command files report = IfSome files (λ known. IsOnlyReport command.limits (wiki_of (files_of command.folder known)) report)

only_due : (command : Command) (files : Option (List StoredFile)) (report : Report) → IsOnly command files report → (due : Report) → IsDueFor (Some command) files due → due ≡ report
only_due command None report h due is = absurd is
only_due command (Some files) report h due is = only command.limits (wiki_of (files_of command.folder files)) report due h is

-- what a command's work came to
pub work_prepared : (words : List (List ℕ)) (files : Option (List StoredFile)) (rose : Type 0) (command : Command) (work : Result Report Unread) → Some command ≡ command_of words → IfOk work (λ report. IsOnly command files report) → IfOk work (λ report. IsAnswer report.status) → (work ≡ Err Failed → rose) → Prepares work (is_command words) statuses (IsDue words files) rose
work_prepared words files rose command (Ok report) e h a cause =
    subst (λ (o : Option Command). Prepared (Ok report) o files rose) e
    (only_due command files report h, among report.status a, uncut report.status a, (λ is. no_usage report.status a is), (λ no. absurd cc))
work_prepared words files rose command (Err Failed) e h a cause = subst (λ (o : Option Command). Prepared (Err Failed) o files rose) e (refl, cause refl)
work_prepared words files rose command (Err NoMemory) e h a cause = tt

pub work_has : (words : List (List ℕ)) (files : Option (List StoredFile)) (command : Command) (work : Result Report Unread) → Some command ≡ command_of words → IfOk work (λ report. IsOnly command files report) → IfOk work (λ report. HasDue words files)
work_has words files command (Ok report) e h = subst (λ (o : Option Command). HasDueFor o files) e (go files h)
  where
    go : (files : Option (List StoredFile)) → IsOnly command files report → HasDueFor (Some command) files
    go None h = tt
    go (Some files) h = (report, is_due command.limits (wiki_of (files_of command.folder files)) report h)
work_has words files command (Err m) e h = tt

-- what words came to that are no command
pub none_prepared : (words : List (List ℕ)) (files : Option (List StoredFile)) (rose : Type 0) (work : Result Report Unread) → None ≡ command_of words → IfOk work (λ report. report ≡ usage_report usage) → IfErr work (λ e. e ≡ NoMemory) → Prepares work (is_command words) statuses (IsDue words files) rose
none_prepared words files rose (Ok report) e h m =
    subst (λ (o : Option Command). Prepared (Ok report) o files rose) e
    (subst (λ (x : Report). Prepared (Ok x) None files rose) (sym h) ((λ due is. is), refl, refl, (λ h. refl), (λ h. refl)))
none_prepared words files rose (Err Failed) e h m = no_failure {P = (is_command words ≡ true) × rose} (Err Failed) m refl
none_prepared words files rose (Err NoMemory) e h m = tt

pub none_has : (words : List (List ℕ)) (files : Option (List StoredFile)) (work : Result Report Unread) → None ≡ command_of words → IfOk work (λ report. HasDue words files)
none_has words files (Ok report) e = subst (λ (o : Option Command). HasDueFor o files) e tt
none_has words files (Err m) e = tt
