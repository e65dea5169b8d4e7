-- One report is due at most.
use Rattle.std.proofs.Common.{◌≡◌, ◌∙◌, ℕ, true, false, inl, inr, List, ◌∷◌, refl, sym, ap, subst}
use Rattle.std.specs.Prelude.{Option, Some, None, IfSome, IfOk, IfErr, is_some, Result, Ok, Err}
use Rattle.wk_tool.specs.WkBaseDeclaredTitleTitle.{Title}
use Rattle.wiki_lint.specs.WkShelfDeclaredFolderFolderPage.{FolderPage}
use Rattle.wk_tool.specs.WkShelfFiles.{StoredFile}
use Rattle.wk_tool.specs.WkShelfFolder.{files_of, wiki_of}
use Rattle.wk_tool.specs.WkBaseDeclaredNoMemory.{NoMemory as WantOfMemory}
use Rattle.lua_print.specs.LuaSyntaxDeclaredFaultFaultAt.{FaultAt}
use Rattle.lua_print.specs.LuaSyntaxDeclaredFaultSyntaxFaultTheVariants.{At}
use Rattle.lua_print.specs.Answers.{IsLayout}
use Rattle.lua_print.proofs.LuaParserLemmasAnsweredOnce.{one_fault, chunk_or_fault}
use Rattle.wk_tool.specs.declared.report.Report.{Report}
use Rattle.wk_tool.specs.declared.report.Status.{Status}
use Rattle.wk_tool.specs.declared.report.Status.TheVariants.{Done, NoSuchPage, SourceFault, SyntaxFault, CannotTell}
use Rattle.wk_tool.specs.declared.ending.Unread.{Unread}
use Rattle.wk_tool.specs.declared.ending.Unread.TheVariants.{Failed, NoMemory}
use Rattle.wk_tool.specs.Report.{status_code, usage_report, source_report, missing_report}
use Rattle.wk_tool.specs.Ending.{is_among, is_cut, Prepares}
use Rattle.wiki_fmt.specs.Command.{Command, command_of, is_command}
use Rattle.wiki_fmt.specs.declared.command.Verb.{Verb}
use Rattle.wiki_fmt.specs.declared.command.Verb.TheVariants.{Print, Lint}
use Rattle.wiki_lint.specs.Told.{tool, printed}
use Rattle.wiki_lint.specs.Linting.{IsLinted, IsToldStatus}
use Rattle.wiki_lint.proofs.LintLemmas.{one_told, status_told}
use Rattle.wiki_fmt.specs.Due.{usage, statuses, refused, IsTextReport, text_of, IsPageReport, IsGlobalsReport, IsLintReport, IsAsked, IsWikiReport, IsDueFor, IsDue, HasDueFor, HasDue, IsAnswer}

-- ---- a text, a page, a folder

one_text : (title : Title) (text : List ℕ) (r s : Report) → IsTextReport title text r → IsTextReport title text s → r ≡ s
one_text title text r s (inl (bytes, is, e)) (inl (others, are, f)) = e ∙ ap printed (is.1 ∙ sym are.1) ∙ sym f
one_text title text r s (inl (bytes, is, e)) (inr (fault, are, f)) = absurd (chunk_or_fault text is.0.0 fault is.0.1 are)
one_text title text r s (inr (fault, is, e)) (inl (bytes, are, f)) = absurd (chunk_or_fault text are.0.0 fault are.0.1 is)
one_text title text r s (inr (fault, is, e)) (inr (other, are, f)) = e ∙ ap (refused title) (one_fault text fault other is are) ∙ sym f

one_page : (title : Title) (text : Option (List ℕ)) (r s : Report) → IsPageReport title text r → IsPageReport title text s → r ≡ s
one_page title None r s h k = h ∙ sym k
one_page title (Some text) r s h k = one_text title text r s h k

-- what is told of globals
one_globals : (title : Title) (pages : List FolderPage) (text : List ℕ) (r s : Report) → IsGlobalsReport title pages text r → IsGlobalsReport title pages text s → r ≡ s
one_globals title pages text r s (inl x) (inl y) = one_told title pages r s x.1 y.1
one_globals title pages text r s (inl x) (inr (fault, y, f)) = absurd (chunk_or_fault text x.0.1.0 fault x.0.1.2 y)
one_globals title pages text r s (inr (fault, x, e)) (inl y) = absurd (chunk_or_fault text y.0.1.0 fault y.0.1.2 x)
one_globals title pages text r s (inr (fault, x, e)) (inr (other, y, f)) = e ∙ ap (refused title) (one_fault text fault other x y) ∙ sym f

one_lint : (title : Title) (pages : List FolderPage) (text : Option (List ℕ)) (r s : Report) → IsLintReport title pages text r → IsLintReport title pages text s → r ≡ s
one_lint title pages None r s h k = h ∙ sym k
one_lint title pages (Some text) r s h k = one_globals title pages text r s h k

one_asked : (verb : Verb) (title : Title) (pages : List FolderPage) (r s : Report) → IsAsked verb title pages r → IsAsked verb title pages s → r ≡ s
one_asked Print title pages r s h k = one_page title (text_of title pages) r s h k
one_asked Lint title pages r s h k = one_lint title pages (text_of title pages) r s h k

one_wiki : (verb : Verb) (title : Title) (wiki : Result (List FolderPage) (List ℕ)) (r s : Report) → IsWikiReport verb title wiki r → IsWikiReport verb title wiki s → r ≡ s
one_wiki verb title (Err fault) r s h k = h ∙ sym k
one_wiki verb title (Ok pages) r s h k = one_asked verb title pages r s h k

-- ---- what a text, a page and a folder give

module _ (title : Title) (r : Result Report WantOfMemory) where
  pub refused_text : (text : List ℕ) (fault : FaultAt) → IsLayout (Err (At fault)) text → IfOk r (λ report. report ≡ refused title fault) → IfOk r (λ report. IsTextReport title text report)
  refused_text text fault is h = go r h
    where
      go : (r : Result Report WantOfMemory) → IfOk r (λ report. report ≡ refused title fault) → IfOk r (λ report. IsTextReport title text report)
      go (Ok report) e = inr (fault, is, e)
      go (Err m) e = tt

  pub missing_page : (text : Option (List ℕ)) → None ≡ text → IfOk r (λ report. report ≡ missing_report tool title) → IfOk r (λ report. IsPageReport title text report)
  missing_page text e h = subst (λ (o : Option (List ℕ)). IfOk r (λ report. IsPageReport title o report)) e h

  pub held_page : (text : Option (List ℕ)) (bytes : List ℕ) → Some bytes ≡ text → IfOk r (λ report. IsTextReport title bytes report) → IfOk r (λ report. IsPageReport title text report)
  held_page text bytes e h = subst (λ (o : Option (List ℕ)). IfOk r (λ report. IsPageReport title o report)) e h

-- what is told of globals
told_answers : (status : Status) → IsToldStatus status → IsAnswer status
told_answers Done h = tt
told_answers CannotTell h = tt
told_answers _ h = absurd h

pub globals_answer : (title : Title) (pages : List FolderPage) (text : List ℕ) (report : Report) → IsLinted title pages text (Ok report) → IsAnswer report.status
globals_answer title pages text report h = told_answers report.status (status_told title pages report h.1)

pub refused_globals : (title : Title) (pages : List FolderPage) (text : List ℕ) (fault : FaultAt) (r : Result Report WantOfMemory) → IsLinted title pages text (Err (At fault)) → IfOk r (λ report. report ≡ refused title fault) → IfOk r (λ report. IsGlobalsReport title pages text report)
refused_globals title pages text fault (Ok report) is e = inr (fault, is, e)
refused_globals title pages text fault (Err m) is e = tt

module _ (title : Title) (pages : List FolderPage) (r : Result Report WantOfMemory) where
  pub missing_lint : (text : Option (List ℕ)) → None ≡ text → IfOk r (λ report. report ≡ missing_report tool title) → IfOk r (λ report. IsLintReport title pages text report)
  missing_lint text e h = subst (λ (o : Option (List ℕ)). IfOk r (λ report. IsLintReport title pages o report)) e h

  pub held_lint : (text : Option (List ℕ)) (bytes : List ℕ) → Some bytes ≡ text → IfOk r (λ report. IsGlobalsReport title pages bytes report) → IfOk r (λ report. IsLintReport title pages text report)
  held_lint text bytes e h = subst (λ (o : Option (List ℕ)). IfOk r (λ report. IsLintReport title pages o report)) e h

-- the status of such a report
pub status_of : (r : Result Report WantOfMemory) (due : Report) → IsAnswer due.status → IfOk r (λ report. report ≡ due) → IfOk r (λ report. IsAnswer report.status)
status_of (Ok report) due a e = subst (λ (x : Report). IsAnswer x.status) (sym e) a
status_of (Err m) due a e = tt

pub of_pages : (r : Result Report Unread) (verb : Verb) (title : Title) (pages : List FolderPage) (known : Option (List StoredFile)) (folder : List ℕ) → IfSome known (λ files. wiki_of (files_of folder files) ≡ Ok pages) → IfOk r (λ report. IsAsked verb title pages report) → IfOk r (λ report. IfSome known (λ files. IsWikiReport verb title (wiki_of (files_of folder files)) report))
of_pages (Err e) verb title pages known folder is h = tt
of_pages (Ok report) verb title pages None folder is h = tt
of_pages (Ok report) verb title pages (Some files) folder is h = subst (λ (w : Result (List FolderPage) (List ℕ)). IsWikiReport verb title w report) (sym is) h

pub of_fault : (r : Result Report Unread) (verb : Verb) (title : Title) (fault : List ℕ) (known : Option (List StoredFile)) (folder : List ℕ) → IfSome known (λ files. wiki_of (files_of folder files) ≡ Err fault) → IfOk r (λ report. report ≡ source_report tool fault) → IfOk r (λ report. IfSome known (λ files. IsWikiReport verb title (wiki_of (files_of folder files)) report))
of_fault (Err e) verb title fault known folder is h = tt
of_fault (Ok report) verb title fault None folder is h = tt
of_fault (Ok report) verb title fault (Some files) folder is h = subst (λ (w : Result (List FolderPage) (List ℕ)). IsWikiReport verb title w report) (sym is) h

-- a command as it is held, and as it is seen
pub at_view : (r : Result Report Unread) (known : Option (List StoredFile)) (verb : Verb) (folder : List ℕ) (title : Title) (command : Command) → record { verb = verb; folder = folder; title = title } ≡ command → IfOk r (λ report. IfSome known (λ files. IsWikiReport verb title (wiki_of (files_of folder files)) report)) → IfOk r (λ report. IfSome known (λ files. IsWikiReport command.verb command.title (wiki_of (files_of command.folder files)) report))
at_view r known verb folder title command e h = subst (λ (k : Command). IfOk r (λ report. IfSome known (λ files. IsWikiReport k.verb k.title (wiki_of (files_of k.folder files)) report))) e h

-- want of memory is no failed read
pub no_failure : {P : Type 0} (r : Result Report Unread) → IfErr r (λ e. e ≡ NoMemory) → r ≡ Err Failed → P
no_failure r h f = absurd (go (subst (λ (x : Result Report Unread). IfErr x (λ e. e ≡ NoMemory)) f h))
  where
    go : Failed ≡ NoMemory → ⊥
    go e = absurd cc

-- ---- the statuses of a command's report

among : (status : Status) → IsAnswer status → is_among (status_code status) (0 ∷ statuses) ≡ true
among Done h = refl
among NoSuchPage h = refl
among SourceFault h = refl
among SyntaxFault h = refl
among CannotTell h = refl
among _ h = absurd h

uncut : (status : Status) → IsAnswer status → is_cut (status_code status) ≡ false
uncut Done h = refl
uncut NoSuchPage h = refl
uncut SourceFault h = refl
uncut SyntaxFault h = refl
uncut CannotTell h = refl
uncut _ h = absurd h

no_usage : {A : Type 0} (status : Status) → IsAnswer status → status_code status ≡ 2 → A
no_usage Done h e = absurd cc
no_usage NoSuchPage h e = absurd cc
no_usage SourceFault h e = absurd cc
no_usage SyntaxFault h e = absurd cc
no_usage CannotTell h e = absurd cc
no_usage _ h e = absurd h

-- ---- the words

abbrev Prepared : Result Report Unread → Option Command → Option (List StoredFile) → Type 0 → Type 0
Prepared work command files rose = Prepares work (is_some command) statuses (IsDueFor command files) rose

only_due : (command : Command) (files : Option (List StoredFile)) (report : Report) → IfSome files (λ known. IsWikiReport command.verb command.title (wiki_of (files_of command.folder known)) report) → (due : Report) → IsDueFor (Some command) files due → due ≡ report
only_due command None report h due is = absurd is
only_due command (Some files) report h due is = one_wiki command.verb command.title (wiki_of (files_of command.folder files)) due report is h

pub usage_prepared : (words : List (List ℕ)) (files : Option (List StoredFile)) (rose : Type 0) (report : Report) → None ≡ command_of words → report ≡ usage_report usage → Prepares (Ok report) (is_command words) statuses (IsDue words files) rose
usage_prepared words files rose report e r =
    subst (λ (o : Option Command). Prepared (Ok report) o files rose) e
    (subst (λ (x : Report). Prepared (Ok x) None files rose) (sym r) ((λ due is. is), refl, refl, (λ h. refl), (λ h. refl)))

pub report_prepared : (words : List (List ℕ)) (files : Option (List StoredFile)) (rose : Type 0) (command : Command) (report : Report) → Some command ≡ command_of words → IfSome files (λ known. IsWikiReport command.verb command.title (wiki_of (files_of command.folder known)) report) → IsAnswer report.status → Prepares (Ok report) (is_command words) statuses (IsDue words files) rose
report_prepared words files rose command report e h a =
    subst (λ (o : Option Command). Prepared (Ok report) o files rose) e
    (only_due command files report h, among report.status a, uncut report.status a, (λ is. no_usage report.status a is), (λ no. absurd cc))

pub failed_prepared : (words : List (List ℕ)) (files : Option (List StoredFile)) (rose : Type 0) (command : Command) → Some command ≡ command_of words → rose → Prepares (Err Failed) (is_command words) statuses (IsDue words files) rose
failed_prepared words files rose command e h = subst (λ (o : Option Command). Prepared (Err Failed) o files rose) e (refl, h)

pub usage_has : (words : List (List ℕ)) (files : Option (List StoredFile)) → None ≡ command_of words → HasDue words files
usage_has words files e = subst (λ (o : Option Command). HasDueFor o files) e tt

pub report_has : (words : List (List ℕ)) (files : Option (List StoredFile)) (command : Command) (report : Report) → Some command ≡ command_of words → IfSome files (λ known. IsWikiReport command.verb command.title (wiki_of (files_of command.folder known)) report) → HasDue words files
report_has words files command report e h = subst (λ (o : Option Command). HasDueFor o files) e (go files h)
  where
    go : (files : Option (List StoredFile)) → IfSome files (λ known. IsWikiReport command.verb command.title (wiki_of (files_of command.folder known)) report) → HasDueFor (Some command) files
    go None h = tt
    go (Some files) h = (report, h)

-- what a command's work came to
pub work_prepared : (words : List (List ℕ)) (files : Option (List StoredFile)) (rose : Type 0) (command : Command) (work : Result Report Unread) → Some command ≡ command_of words → IfOk work (λ report. IfSome files (λ known. IsWikiReport command.verb command.title (wiki_of (files_of command.folder known)) report)) → IfOk work (λ report. IsAnswer report.status) → (work ≡ Err Failed → rose) → Prepares work (is_command words) statuses (IsDue words files) rose
work_prepared words files rose command (Ok report) e h a cause = report_prepared words files rose command report e h a
work_prepared words files rose command (Err Failed) e h a cause = failed_prepared words files rose command e (cause refl)
work_prepared words files rose command (Err NoMemory) e h a cause = tt

pub work_has : (words : List (List ℕ)) (files : Option (List StoredFile)) (command : Command) (work : Result Report Unread) → Some command ≡ command_of words → IfOk work (λ report. IfSome files (λ known. IsWikiReport command.verb command.title (wiki_of (files_of command.folder known)) report)) → IfOk work (λ report. HasDue words files)
work_has words files command (Ok report) e h = report_has words files command report e h
work_has words files command (Err m) e h = tt

-- what words came to that are no command
pub none_prepared : (words : List (List ℕ)) (files : Option (List StoredFile)) (rose : Type 0) (work : Result Report Unread) → None ≡ command_of words → IfOk work (λ report. report ≡ usage_report usage) → IfErr work (λ e. e ≡ NoMemory) → Prepares work (is_command words) statuses (IsDue words files) rose
none_prepared words files rose (Ok report) e h m = usage_prepared words files rose report e h
none_prepared words files rose (Err Failed) e h m = no_failure {P = (is_command words ≡ true) × rose} (Err Failed) m refl
none_prepared words files rose (Err NoMemory) e h m = tt

pub none_has : (words : List (List ℕ)) (files : Option (List StoredFile)) (work : Result Report Unread) → None ≡ command_of words → IfOk work (λ report. HasDue words files)
none_has words files (Ok report) e = usage_has words files e
none_has words files (Err m) e = tt
