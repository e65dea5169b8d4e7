-- WHAT A RUN LEAVES on the two streams, and what a tool promises of it. A stream's bytes are known where its sink tells them.
use Rattle.std.specs.Prelude.{◌≡◌, ℕ, Bool, true, false, ◌==◌, List, [], ◌∷◌, Option, Result, Ok, Err, ◌⊎◌}
use Rattle.std.specs.List.{list_any}
use Rattle.wk_shelf.specs.Causes.{Rose}
use Rattle.wk_shelf.specs.Put.{Puts, PutsSome}
use Rattle.wk_tool.specs.declared.report.Report.{Report}
use Rattle.wk_tool.specs.declared.ending.Unread.{Unread}
use Rattle.wk_tool.specs.declared.ending.Unread.TheVariants.{Failed, NoMemory}
use Rattle.wk_tool.specs.Report.{status_code}

-- Whether a status is among these.
abbrev pub is_among : ℕ → List ℕ → Bool
is_among status statuses = list_any (λ n. status == n) statuses

-- A status that cuts a run short: 4 a read failed, 5 a put failed, 6 memory ran out.
abbrev pub is_cut : ℕ → Bool
is_cut status = is_among status (4 ∷ 5 ∷ 6 ∷ [])

-- ---- what is put

-- The status is that of the report, and each sink that tells its bytes holds what it held and then the bytes of the report.
pub record Answers (status : ℕ) (out_old out_new err_old err_new : Option (List ℕ)) (report : Report) : Type 0 where
  pub status_is : status ≡ status_code report.status
  pub out_is : Puts out_old out_new report.out
  pub err_is : Puts err_old err_new report.err

-- Each sink got a prefix of the bytes of the report; where a read failed, standard error may have one of its line instead.
pub record Begins (read_failed : Type 0) (read_line : List ℕ) (out_old out_new err_old err_new : Option (List ℕ)) (report : Report) : Type 0 where
  pub out_begins : PutsSome out_old out_new report.out
  pub err_begins : PutsSome err_old err_new report.err ⊎ (read_failed × PutsSome err_old err_new read_line)

-- The status is that of the report, or memory ran out.
abbrev pub Completes : ℕ → Report → Type 0
Completes status report = (status ≡ status_code report.status) ⊎ (status ≡ 6)

-- ---- the end of a run

-- A report was put, or a put of it failed.
pub record PutsReport (out_rose err_rose : Type 0) (out_old out_new err_old err_new : Option (List ℕ)) (status : ℕ) (report : Report) : Type 0 where
  pub ends : Answers status out_old out_new err_old err_new report ⊎ ((status ≡ 5) × (out_rose ⊎ err_rose))
  pub out_begins : PutsSome out_old out_new report.out
  pub err_begins : PutsSome err_old err_new report.err

-- The line that something can't be read was put, or the put of it failed.
pub record PutsReadLine (read_line : List ℕ) (err_rose : Type 0) (err_old err_new : Option (List ℕ)) (status : ℕ) : Type 0 where
  pub ends : ((status ≡ 4) × Puts err_old err_new read_line) ⊎ ((status ≡ 5) × err_rose)
  pub begins : PutsSome err_old err_new read_line

-- What is left on standard error where there is no report.
abbrev pub EndsUnread : Unread → List ℕ → Type 0 → Type 0 → Option (List ℕ) → Option (List ℕ) → ℕ → Type 0
EndsUnread Failed read_line err_same err_rose err_old err_new status = PutsReadLine read_line err_rose err_old err_new status
EndsUnread NoMemory read_line err_same err_rose err_old err_new status = (status ≡ 6) × err_same

-- WHAT IS LEFT by what the work on the words came to: the report; or standard output as it was.
abbrev pub Finished : Result Report Unread → List ℕ → Type 0 → Type 0 → Type 0 → Type 0 → Option (List ℕ) → Option (List ℕ) → Option (List ℕ) → Option (List ℕ) → ℕ → Type 0
Finished (Ok report) read_line out_same err_same out_rose err_rose out_old out_new err_old err_new status = PutsReport out_rose err_rose out_old out_new err_old err_new status report
Finished (Err unread) read_line out_same err_same out_rose err_rose out_old out_new err_old err_new status = out_same × EndsUnread unread read_line err_same err_rose err_old err_new status

-- ---- what a tool promises

-- What the work on the words came to: the one report that is due, with one of these statuses or 0; or a read failed, or memory ran out.
abbrev pub Prepares : Result Report Unread → Bool → List ℕ → (Report → Type 0) → Type 0 → Type 0
Prepares (Ok report) is_command statuses Due read_rose =
    ((due : Report) → Due due → due ≡ report) × (is_among (status_code report.status) (0 ∷ statuses) ≡ true) × (is_cut (status_code report.status) ≡ false)
    × (status_code report.status ≡ 2 → is_command ≡ false) × (is_command ≡ false → status_code report.status ≡ 2)
Prepares (Err Failed) is_command statuses Due read_rose = (is_command ≡ true) × read_rose
Prepares (Err NoMemory) is_command statuses Due read_rose = Unit {0}

-- WHAT IS DUE is a report, where it is known: the status and the bytes for both streams of a run without faults. `Due` says which reports
-- are due (one, or any where nothing is known), `statuses` which statuses they may have beside 0.
pub record KeepsDue (is_command : Bool) (statuses : List ℕ) (read_line : List ℕ) (Due : Report → Type 0) (read_rose out_same err_same out_rose err_rose : Type 0) (out_old out_new err_old err_new : Option (List ℕ)) (status : ℕ) : Type 0 where
  -- the whole of what is due, where nothing cut the run short
  pub answered : is_cut status ≡ false → (due : Report) → Due due → Answers status out_old out_new err_old err_new due
  -- 4: a read failed, and nothing but its line was put
  pub read_fault : status ≡ 4 → (is_command ≡ true) × read_rose × out_same × Puts err_old err_new read_line
  -- 5: a put failed
  pub write_fault : status ≡ 5 → out_rose ⊎ err_rose
  -- 6: memory ran out, and nothing was put
  pub nothing_put : status ≡ 6 → out_same × err_same
  -- after 5 and 6 each stream has a prefix of what is due
  pub cut_off : (status ≡ 5) ⊎ (status ≡ 6) → (due : Report) → Due due → Begins read_rose read_line out_old out_new err_old err_new due
  -- there is no other status; 2 says that the words are no command
  pub no_other : is_among status (0 ∷ 4 ∷ 5 ∷ 6 ∷ statuses) ≡ true
  pub usage : status ≡ 2 → is_command ≡ false
  pub no_command : is_command ≡ false → (status ≡ 2) ⊎ ((status ≡ 5) ⊎ (status ≡ 6))
  -- where no count of faults rose, the status is what is due, or 6
  pub complete : (read_rose → ⊥) → (out_rose → ⊥) → (err_rose → ⊥) → (due : Report) → Due due → Completes status due

-- ---- the same, of two streams

-- A STREAM from before a run until after it: whether its sink is as it was, whether it counted a fault, and its bytes, where they are known.
pub record Stream : Type 1 where
  pub same : Type 0
  pub rose : Type 0
  pub old : Option (List ℕ)
  pub new : Option (List ℕ)

abbrev pub stream : {S : Type 0} → (S → Option (List ℕ)) → (S → ℕ) → S → S → Stream
stream contents faults s t = record { same = t ≡ s; rose = Rose (faults s) (faults t); old = contents s; new = contents t }

abbrev pub KeepsDueOn : Bool → List ℕ → List ℕ → (Report → Type 0) → Type 0 → Stream → Stream → ℕ → Type 0
KeepsDueOn is_command statuses read_line Due read_rose out err status =
    KeepsDue is_command statuses read_line Due read_rose out.same err.same out.rose err.rose out.old out.new err.old err.new status
