-- The end of a run, and what a tool promises of it.
use Rattle.std.proofs.Common.{◌≡◌, ◌∙◌, ℕ, ◌==◌, Bool, true, false, ◌⊎◌, inl, inr, List, ◌∷◌, refl, sym, ap, subst, append-nil, true≢false}
use Rattle.std.specs.Prelude.{Option, Some, None, Result, Ok, Err, IfOk, OnOk, OnErr, is_ok, if◌then◌else◌, ◌||◌}
use Rattle.std.proofs.lemmas.Bool.{eq-eqb}
use Rattle.wk_shelf.specs.Put.{Puts, PutsSome}
use Rattle.wk_tool.specs.declared.report.Report.{Report}
use Rattle.wk_tool.specs.declared.ending.Unread.{Unread}
use Rattle.wk_tool.specs.declared.ending.Unread.TheVariants.{Failed, NoMemory}
use Rattle.wk_tool.specs.Report.{status_code}
use Rattle.wk_tool.specs.Ending.{is_among, is_cut, Answers, Begins, Completes, PutsReport, PutsReadLine, Finished, Prepares, KeepsDue}

-- ---- puts

-- the status behind a put
abbrev pub IsBehind : Bool → ℕ → ℕ → Type 0
IsBehind put code status = status ≡ (if put then code else 5)

pub behind : (put : Bool) (code status : ℕ) → IsBehind put code status → (status ≡ code) ⊎ (status ≡ 5)
behind true code status e = inl e
behind false code status e = inr e

-- nothing is a prefix of any piece
pub nothing : (old : Option (List ℕ)) (piece : List ℕ) → PutsSome old old piece
nothing None piece = (0, refl)
nothing (Some old) piece = (0, sym (append-nil old))

pub report_put : {T E : Type 0} (put : Result T E) (status : ℕ) (report : Report) (page message : List ℕ) (out_rose err_rose : Type 0) (out out' err err' : Option (List ℕ)) → IsBehind (is_ok put) (status_code report.status) status → page ≡ report.out → message ≡ report.err → OnOk put (Puts out out' page) → OnOk put (Puts err err' message) → PutsSome out out' page → PutsSome err err' message → OnErr put (out_rose ⊎ err_rose) → PutsReport out_rose err_rose out out' err err' status report
report_put (Ok x) status report page message out_rose err_rose out out' err err' e p m a b c d rose = record {
  ends = inl (record { status_is = e; out_is = subst (Puts out out') p a; err_is = subst (Puts err err') m b });
  out_begins = subst (PutsSome out out') p c;
  err_begins = subst (PutsSome err err') m d;
}
report_put (Err x) status report page message out_rose err_rose out out' err err' e p m a b c d rose = record {
  ends = inr (e, rose);
  out_begins = subst (PutsSome out out') p c;
  err_begins = subst (PutsSome err err') m d;
}

pub line_put : {T E : Type 0} (put : Result T E) (status : ℕ) (line : List ℕ) (err_rose : Type 0) (err err' : Option (List ℕ)) → IsBehind (is_ok put) 4 status → OnOk put (Puts err err' line) → PutsSome err err' line → OnErr put err_rose → PutsReadLine line err_rose err err' status
line_put (Ok x) status line err_rose err err' e a b rose = record { ends = inl (e, a); begins = b }
line_put (Err x) status line err_rose err err' e a b rose = record { ends = inr (e, rose); begins = b }

-- ---- statuses

-- One status is no other.
pub other : {A : Type 0} (status n m : ℕ) → status ≡ n → status ≡ m → (n == m) ≡ false → A
other status n m e f ne = absurd (true≢false (sym (ap (λ (k : ℕ). k == m) (sym e ∙ f) ∙ same m) ∙ ne))
  where
    same : (k : ℕ) → (k == k) ≡ true
    same k = eq-eqb k k refl

-- One that cuts short isn't one that doesn't.
pub uncut : {A : Type 0} (status n : ℕ) → status ≡ n → is_cut n ≡ true → is_cut status ≡ false → A
uncut status n e f g = absurd (true≢false (sym f ∙ ap is_cut (sym e) ∙ g))

among_more : (x a b c y : Bool) → (x || y) ≡ true → (x || (a || (b || (c || y)))) ≡ true
among_more true a b c y h = refl
among_more false true b c y h = refl
among_more false false true c y h = refl
among_more false false false true y h = refl
among_more false false false false y h = h

neither : (a b : Type 0) → (a → ⊥) → (b → ⊥) → a ⊎ b → ⊥
neither a b x y (inl h) = x h
neither a b x y (inr h) = y h

-- ---- what a tool promises

module _ (is_command : Bool) (statuses line : List ℕ) (Due : Report → Type 0) (read_rose out_same err_same out_rose err_rose : Type 0) (out out' err err' : Option (List ℕ)) (status : ℕ) where
  abbrev Kept : Type 0
  Kept = KeepsDue is_command statuses line Due read_rose out_same err_same out_rose err_rose out out' err err' status

  begun : (report due : Report) → due ≡ report → PutsReport out_rose err_rose out out' err err' status report → Begins read_rose line out out' err err' due
  begun report due e f = subst (Begins read_rose line out out' err err') (sym e) (record { out_begins = f.out_begins; err_begins = inl f.err_begins })

  whole_kept : (report : Report) → Prepares (Ok report) is_command statuses Due read_rose → PutsReport out_rose err_rose out out' err err' status report → Answers status out out' err err' report → Kept
  whole_kept report p f a =
      let code : ℕ = status_code report.status in
      let uncut_is : is_cut status ≡ false = ap is_cut a.status_is ∙ p.2 in
      record {
        answered = λ kept due is. subst (Answers status out out' err err') (sym (p.0 due is)) a;
        read_fault = λ e. uncut status 4 e refl uncut_is;
        write_fault = λ e. uncut status 5 e refl uncut_is;
        nothing_put = λ e. uncut status 6 e refl uncut_is;
        cut_off = λ e due is. begun report due (p.0 due is) f;
        no_other = ap (λ (n : ℕ). is_among n (0 ∷ 4 ∷ 5 ∷ 6 ∷ statuses)) a.status_is ∙ among_more (code == 0) (code == 4) (code == 5) (code == 6) (is_among code statuses) p.1;
        usage = λ e. p.3 (sym a.status_is ∙ e);
        no_command = λ no. inl (a.status_is ∙ p.4 no);
        complete = λ r o w due is. subst (Completes status) (sym (p.0 due is)) (inl a.status_is);
      }

  part_kept : (report : Report) → Prepares (Ok report) is_command statuses Due read_rose → PutsReport out_rose err_rose out out' err err' status report → status ≡ 5 → out_rose ⊎ err_rose → Kept
  part_kept report p f e rose = record {
    answered = λ kept. uncut status 5 e refl kept;
    read_fault = λ h. other status 5 4 e h refl;
    write_fault = λ h. rose;
    nothing_put = λ h. other status 5 6 e h refl;
    cut_off = λ h due is. begun report due (p.0 due is) f;
    no_other = ap (λ (n : ℕ). is_among n (0 ∷ 4 ∷ 5 ∷ 6 ∷ statuses)) e;
    usage = λ h. other status 5 2 e h refl;
    no_command = λ no. inr (inl e);
    complete = λ r o w. absurd (neither out_rose err_rose o w rose);
  }

  report_kept : (report : Report) → Prepares (Ok report) is_command statuses Due read_rose → PutsReport out_rose err_rose out out' err err' status report → Kept
  report_kept report p f = go f.ends
    where
      go : Answers status out out' err err' report ⊎ ((status ≡ 5) × (out_rose ⊎ err_rose)) → Kept
      go (inl a) = whole_kept report p f a
      go (inr b) = part_kept report p f b.0 b.1

  line_begun : out ≡ out' → read_rose → PutsSome err err' line → (due : Report) → Begins read_rose line out out' err err' due
  line_begun same rose h due = record { out_begins = subst (λ (o : Option (List ℕ)). PutsSome out o due.out) same (nothing out due.out); err_begins = inr (rose, h) }

  line_kept : out_same → out ≡ out' → is_command ≡ true → read_rose → PutsReadLine line err_rose err err' status → Kept
  line_kept untouched same command rose f = go f.ends
    where
      go : ((status ≡ 4) × Puts err err' line) ⊎ ((status ≡ 5) × err_rose) → Kept
      go (inl a) = record {
        answered = λ kept. uncut status 4 a.0 refl kept;
        read_fault = λ h. (command, rose, untouched, a.1);
        write_fault = λ h. other status 4 5 a.0 h refl;
        nothing_put = λ h. other status 4 6 a.0 h refl;
        cut_off = λ h due is. line_begun same rose f.begins due;
        no_other = ap (λ (n : ℕ). is_among n (0 ∷ 4 ∷ 5 ∷ 6 ∷ statuses)) a.0;
        usage = λ h. other status 4 2 a.0 h refl;
        no_command = λ no. absurd (true≢false (sym command ∙ no));
        complete = λ r o w. absurd (r rose);
      }
      go (inr b) = record {
        answered = λ kept. uncut status 5 b.0 refl kept;
        read_fault = λ h. other status 5 4 b.0 h refl;
        write_fault = λ h. inr b.1;
        nothing_put = λ h. other status 5 6 b.0 h refl;
        cut_off = λ h due is. line_begun same rose f.begins due;
        no_other = ap (λ (n : ℕ). is_among n (0 ∷ 4 ∷ 5 ∷ 6 ∷ statuses)) b.0;
        usage = λ h. other status 5 2 b.0 h refl;
        no_command = λ no. absurd (true≢false (sym command ∙ no));
        complete = λ r o w. absurd (r rose);
      }

  memory_kept : out_same → out ≡ out' → (err_same → err ≡ err') → (status ≡ 6) × err_same → Kept
  memory_kept untouched same same_err m = record {
    answered = λ kept. uncut status 6 m.0 refl kept;
    read_fault = λ h. other status 6 4 m.0 h refl;
    write_fault = λ h. other status 6 5 m.0 h refl;
    nothing_put = λ h. (untouched, m.1);
    cut_off = λ h due is. record {
      out_begins = subst (λ (o : Option (List ℕ)). PutsSome out o due.out) same (nothing out due.out);
      err_begins = inl (subst (λ (o : Option (List ℕ)). PutsSome err o due.err) (same_err m.1) (nothing err due.err));
    };
    no_other = ap (λ (n : ℕ). is_among n (0 ∷ 4 ∷ 5 ∷ 6 ∷ statuses)) m.0;
    usage = λ h. other status 6 2 m.0 h refl;
    no_command = λ no. inr (inr m.0);
    complete = λ r o w due is. inr m.0;
  }

  -- The end of a run keeps what is due.
  pub due_kept : (work : Result Report Unread) → (out_same → out ≡ out') → (err_same → err ≡ err') → Prepares work is_command statuses Due read_rose → Finished work line out_same err_same out_rose err_rose out out' err err' status → Kept
  due_kept (Ok report) same same_err p f = report_kept report p f
  due_kept (Err Failed) same same_err p f = line_kept f.0 (same f.0) p.0 p.1 f.1
  due_kept (Err NoMemory) same same_err p f = memory_kept f.0 (same f.0) same_err f.1

-- ---- what there is to be due

-- What comes with a report is there, unless the run was cut short.
pub ended_has : (work : Result Report Unread) (Has : Type 0) (line : List ℕ) (out_same err_same out_rose err_rose : Type 0) (out out' err err' : Option (List ℕ)) (status : ℕ) → IfOk work (λ report. Has) → Finished work line out_same err_same out_rose err_rose out out' err err' status → is_cut status ≡ false → Has
ended_has (Ok report) Has line out_same err_same out_rose err_rose out out' err err' status h f kept = h
ended_has (Err Failed) Has line out_same err_same out_rose err_rose out out' err err' status h f kept = go f.1.ends
  where
    go : ((status ≡ 4) × Puts err err' line) ⊎ ((status ≡ 5) × err_rose) → Has
    go (inl a) = uncut status 4 a.0 refl kept
    go (inr b) = uncut status 5 b.0 refl kept
ended_has (Err NoMemory) Has line out_same err_same out_rose err_rose out out' err err' status h f kept = uncut status 6 f.1.0 refl kept

-- After a put that failed it is there, or what was put is some of the line that a read failed.
pub cut_line : (work : Result Report Unread) (Has : Type 0) (is_command : Bool) (statuses : List ℕ) (Due : Report → Type 0) (read_rose : Type 0) (line : List ℕ) (out_same err_same out_rose err_rose : Type 0) (out out' err err' : Option (List ℕ)) (status : ℕ) → IfOk work (λ report. Has) → Prepares work is_command statuses Due read_rose → Finished work line out_same err_same out_rose err_rose out out' err err' status → status ≡ 5 → Has ⊎ (read_rose × out_same × PutsSome err err' line)
cut_line (Ok report) Has is_command statuses Due read_rose line out_same err_same out_rose err_rose out out' err err' status h p f e = inl h
cut_line (Err Failed) Has is_command statuses Due read_rose line out_same err_same out_rose err_rose out out' err err' status h p f e = inr (p.1, f.0, f.1.begins)
cut_line (Err NoMemory) Has is_command statuses Due read_rose line out_same err_same out_rose err_rose out out' err err' status h p f e = other status 6 5 f.1.0 e refl

pub cut_has : (work : Result Report Unread) (Has : Type 0) (is_command : Bool) (statuses : List ℕ) (Due : Report → Type 0) (read_rose : Type 0) (line : List ℕ) (out_same err_same out_rose err_rose : Type 0) (out out' err err' : Option (List ℕ)) (status : ℕ) → IfOk work (λ report. Has) → Prepares work is_command statuses Due read_rose → Finished work line out_same err_same out_rose err_rose out out' err err' status → status ≡ 5 → Has ⊎ read_rose
cut_has work Has is_command statuses Due read_rose line out_same err_same out_rose err_rose out out' err err' status h p f e = go (cut_line work Has is_command statuses Due read_rose line out_same err_same out_rose err_rose out out' err err' status h p f e)
  where
    go : Has ⊎ (read_rose × out_same × PutsSome err err' line) → Has ⊎ read_rose
    go (inl has) = inl has
    go (inr line) = inr line.0
