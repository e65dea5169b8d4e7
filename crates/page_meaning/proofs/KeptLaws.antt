-- A load that completes comes to the same, at the same charge, wherever its charge and its height are covered; elsewhere it is spent.
use Rattle.std.proofs.Common.{◌≡◌, ℕ, zero, suc, true, ◌+◌, ◌-◌, ◌<◌, ◌≤◌, ◌⊎◌, inl, inr, List, [], Option, Some, None, refl, sym, ap, ◌∙◌, subst, arith}
use Rattle.wk_base.specs.declared.left.Left.{Left}
use Rattle.wk_base.specs.declared.title.Title.{Title}
use Rattle.wk_base.specs.Titles.{title_text}
use Rattle.page_run.specs.declared.which.Which.{Which}
use Rattle.page_run.specs.Outcome.{Outcome}
use Rattle.page_run.specs.State.{NoLoads, Load, moment_of, no_tally, Response, Gives, Exhausts, Reply, Replier, Moment, State as Middle, Ended, Spent, Asked, start}
use Rattle.page_run.specs.Perform.{size, perform, NoRise}
use Rattle.page_run.specs.Charges.{ReplyFits, RepliesFit, Fits}
use Rattle.page_run.proofs.FitLaws.{end_fits}
use Rattle.lua_meaning_laws.specs.MwFrameDeclaredQuestionAsk.{Ask}
use Rattle.lua_meaning_laws.specs.MwFrameDeclaredQuestionAskTheVariants.{Template, Preprocess, Data}
use Rattle.lua_meaning_laws.specs.LuaHeapValue.{Value}
use Rattle.lua_meaning_laws.specs.LuaMeaningWorld.{Module}
use Rattle.lua_meaning_laws.specs.LuaMeaningQuestions.{Answer}
use Rattle.lua_meaning_laws.specs.LuaMeaningActs.{Jump, State}
use Rattle.lua_meaning_laws.specs.LuaMeaningThings.{meaning_of}
use Rattle.lua_meaning_laws.specs.LuaMeaningHome.{home}
use Rattle.lua_meaning_laws.specs.LuaMeaningStart.{DataOf, run_of, end_of}
use Rattle.lua_meaning_laws.specs.Laws.{IsForData}
use Rattle.page_meaning.specs.Wiki.{Wiki, world}
use Rattle.page_meaning.specs.Told.{Seen, data_answer, completes, as_loaded, loaded}
use Rattle.page_meaning.specs.Drive.{Runs, data_reply, replies, drive_by, drive, load}
use Rattle.page_meaning.specs.Laws.{charge_of, height_of, LoadsAreCovered, KeptIsFresh, ShortIsSpent, KeptServes}
use Rattle.page_meaning.proofs.DriveLaws.{Calm, calm-replies, calm-drive, drive-is}
use Rattle.page_meaning.proofs.DataRuns.{data_run_same}

-- a load that completed, by its end and its charge
abbrev the_load : Outcome (List Value) Jump → Moment State → Title → ℕ → Left → Reply Answer
the_load o end title charge left = record { response = Gives (data_answer end.heap.heap (end_of o)); left = left; tally = as_loaded title charge true end.tally }

never : (l : Left) (r : Reply Answer) (charge height : ℕ) → (charge ≡ l.steps - r.left.steps) × (height ≡ r.tally.height) → r.tally.height ≤ l.calls → (l.steps < charge) ⊎ (l.calls < height) → ⊥
never l r charge height same covers (inl lt) = omega (arith, same.0, lt)
never l r charge height same covers (inr lt) = omega (arith, same.1, covers, lt)

module _ (wiki : Wiki) (page : Title) where
  -- replies to questions for data alone
  abbrev data_only : Runs → Replier Ask Answer
  data_only runs (Template scene title args) l = None
  data_only runs (Preprocess scene text) l = None
  data_only runs (Data title) l = Some (data_reply wiki page runs (wiki.modules title) title l)

  data_agrees : (runs : Runs) (question : Ask) → IsForData question → (l : Left) → replies wiki page runs question l ≡ data_only runs question l
  data_agrees runs (Template scene title args) data_ l = absurd data_
  data_agrees runs (Preprocess scene text) data_ l = absurd data_
  data_agrees runs (Data title) data_ l = refl

  data_calm : (runs : Runs) → Calm runs → NoRise (data_only runs)
  data_calm runs calm (Template scene title args) l r e = absurd cc
  data_calm runs calm (Preprocess scene text) l r e = absurd cc
  data_calm runs calm (Data title) l r e = calm-replies wiki page runs calm (Data title) l r e

  -- the run of a data module, with these replies
  abbrev data_run : Runs → Title → Middle State Answer → Seen
  data_run runs title s = perform (meaning_of (world wiki page)) (data_only runs) (run_of (world wiki page) (DataOf title)) s

  by_data : (n : ℕ) (title : Title) (l : Left) → drive_by wiki page (suc n) (DataOf title) l ≡ data_run (drive_by wiki page n) title (start home l [])
  by_data n title l = data_run_same (world wiki page) (replies wiki page (drive_by wiki page n)) (data_only (drive_by wiki page n)) (data_agrees (drive_by wiki page n)) title l

  drive_data : (title : Title) (l : Left) → drive wiki page (DataOf title) l ≡ data_run (drive wiki page) title (start home l [])
  drive_data title l =
      drive-is wiki page (DataOf title) l
      ∙ data_run_same (world wiki page) (replies wiki page (drive wiki page)) (data_only (drive wiki page)) (data_agrees (drive wiki page)) title l

  abbrev LoadFits : Title → Left → Reply Answer → Type 0
  LoadFits title now r = ReplyFits {Q = Ask} (Data title) now r (λ question l. Some (load wiki page title l))

  -- a load, from its run
  ended_fits : (title : Title) (now : Left) (o : Outcome (List Value) Jump) (end : Moment State) → Fits (data_run (drive wiki page) title) home now 0 no_tally o end → LoadFits title now (loaded title now (Ended o end))
  ended_fits title now o end f = record {
    falls = f.falls;
    keeps = omega (arith, f.keeps);
    covers = omega (arith, f.covers (omega arith));
    fits = λ l d i h.
        let same : l.steps - d ≡ now.steps - end.left.steps = omega (arith, f.falls) in
        let back : l.calls + 0 ≡ l.calls = omega arith in
        ap (λ e. Some (loaded title l e)) (drive_data title l ∙ f.fits l d i (omega arith))
        ∙ ap (λ c. Some (the_load o end title (l.steps - d) record l { steps = d; calls = c })) back
        ∙ ap (λ c. Some (the_load o end title c record l { steps = d })) same;
  }

  load_fits : (title : Title) (now : Left) (e : Seen) (a : Answer) → ((o : Outcome (List Value) Jump) (end : Moment State) → e ≡ Ended o end → Fits (data_run (drive wiki page) title) home now 0 no_tally o end) → (loaded title now e).response ≡ Gives a → LoadFits title now (loaded title now e)
  load_fits title now (Ended o end) a f h = ended_fits title now o end (f o end refl)
  load_fits title now (Spent which m) a f h = absurd cc
  load_fits title now (Asked question m) a f h = absurd cc

  answer_fits : (runs : Runs) → ((title : Title) (now : Left) (a : Answer) → (loaded title now (runs (DataOf title) now)).response ≡ Gives a → LoadFits title now (loaded title now (runs (DataOf title) now))) → (held : Option Module) (title : Title) (now : Left) (a : Answer) → (data_reply wiki page runs held title now).response ≡ Gives a → ReplyFits {Q = Ask} (Data title) now (data_reply wiki page runs held title now) (λ question l. Some (data_reply wiki page (drive wiki page) held title l))
  answer_fits runs h (Some m) title now a e =
      let f = h title now a e in
      record { falls = f.falls; keeps = f.keeps; covers = f.covers; fits = f.fits }
  answer_fits runs h None title now a e = record {
    falls = omega arith;
    keeps = refl;
    covers = omega arith;
    fits = λ l d i k.
        let same : l.steps ≡ d = omega arith in
        ap (λ n. Some (data_reply wiki page (drive wiki page) None title record l { steps = n })) same;
  }

  replies_fit : (runs : Runs) → ((title : Title) (now : Left) (a : Answer) → (loaded title now (runs (DataOf title) now)).response ≡ Gives a → LoadFits title now (loaded title now (runs (DataOf title) now))) → RepliesFit (data_only runs) (data_only (drive wiki page))
  replies_fit runs h (Template scene title args) now r a e i = absurd cc
  replies_fit runs h (Preprocess scene text) now r a e i = absurd cc
  replies_fit runs h (Data title) now r a e i =
      let same : data_reply wiki page runs (wiki.modules title) title now ≡ r = cc in
      let gives : (data_reply wiki page runs (wiki.modules title) title now).response ≡ Gives a = ap (λ (x : Reply Answer). x.response) same ∙ i in
      let f = answer_fits runs h (wiki.modules title) title now a gives in
      subst (λ x. ReplyFits (Data title) now x (data_only (drive wiki page))) same record { falls = f.falls; keeps = f.keeps; covers = f.covers; fits = f.fits }

  by_fits : (n : ℕ) (title : Title) (now : Left) (a : Answer) → (loaded title now (drive_by wiki page n (DataOf title) now)).response ≡ Gives a → LoadFits title now (loaded title now (drive_by wiki page n (DataOf title) now))
  by_fits zero title now a h = absurd cc
  by_fits (suc n) title now a h =
      load_fits title now (drive_by wiki page (suc n) (DataOf title) now) a (λ o end e. end_fits (meaning_of (world wiki page)) (λ v. v) (data_only (drive_by wiki page n)) (data_only (drive wiki page)) (data_calm (drive wiki page) (calm-drive wiki page)) (replies_fit (drive_by wiki page n) (by_fits n)) (run_of (world wiki page) (DataOf title)) home now 0 no_tally o end (sym (by_data n title now) ∙ e)) h

  fits : (title : Title) (now : Left) (a : Answer) → (load wiki page title now).response ≡ Gives a → LoadFits title now (load wiki page title now)
  unfolding drive
  fits title now a h = by_fits (suc (size now)) title now a h

  -- two loads that complete have one charge and one height
  one_charge : (title : Title) (now l : Left) (x y : Reply Answer) → LoadFits title now x → LoadFits title l y → (now.steps - x.left.steps ≡ l.steps - y.left.steps) × (x.tally.height ≡ y.tally.height)
  one_charge title now l x y f g =
      let both : Left = record l { steps = now.steps + l.steps; calls = now.calls + l.calls } in
      let d = now.steps + l.steps - (now.steps - x.left.steps) in
      let d' = now.steps + l.steps - (l.steps - y.left.steps) in
      let e = f.fits both d (omega (arith, f.falls)) (omega (arith, f.covers)) in
      let e' = g.fits both d' (omega (arith, g.falls)) (omega (arith, g.covers)) in
      let same : record x { left = record both { steps = d } } ≡ record y { left = record both { steps = d' } } = cc in
      let rest : d ≡ d' = ap (λ (r : Reply Answer). r.left.steps) same in
      (omega (arith, rest, f.falls, g.falls), ap (λ (r : Reply Answer). r.tally.height) same)

  short : (title : Title) (now : Left) (a : Answer) → (load wiki page title now).response ≡ Gives a → (l : Left) → (l.steps < charge_of wiki page title now) ⊎ (l.calls < height_of wiki page title now) → (x : Response Answer) → (load wiki page title l).response ≡ x → (which : Which) × ((load wiki page title l).response ≡ Exhausts which)
  short title now a h l few (Gives b) e =
      let f = fits title now a h in
      let g = fits title l b e in
      absurd (never l (load wiki page title l) (charge_of wiki page title now) (height_of wiki page title now) (one_charge title now l (load wiki page title now) (load wiki page title l) f g) g.covers few)
  short title now a h l few (Exhausts which) e = (which, e)

pub kept_is_fresh : KeptIsFresh
kept_is_fresh wiki page title now a h l steps calls =
    let f = fits wiki page title now a h in
    let rest = l.steps - charge_of wiki page title now in
    let e : Some (load wiki page title l) ≡ Some record (load wiki page title now) { left = record l { steps = rest } } = f.fits l rest (omega arith) calls in
    cc

pub loads_are_covered : LoadsAreCovered
loads_are_covered wiki page title now a h =
    let f = fits wiki page title now a h in
    record { steps = omega arith; calls = f.covers; left = ap (λ (r : Reply Answer). r.left) (kept_is_fresh wiki page title now a h now (omega arith) f.covers) }

pub short_is_spent : ShortIsSpent
short_is_spent wiki page title now a h l few = short wiki page title now a h l few (load wiki page title l).response refl

pub kept_serves : KeptServes
kept_serves wiki page title answer charge height k l steps calls =
    let paid : charge_of wiki page title k.now ≤ l.steps = omega (arith, k.charge_is) in
    let high : height_of wiki page title k.now ≤ l.calls = omega (arith, k.height_is) in
    let e = kept_is_fresh wiki page title k.now answer k.gives l paid high in
    let gives : (load wiki page title l).response ≡ Gives answer = ap (λ (r : Reply Answer). r.response) e ∙ k.gives in
    let rest : (load wiki page title l).left.steps ≡ l.steps - charge_of wiki page title k.now = ap (λ (r : Reply Answer). r.left.steps) e in
    let same : charge_of wiki page title l ≡ charge = omega (arith, k.charge_is) in
    record {
      gives = gives;
      left = ap (λ (r : Reply Answer). r.left) e ∙ ap (λ c. record l { steps = l.steps - c }) (sym k.charge_is);
      height_is = ap (λ (r : Reply Answer). r.tally.height) e ∙ sym k.height_is;
      nodes = (moment_of (drive wiki page (DataOf title) l)).tally.nodes;
      inner = (moment_of (drive wiki page (DataOf title) l)).tally.loads;
      loads =
          ap (λ c. Load (title_text title) c (moment_of (drive wiki page (DataOf title) l)).tally.nodes (completes (load wiki page title l).response) (moment_of (drive wiki page (DataOf title) l)).tally.loads NoLoads) same
          ∙ ap (λ x. Load (title_text title) charge (moment_of (drive wiki page (DataOf title) l)).tally.nodes (completes x) (moment_of (drive wiki page (DataOf title) l)).tally.loads NoLoads) gives;
    }
