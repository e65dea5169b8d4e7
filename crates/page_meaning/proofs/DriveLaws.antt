-- The runs inside a run have fewer steps, so a run with its questions answered is one run over the meaning itself.
use Rattle.std.proofs.Common.{◌≡◌, ℕ, zero, suc, ◌<◌, ◌≤◌, List, [], Option, Some, None, refl, sym, ap, ◌∙◌, subst, arith}
use Rattle.wk_base.specs.declared.left.Left.{Left}
use Rattle.wk_base.specs.declared.title.Title.{Title}
use Rattle.expand_meaning.specs.MwFrameDeclaredSceneArg.{Arg}
use Rattle.expand_meaning.specs.MwFrameDeclaredSceneScene.{Scene}
use Rattle.lua_meaning_laws.specs.MwFrameDeclaredQuestionAsk.{Ask}
use Rattle.lua_meaning_laws.specs.MwFrameDeclaredQuestionAskTheVariants.{Template, Preprocess, Data}
use Rattle.page_run.specs.Run.{Takes}
use Rattle.page_run.specs.State.{Replier, moment_of, start}
use Rattle.page_run.specs.Perform.{size, to_come, perform, NoRise}
use Rattle.page_run.proofs.Enough.{after_steps_agree, perform_agree, perform-Takes}
use Rattle.page_run.proofs.ChargeLaws.{nothing_rises}
use Rattle.expand_meaning.specs.WikiMarkupTrees.{Trees}
use Rattle.expand_meaning.specs.Expand.{thing_text}
use Rattle.expand_meaning.specs.Outcome.{Work as PageWork, Reading, Including, expansion}
use Rattle.lua_meaning_laws.specs.LuaMeaningWorld.{Module}
use Rattle.lua_meaning_laws.specs.LuaMeaningCharges.{run_charge}
use Rattle.lua_meaning_laws.specs.LuaMeaningQuestions.{Answer}
use Rattle.lua_meaning_laws.specs.LuaMeaningActs.{LuaRun}
use Rattle.lua_meaning_laws.specs.LuaMeaningThings.{meaning_of}
use Rattle.lua_meaning_laws.specs.LuaMeaningHome.{home}
use Rattle.lua_meaning_laws.specs.LuaMeaningStart.{Work, Invoke, DataOf, run_of}
use Rattle.page_meaning.specs.Wiki.{Wiki, setting, world, read}
use Rattle.page_meaning.specs.Told.{invoked, loaded, expanded}
use Rattle.page_meaning.specs.Drive.{Runs, invocation_reply, expansion_reply, template_reply, data_reply, reply, replies, one_run, drive_by, drive}
use Rattle.page_meaning.specs.Laws.{DriveIsOneRun, RepliesOnlyTake}

-- runs leave no more steps and nodes than there were
abbrev pub Calm : Runs → Type 0
Calm runs = (work : Work) (l : Left) → size (moment_of (runs work l)).left ≤ size l

-- runs that agree where at most so much is left
abbrev Agree : ℕ → Runs → Runs → Type 0
Agree k runs others = (work : Work) (l : Left) → size l ≤ k → runs work l ≡ others work l

module _ (wiki : Wiki) (page : Title) where
  -- NOTHING RISES
  module _ (runs : Runs) (calm : Calm runs) where
    pub calm-invocation : NoRise (invocation_reply wiki page runs)
    calm-invocation job l r e =
        let same : invoked (runs (Invoke job) l) ≡ r = cc in
        subst (λ x. size x.left ≤ size l) same (calm (Invoke job) l)

    calm-expansion : (work : PageWork) (l : Left) → size (expansion_reply wiki page runs work l).left ≤ size l
    calm-expansion work l = omega (arith, nothing_rises (thing_text (setting wiki page)) (invocation_reply wiki page runs) calm-invocation (expansion work) (start tt l []))

    calm-template : (held : Option Trees) (title : Title) (scene : Scene) (args : List Arg) (l : Left) → size (template_reply wiki page runs held title scene args l).left ≤ size l
    calm-template (Some trees) title scene args l = calm-expansion (Including trees title record scene { args = args }) l
    calm-template None title scene args l = omega arith

    calm-data : (held : Option Module) (title : Title) (l : Left) → size (data_reply wiki page runs held title l).left ≤ size l
    calm-data (Some m) title l = calm (DataOf title) l
    calm-data None title l = omega arith

    calm-reply : (question : Ask) (l : Left) → size (reply wiki page runs question l).left ≤ size l
    calm-reply (Template scene title args) l = calm-template (wiki.included title) title scene args l
    calm-reply (Preprocess scene text) l = calm-expansion (Reading (read text) scene) l
    calm-reply (Data title) l = calm-data (wiki.modules title) title l

    pub calm-replies : NoRise (replies wiki page runs)
    calm-replies question l r e =
        let same : reply wiki page runs question l ≡ r = cc in
        subst (λ x. size x.left ≤ size l) same (calm-reply question l)

    calm-one : Calm (one_run wiki page runs)
    calm-one work l = omega (arith, nothing_rises (meaning_of (world wiki page)) (replies wiki page runs) calm-replies (run_of (world wiki page) work) (start home l []))

  calm-by : (n : ℕ) → Calm (drive_by wiki page n)
  calm-by zero work l = omega arith
  calm-by (suc n) work l = calm-one (drive_by wiki page n) (calm-by n) work l

  pub calm-drive : Calm (drive wiki page)
  unfolding drive
  calm-drive work l = calm-by (suc (size l)) work l

  pub drive-replies : NoRise (replies wiki page (drive wiki page))
  drive-replies = calm-replies (drive wiki page) calm-drive

  pub drive-invocation : NoRise (invocation_reply wiki page (drive wiki page))
  drive-invocation = calm-invocation (drive wiki page) calm-drive

  -- AGREEMENT
  module _ (k : ℕ) (runs others : Runs) (calm : Calm runs) (agree : Agree k runs others) where
    expansions_agree : (work : PageWork) (l : Left) → size l ≤ k → expansion_reply wiki page runs work l ≡ expansion_reply wiki page others work l
    expansions_agree work l le =
        ap expanded (perform_agree (thing_text (setting wiki page)) (invocation_reply wiki page runs) (invocation_reply wiki page others) (calm-invocation runs calm) (expansion work) (start tt l []) (λ job now le'. ap (λ e. Some (invoked e)) (agree (Invoke job) now (omega arith))))

    templates_agree : (held : Option Trees) (title : Title) (scene : Scene) (args : List Arg) (l : Left) → size l ≤ k → template_reply wiki page runs held title scene args l ≡ template_reply wiki page others held title scene args l
    templates_agree (Some trees) title scene args l le = expansions_agree (Including trees title record scene { args = args }) l le
    templates_agree None title scene args l le = refl

    data_agree : (held : Option Module) (title : Title) (l : Left) → size l ≤ k → data_reply wiki page runs held title l ≡ data_reply wiki page others held title l
    data_agree (Some m) title l le = ap (loaded title l) (agree (DataOf title) l le)
    data_agree None title l le = refl

    replies_agree : (question : Ask) (l : Left) → size l ≤ k → replies wiki page runs question l ≡ replies wiki page others question l
    replies_agree (Template scene title args) l le = ap Some (templates_agree (wiki.included title) title scene args l le)
    replies_agree (Preprocess scene text) l le = ap Some (expansions_agree (Reading (read text) scene) l le)
    replies_agree (Data title) l le = ap Some (data_agree (wiki.modules title) title l le)

  -- after the charge of its start a run has fewer steps
  after_start : (p : LuaRun) (l : Left) (b b' : Replier Ask Answer) → NoRise b → NoRise b' → ((k : ℕ) → k < size l → (question : Ask) (now : Left) → size now ≤ k → b question now ≡ b' question now) → perform (meaning_of (world wiki page)) b (Takes run_charge p) (start home l []) ≡ perform (meaning_of (world wiki page)) b' (Takes run_charge p) (start home l [])
  after_start p l b b' nr nr' same =
      let meaning = meaning_of (world wiki page) in
      perform-Takes meaning b nr run_charge p (start home l [])
      ∙ after_steps_agree run_charge (start home l []) (perform meaning b p) (perform meaning b' p) (λ r e. perform_agree meaning b b' nr p (start home record l { steps = r } []) (same (to_come (start {A = Answer} home record l { steps = r } [])) (omega arith)))
      ∙ sym (perform-Takes meaning b' nr' run_charge p (start home l []))

  one_agree : (runs others : Runs) → Calm runs → Calm others → (work : Work) (l : Left) → ((k : ℕ) → k < size l → Agree k runs others) → one_run wiki page runs work l ≡ one_run wiki page others work l
  one_agree runs others calm calm' (Invoke job) l same =
      after_start _ l (replies wiki page runs) (replies wiki page others) (calm-replies runs calm) (calm-replies others calm') (λ k lt. replies_agree k runs others calm (same k lt))
  one_agree runs others calm calm' (DataOf title) l same =
      after_start _ l (replies wiki page runs) (replies wiki page others) (calm-replies runs calm) (calm-replies others calm') (λ k lt. replies_agree k runs others calm (same k lt))

  drive_enough : (k n m : ℕ) → k ≤ n → k ≤ m → (work : Work) (l : Left) → size l < k → drive_by wiki page n work l ≡ drive_by wiki page m work l
  drive_enough zero n m a b work l lt = absurd (omega arith)
  drive_enough (suc k) zero m a b work l lt = absurd (omega arith)
  drive_enough (suc k) (suc n) zero a b work l lt = absurd (omega arith)
  drive_enough (suc k) (suc n) (suc m) a b work l lt =
      one_agree (drive_by wiki page n) (drive_by wiki page m) (calm-by n) (calm-by m) work l (λ j lt' work' l' le. drive_enough k n m (omega arith) (omega arith) work' l' (omega arith))

  pub drive-is : (work : Work) (l : Left) → drive wiki page work l ≡ one_run wiki page (drive wiki page) work l
  unfolding drive
  drive-is work l =
      one_agree (drive_by wiki page (size l)) (drive wiki page) (calm-by (size l)) calm-drive work l (λ j lt work' l' le. drive_enough (suc (size l')) (size l) (suc (size l')) (omega arith) (omega arith) work' l' (omega arith))

pub drive_is_one_run : DriveIsOneRun
drive_is_one_run wiki page work l = drive-is wiki page work l

pub replies_only_take : RepliesOnlyTake
replies_only_take wiki page = (drive-replies wiki page, drive-invocation wiki page)
