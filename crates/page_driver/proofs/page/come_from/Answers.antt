use Rattle.std.proofs.Common.{ap, ◌∙◌}
use Rattle.page_meaning.specs.WkBaseDeclaredLeftLeft.{Left}
use Rattle.page_tasks.specs.WikiPagesPages.{direct_of, direct_in, find_page}
use Rattle.page_tasks.specs.PageGroundGround.{ground_of, page_of}
use Rattle.page_driver.specs.Page.{full_of}
use Rattle.page_driver.proofs.Whole.{numbers_none, starting_held, page_held, turns_held, paid_within}
use Rattle.page_driver.proofs.Drives.{held_has_trees}
use Rattle.page_driver.proofs.page.come_from.Goals as goal

pub drive-requires : goal.drive-requires
drive-requires g c =
    let w = ground_of c.args.around.now in
    let t = c.empty_tower-tower.ensures in
    starting_held w c.args.store.now c.full_left-left.result c.args.turns.now c.empty_tower-tower.result c.args.root t.stack t.keep t.repeat_charges (numbers_none c.args.store.now c.empty_tower-tower.result.numbers c.requires.fresh (t.numbers ∙ c.new-numbers.ensures)) c.full_left-left.ensures.fits
    (direct_in w.pages (page_of w)) (held_has_trees direct_of (find_page w.pages (page_of w)) c.requires.held) c.requires.root

pub returns-clause-page : goal.returns-clause-page
returns-clause-page g c = λ p title text left kept modules agree.
    let w = ground_of c.args.around.now in
    let t = c.empty_tower-tower.ensures in
    page_held w c.args.store.now c.full_left-left.result c.args.turns.now c.empty_tower-tower.result c.args.root t.stack t.keep t.repeat_charges (numbers_none c.args.store.now c.empty_tower-tower.result.numbers c.requires.fresh (t.numbers ∙ c.new-numbers.ensures)) c.full_left-left.ensures.fits
    c.drive.new.store c.drive.new.left c.drive.new.turns c.drive.new.tower c.in_ok-reply.reply c.in_ok-reply.ensures (direct_in w.pages (page_of w)) (held_has_trees direct_of (find_page w.pages (page_of w)) c.requires.held) c.requires.root modules agree
    p title text left kept (full_of c.args.limits.now) c.full_left-left.ensures.full

pub returns-clause-rises : goal.returns-clause-rises
returns-clause-rises g c =
    let w = ground_of c.args.around.now in
    let t = c.empty_tower-tower.ensures in
    (turns_held w c.args.store.now c.full_left-left.result c.args.turns.now c.empty_tower-tower.result c.args.root t.stack t.keep t.repeat_charges (numbers_none c.args.store.now c.empty_tower-tower.result.numbers c.requires.fresh (t.numbers ∙ c.new-numbers.ensures)) c.full_left-left.ensures.fits
    c.drive.new.store c.drive.new.left c.drive.new.turns c.drive.new.tower c.in_ok-reply.reply c.in_ok-reply.ensures (direct_in w.pages (page_of w)) (held_has_trees direct_of (find_page w.pages (page_of w)) c.requires.held) c.requires.root).0

pub returns-clause-paid : goal.returns-clause-paid
returns-clause-paid g c =
    let w = ground_of c.args.around.now in
    let t = c.empty_tower-tower.ensures in
    let k = turns_held w c.args.store.now c.full_left-left.result c.args.turns.now c.empty_tower-tower.result c.args.root t.stack t.keep t.repeat_charges (numbers_none c.args.store.now c.empty_tower-tower.result.numbers c.requires.fresh (t.numbers ∙ c.new-numbers.ensures)) c.full_left-left.ensures.fits
    c.drive.new.store c.drive.new.left c.drive.new.turns c.drive.new.tower c.in_ok-reply.reply c.in_ok-reply.ensures (direct_in w.pages (page_of w)) (held_has_trees direct_of (find_page w.pages (page_of w)) c.requires.held) c.requires.root in
    paid_within _ _ _ _ _ _ k.1 (ap (λ (l : Left). l.steps) c.full_left-left.ensures.full)
