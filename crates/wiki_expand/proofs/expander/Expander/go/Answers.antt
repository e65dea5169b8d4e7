use Rattle.std.proofs.Common.{sym, subst}
use Rattle.wiki_expand.specs.Points.{wiki_setting, scene_in}
use Rattle.wiki_expand.specs.Standing.{AtIf, doing_point}
use Rattle.wiki_expand.proofs.StandingLaws.{at_focus, move_of, over_is}
use Rattle.wiki_expand.proofs.expander.Expander.go.Goals as goal

pub returns-clause-goes : goal.returns-clause-goes
returns-clause-goes c = λ work first given at.
    move_of c.args.self.now.wiki _ work first c.begin_focus.new.left c.next_move.new.left given c.in_ok-next.next c.next_move.new.self
    (at_focus (wiki_setting c.args.self.now.wiki) (doing_point c.replace-doing.result (wiki_setting c.args.self.now.wiki) c.args.self.now.machine.stack (scene_in c.args.self.now.machine.scene)) _ work first c.args.left.now c.begin_focus.new.left given
    (subst (λ d. AtIf (wiki_setting c.args.self.now.wiki) (doing_point d (wiki_setting c.args.self.now.wiki) c.args.self.now.machine.stack (scene_in c.args.self.now.machine.scene)) work first given c.args.left.now) (sym c.replace-doing.ensures.value) at)
    c.in_ok-focus.ensures.leads)
    c.in_ok-next.ensures.moves

pub returns-clause-after : goal.returns-clause-after
returns-clause-after c = over_is c.args.self.now.wiki _ c.begin_focus.new.left c.next_move.new.left c.in_ok-next.next c.next_move.new.self c.doing_after.result c.in_ok-next.ensures.moves c.doing_after.ensures
