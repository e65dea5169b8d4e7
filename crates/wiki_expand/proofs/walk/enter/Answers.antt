use Rattle.std.proofs.Common.{◌∙◌}
use Rattle.wiki_expand.proofs.Moves.{not_opened_to, entered_to, no_level_to}
use Rattle.wiki_expand.proofs.walk.enter.Goals as goal

pub returns-then-not-take_node-clause-opens : goal.returns-then-not-take_node-clause-opens
returns-then-not-take_node-clause-opens c = λ w t m k e.
    not_opened_to w t k c.args.left.now c.take_node.new.left _ c.if-not-take_node.ensures.none c.if-not-take_node.ensures.same (c.in_ok-text.ensures ∙ c.node_text.ensures)

pub returns-then-enter_level-clause-opens : goal.returns-then-enter_level-clause-opens
returns-then-enter_level-clause-opens c = λ w t m k e.
    entered_to w t m k c.args.left.now c.take_node.new.left c.enter_level.new.left e c.if-not-take_node.ensures.enough c.if-not-take_node.ensures.taken c.if-enter_level.ensures.enough c.if-enter_level.ensures.entered

pub returns-clause-opens : goal.returns-clause-opens
returns-clause-opens c = λ w t m k e.
    no_level_to w t m k c.args.left.now c.take_node.new.left c.enter_level.new.left _ c.in_ok-text-2.text _ e c.if-not-take_node.ensures.enough c.if-not-take_node.ensures.taken c.if-enter_level.ensures.none c.if-enter_level.ensures.same (c.in_ok-text-2.ensures ∙ c.depth_text.ensures) (c.in_ok-text-3.ensures.leads w k)
