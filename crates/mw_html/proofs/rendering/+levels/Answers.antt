use Rattle.std.proofs.Common.{rules, sym, subst, length, map}
use Rattle.std.specs.List.{AllByRecursion}
use Rattle.mw_html.specs.Render as spec
use Rattle.mw_html.specs.Plain.{seen_child, seen_node, seen_nodes, IsChildOf}
use Rattle.mw_html.specs.Sheet.{Leads}
use Rattle.mw_html.proofs.Pieces.{leads_on}
use Rattle.mw_html.proofs.Nodes.{node_on}
use Rattle.mw_html.proofs.rendering.+levels.Goals as goal

pub node-returns : goal.node-returns
node-returns t c = node_on (seen_nodes c.args.texts.now c.args.nodes.now) c.args.room c.args.at (seen_node c.args.texts.now c.node_at-here.result.now) c.args.sheet.now c.begin.new.self c.opening.new.sheet c.inside.new.sheet
    (search rules) c.node_at-here.ensures.node c.begin.ensures c.in_ok-opening.ensures c.in_ok-inside.ensures

pub children-loop-next-preserved : goal.children-loop-next-preserved
children-loop-next-preserved t c =
    let is = c.in-Some.ensures in (
      (subst (AllByRecursion (IsChildOf (length c.args.nodes.now) (length c.args.texts.now))) is c.loop-next.invariant.0).1,
      λ u f. c.loop-next.invariant.1 u
          (subst (λ l. Leads c.loop-next.sheet u (spec.children (spec.node (seen_nodes c.args.texts.now c.args.nodes.now) c.args.room) (map (seen_child c.args.texts.now) l))) (sym is)
          (leads_on c.loop-next.sheet c.child.new.sheet u _ _ c.in_ok-child.ensures f)),
    )
