use Rattle.std.proofs.Common.{rules, sym, subst, map}
use Rattle.std.specs.List.{AllByRecursion}
use Rattle.mw_html.specs.Render as spec
use Rattle.mw_html.specs.Sheet.{Leads}
use Rattle.lua_strings.specs.LuaStoreSeen.{seen_child, seen_node}
use Rattle.lua_strings.specs.LuaStoreParts.{IsChildOf}
use Rattle.mw_html_texts.proofs.Pieces.{leads_on, node_on}
use Rattle.mw_html_texts.proofs.levels.+levels.Goals as goal

pub node-returns : goal.node-returns
node-returns t c = node_on c.args.store.now.heap.markup c.args.room c.args.at.at (seen_node c.args.store.now.texts c.markup-here.result.now) c.args.sheet.now c.begin.new.self c.opening.new.sheet c.inside.new.sheet
    (search rules) (sym c.markup-here.ensures.node) c.begin.ensures c.in_ok-opening.ensures c.in_ok-inside.ensures

pub children-loop-next-preserved : goal.children-loop-next-preserved
children-loop-next-preserved t c =
    let s = c.args.store.now in
    let is = c.in-Some.ensures in (
      (subst (AllByRecursion (IsChildOf s)) is c.loop-next.invariant.0).1,
      λ u f. c.loop-next.invariant.1 u
          (subst (λ l. Leads c.loop-next.sheet u (spec.children (spec.node s.heap.markup c.args.room) (map (seen_child s.texts) l))) (sym is)
          (leads_on c.loop-next.sheet c.child.new.sheet u _ _ c.in_ok-child.ensures f)),
    )
