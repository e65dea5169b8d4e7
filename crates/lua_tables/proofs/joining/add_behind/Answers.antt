use Rattle.std.proofs.Common.{refl, ◌++◌, subst}
use Rattle.lua_basic.specs.Seen.{values_seen, AllOf}
use Rattle.lua_basic.specs.LuaMeaningTableLibrary.{behind_parts}
use Rattle.lua_tables.proofs.Parts.{parts-more}
use Rattle.lua_tables.proofs.Listed.{none-left}
use Rattle.lua_tables.proofs.joining.add_behind.Goals as goal

pub parts-preserved : goal.parts-preserved
parts-preserved c =
    let s = c.args.store.now in
    let sep = c.args.separator.now in (
      (subst (AllOf s) c.in-Some.ensures c.parts.invariant.0).1,
      parts-more s.texts sep c.parts.text.items c.add_part.new.text.items (c.args.text.now.items ++ behind_parts sep (values_seen s.texts c.args.values.now)) c.parts.rest.now c.in-Some.more.now c.in-Some.value
          c.in-Some.ensures c.in_ok-add_part.ensures c.parts.invariant.1,
    )

pub returns : goal.returns
returns c =
    let s = c.args.store.now in
    let sep = c.args.separator.now in
    none-left (λ vs. behind_parts sep (values_seen s.texts vs)) c.parts.text.items (c.args.text.now.items ++ behind_parts sep (values_seen s.texts c.args.values.now)) c.parts.rest.now c.in_default.ensures refl c.parts.invariant.1
