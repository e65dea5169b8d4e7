use Rattle.std.proofs.Common.{◌≡◌, ◌<◌, ◌==◌, ◌-◌, false, length, ap, arith, [], ◌∷◌, ◌++◌, suc, sym, ◌∙◌}
use Rattle.lua_pattern.specs.Read.{set_body, parts_from}
use Rattle.lua_pattern.proofs.Parts.{parts_end, parts_cut, parts_more, parts_out}
use Rattle.lua_pattern.proofs.read.read_parts.Goals as goal

pub returns-in_default-head : goal.returns-in_default-head
returns-in_default-head c =
    parts_out (set_body c.args.text.now) c.parts.turns c.parts.rest.now c.parts.parts c.parts.invariant.same c.in_default-head.ensures

pub returns-then-symbol-eq93 : goal.returns-then-symbol-eq93
returns-then-symbol-eq93 c =
    let l : length c.parts.rest.now ≡ suc (length c.in-Some-head.after.now) = ap length c.in-Some-head.ensures in (
      parts_end (set_body c.args.text.now) c.parts.turns c.parts.rest.now c.in-Some-head.after.now c.parts.parts c.in-Some-head.symbol
          c.parts.invariant.same c.in-Some-head.ensures c.if-symbol-eq93.true c.parts.invariant.fuel,
      omega (arith, l, c.parts.invariant.room),
    )

pub returns-in_default-read_part : goal.returns-in_default-read_part
returns-in_default-read_part c =
    let ne : (c.in-Some-head.symbol == 93) ≡ false = grind (arith, c.if-symbol-eq93.false) in
    parts_cut (set_body c.args.text.now) c.parts.turns c.parts.rest.now c.in-Some-head.after.now c.parts.parts c.in-Some-head.symbol
    c.parts.invariant.same c.in-Some-head.ensures ne c.in_default-read_part.ensures

pub parts-preserved : goal.parts-preserved
parts-preserved c =
    let ne : (c.in-Some-head.symbol == 93) ≡ false = grind (arith, c.if-symbol-eq93.false) in
    let shorter : length c.in-Some-read_part.later.now < length c.parts.rest.now = c.in-Some-read_part.ensures.1 in
    let e : c.push-in-parts.new.self ≡ c.parts.parts ++ c.in-Some-read_part.part ∷ [] = c.in_ok-push-2.ensures.ok in
    record {
      same = parts_more (set_body c.args.text.now) c.parts.turns c.parts.rest.now c.in-Some-head.after.now c.in-Some-read_part.later.now c.parts.parts c.in-Some-head.symbol c.in-Some-read_part.part
          c.parts.invariant.same c.in-Some-head.ensures ne c.parts.invariant.fuel c.in-Some-read_part.ensures.0
          ∙ ap (λ ps. parts_from (c.parts.turns - 1) c.in-Some-read_part.later.now ps) (sym e);
      room = omega (arith, shorter, c.parts.invariant.room);
      fuel = omega (arith, shorter, c.parts.invariant.fuel);
    }
