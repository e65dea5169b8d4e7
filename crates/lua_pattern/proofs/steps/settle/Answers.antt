use Rattle.std.proofs.Common.{◌<◌, sym, ◌∙◌, ap, arith}
use Rattle.lua_pattern.proofs.Places.{step_down}
use Rattle.lua_pattern.proofs.steps.settle.Goals as goal

pub places-preserved : goal.places-preserved
places-preserved g c =
    let a = g.A.Alphabet.letters in
    let lt : c.args.low < c.places.place = c.places-test.true in
    record {
      above = omega (arith, lt);
      below = omega (arith, lt, c.places.invariant.below);
      same = λ rest marks. c.places.invariant.same rest marks
          ∙ step_down a c.args.subject.now c.args.low c.places.place rest marks lt
          (ap a.starts (sym c.text_from.ensures) ∙ sym c.starts.ensures ∙ c.if-starts.false);
    }
