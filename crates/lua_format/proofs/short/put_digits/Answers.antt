use Rattle.std.proofs.Common.{arith, length-set, ◌∙◌, ◌-◌, ◌/◌, eq-eqb}
use Rattle.std.proofs.lemmas.Bool.{ne_eqb}
use Rattle.lua_format.proofs.Numerals.{digits_begin, digits_end, digits_go_on, digits_fit, digits_room}
use Rattle.lua_format.proofs.short.put_digits.Goals as goal

pub digits-init : goal.digits-init
digits-init c =
    (c.requires.whole, omega arith, omega arith, omega (arith, c.ranges.n.fits), digits_begin c.args.bytes.now c.args.n c.args.base c.args.upper c.requires.whole)

pub returns-then-left-eq0-clause-digits : goal.returns-then-left-eq0-clause-digits
returns-then-left-eq0-clause-digits c =
    digits_end c.digits.bytes c.digits.start c.args.base c.digits.left c.glyph.result c.args.n c.args.upper c.digits.invariant.0 c.digits.invariant.1 c.digits.invariant.2
    c.glyph.ensures (eq-eqb _ 0 c.if-left-eq0.true) c.digits.invariant.4

pub digits-preserved : goal.digits-preserved
digits-preserved c =
    let fits = digits_fit c.digits.start c.args.base c.digits.left c.digits.invariant.1 c.requires.low c.digits.invariant.3 in (
      length-set c.digits.bytes (c.digits.start - 1) c.glyph.result ∙ c.digits.invariant.0,
      digits_room c.digits.start (c.digits.left / c.args.base) c.digits.invariant.1 fits (ne_eqb _ 0 c.if-left-eq0.false),
      omega (arith, c.digits.invariant.2),
      fits,
      digits_go_on c.digits.bytes c.digits.start c.args.base c.digits.left c.glyph.result c.args.n c.args.upper c.digits.invariant.0 c.digits.invariant.1 c.digits.invariant.2
          c.glyph.ensures (ne_eqb _ 0 c.if-left-eq0.false) c.digits.invariant.4,
    )
