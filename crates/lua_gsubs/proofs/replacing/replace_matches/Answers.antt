use Rattle.std.proofs.Common.{◌≡◌, ◌∙◌, ◌-◌, ap, arith, Err}
use Rattle.std.specs.Option.{option_map}
use Rattle.std.proofs.lemmas.Result.{err_from_is_err_and}
use Rattle.lua_replacing.specs.Seen.{stand_seen}
use Rattle.lua_gsubs.proofs.Walked.{part_begins, part_stops, part_ends, part_steps}
use Rattle.lua_gsubs.proofs.replacing.replace_matches.Goals as goal

pub matches-init : goal.matches-init
matches-init g c =
    let p = c.args.pattern.now in
    let e = c.in_ok-far.ensures.nothing in (
      part_begins g.A.Alphabet.letters p.anchored p.items p.slots c.args.s.now c.args.replacement.now c.args.limit c.args.left.now c.in_ok-far.far (ap (λ f. f.text) e) (ap (λ f. f.copied) e) (ap (λ f. f.count) e) (ap (λ f. f.next) e),
      c.in_ok-far.ensures.within _,
    )

pub replace_next-requires : goal.replace_next-requires
replace_next-requires g c = let within = rw c.in-Some.is at c.matches.invariant.1 in within

pub matches-preserved : goal.matches-preserved
matches-preserved g c =
    let p = c.args.pattern.now in
    let part = rw c.in-Some.is at c.matches.invariant.0 in (
      c.in_ok-replace_next.ensures.part _ _ _ (part_steps g.A.Alphabet.letters p.anchored p.items p.slots c.args.s.now c.args.replacement.now _ c.args.left.now c.matches.left c.matches.far c.args.limit c.matches._turn _ c.matches-test.true part),
      c.in_ok-replace_next.ensures.within,
    )

pub returns-in_default : goal.returns-in_default
returns-in_default g c =
    let p = c.args.pattern.now in
    part_stops g.A.Alphabet.letters p.anchored p.items p.slots c.args.s.now c.args.replacement.now _ c.args.left.now c.matches.left c.matches.far _ (ap (option_map stand_seen) c.in_default.is) c.matches.invariant.0

pub returns-in_err-replace_next : goal.returns-in_err-replace_next
returns-in_err-replace_next g c =
    let p = c.args.pattern.now in
    let part = rw c.in-Some.is at c.matches.invariant.0 in
    let q = err_from_is_err_and c.from_residual-in_err-replace_next.result c.from_residual-in_err-replace_next.ensures.1 in
    rw (q.1 ∙ ap Err q.2) (c.in_err-replace_next.ensures.part _ _ _ (part_steps g.A.Alphabet.letters p.anchored p.items p.slots c.args.s.now c.args.replacement.now _ c.args.left.now c.matches.left c.matches.far c.args.limit c.matches._turn _ c.matches-test.true part))

pub returns : goal.returns
returns g c =
    let p = c.args.pattern.now in
    let none : c.args.limit - c.matches._turn ≡ 0 = omega (arith, c.matches-test.false) in
    part_ends g.A.Alphabet.letters p.anchored p.items p.slots c.args.s.now c.args.replacement.now _ c.args.left.now c.matches.left c.matches.far c.args.limit c.matches._turn none c.matches.invariant.0
