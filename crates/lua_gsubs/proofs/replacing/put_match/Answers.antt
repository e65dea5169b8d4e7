use Rattle.std.proofs.Common.{◌∙◌, ap, refl, Err}
use Rattle.std.proofs.lemmas.Result.{err_from_is_err_and}
use Rattle.lua_replacing.specs.LuaStringWalk.{span}
use Rattle.mw_text.specs.LuaStringReplacements.{replaced_of}
use Rattle.lua_replacing.specs.LuaMeaningGsub.{filled_at, next_stand}
use Rattle.lua_replacing.specs.Seen.{stand_seen}
use Rattle.lua_gsubs.proofs.Filled.{filled_at_is, match_replaced, match_halted, match_no_memory}
use Rattle.lua_gsubs.proofs.replacing.put_match.Goals as goal

pub returns-in_err-put_filled-clause-replaced : goal.returns-in_err-put_filled-clause-replaced
returns-in_err-put_filled-clause-replaced g c =
    let a = g.A.Alphabet.letters in
    let k = stand_seen c.args.stand in
    let m = c.args.found.now in
    let q = err_from_is_err_and c.from_residual-in_err-put_filled.result c.from_residual-in_err-put_filled.ensures.1 in
    let texts = rw c.as_slice.ensures at c.in_ok-captures.ensures in
    let same = filled_at_is a c.args.s.now k c.args.replacement.now m c.in_ok-captures.captures texts in
    let halted = rw (c.span-between.ensures, c.span-whole.ensures, c.as_slice-2.ensures) at c.in_err-put_filled.ensures in
    rw (q.1 ∙ ap Err q.2) (match_halted _ (filled_at a c.args.s.now k c.args.replacement.now m) (span c.args.s.now c.args.far.now.copied m.start) c.put_filled.new.text.items m.end (next_stand a c.args.s.now k c.args.next) c.args.far.now _ c.args.left.now c.put_filled.new.left _ same halted)

pub returns-clause-replaced : goal.returns-clause-replaced
returns-clause-replaced g c =
    let a = g.A.Alphabet.letters in
    let k = stand_seen c.args.stand in
    let m = c.args.found.now in
    let texts = rw c.as_slice.ensures at c.in_ok-captures.ensures in
    let same = filled_at_is a c.args.s.now k c.args.replacement.now m c.in_ok-captures.captures texts in
    let filled = rw (c.span-between.ensures, c.span-whole.ensures, c.as_slice-2.ensures) at c.in_ok-put_filled.ensures in
    match_replaced _ (filled_at a c.args.s.now k c.args.replacement.now m) (span c.args.s.now c.args.far.now.copied m.start) m.end (next_stand a c.args.s.now k c.args.next) c.args.far.now _ c.args.left.now c.put_filled.new.left same filled refl c.in_ok-count.ensures c.in_ok-next.ensures.stand

pub returns-in_err-next-clause-replaced : goal.returns-in_err-next-clause-replaced
returns-in_err-next-clause-replaced g c =
    let a = g.A.Alphabet.letters in
    let k = stand_seen c.args.stand in
    let m = c.args.found.now in
    let q = err_from_is_err_and c.from_residual.result c.from_residual.ensures.1 in
    match_no_memory (filled_at a c.args.s.now k c.args.replacement.now m) (span c.args.s.now c.args.far.now.copied m.start) m.end (next_stand a c.args.s.now k c.args.next) c.args.far.now c.args.far.now c.args.left.now c.args.left.now c.from_residual.result (q.1 ∙ ap Err q.2)

pub returns-in_err-count-clause-replaced : goal.returns-in_err-count-clause-replaced
returns-in_err-count-clause-replaced g c =
    let a = g.A.Alphabet.letters in
    let k = stand_seen c.args.stand in
    let m = c.args.found.now in
    let q = err_from_is_err_and c.from_residual-in_err-count.result c.from_residual-in_err-count.ensures.1 in
    match_no_memory (filled_at a c.args.s.now k c.args.replacement.now m) (span c.args.s.now c.args.far.now.copied m.start) m.end (next_stand a c.args.s.now k c.args.next) c.args.far.now c.args.far.now c.args.left.now c.args.left.now c.from_residual-in_err-count.result (q.1 ∙ ap Err q.2)

pub returns-in_err-captures-clause-replaced : goal.returns-in_err-captures-clause-replaced
returns-in_err-captures-clause-replaced g c =
    let a = g.A.Alphabet.letters in
    let k = stand_seen c.args.stand in
    let m = c.args.found.now in
    let q = err_from_is_err_and c.from_residual-in_err-captures.result c.from_residual-in_err-captures.ensures.1 in
    match_no_memory (filled_at a c.args.s.now k c.args.replacement.now m) (span c.args.s.now c.args.far.now.copied m.start) m.end (next_stand a c.args.s.now k c.args.next) c.args.far.now c.args.far.now c.args.left.now c.args.left.now c.from_residual-in_err-captures.result (q.1 ∙ ap Err q.2)
