use Rattle.std.proofs.Common.{◌≡◌, length, sym, ap, subst, rules}
use Rattle.lua_flat_code.specs.Making.{State, state_of}
use Rattle.lua_flat_code.specs.Parts.{CellsSaid}
use Rattle.lua_flat_code.proofs.OriginLaws.{cells_said}
use Rattle.lua_flat_code.proofs.maker.Maker.flags.Goals as goal

pub returns : goal.returns
returns c =
    let s : State = state_of c.args.self.now in
    let first : c.in_ok-first.first ≡ length s.cells = search rules in
    let count : c.in_ok-count.count ≡ length c.args.flags.now = search rules in
    subst (λ t. CellsSaid c.args.flags.now s t c.in_ok-first.first c.in_ok-count.count) (sym (ap (λ xs. record s { cells = xs }) c.in_ok-put_all.ensures)) (cells_said c.args.flags.now s c.in_ok-first.first c.in_ok-count.count first count)
