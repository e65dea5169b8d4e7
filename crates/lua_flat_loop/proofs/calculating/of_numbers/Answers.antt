use Rattle.std.proofs.Common.{◌≡◌, [], rules, w64, to_z, of_z}
use Rattle.lua_flat.specs.LuaHeapValue as kind
use Rattle.lua_code.specs.Seen.{operator_seen}
use Rattle.lua_code.specs.LuaSlotsOperators.{operate}
use Rattle.lua_flat_loop.proofs.calculating.of_numbers.Goals as goal

pub returns-in-Calculate-clause-gives : goal.returns-in-Calculate-clause-gives
returns-in-Calculate-clause-gives c = λ texts line s.
    let first : to_z w64 (of_z w64 c.args.a) ≡ c.args.a = search rules in
    let second : to_z w64 (of_z w64 c.args.b) ≡ c.args.b = search rules in
    let is = rw (first, second) at c.result_of.ensures in
    let told = c.number_of.ensures.gives texts line s in
    rw c.in-Calculate.is (rw is at told)

pub returns-in_default : goal.returns-in_default
returns-in_default c =
    let first : to_z w64 (of_z w64 c.args.a) ≡ c.args.a = search rules in
    let second : to_z w64 (of_z w64 c.args.b) ≡ c.args.b = search rules in
    let told = rw (first, second) at c.comparison.ensures in
    record {
      of = c.truth_of.ensures.of;
      gives = λ texts line s. c.truth_of.ensures.gives texts (operate (operator_seen c.args.op) (kind.Number c.args.a) (kind.Number c.args.b) line [] s) s (told line s);
    }
