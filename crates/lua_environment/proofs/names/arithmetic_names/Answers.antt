use Rattle.std.specs.Prelude.{codes}
use Rattle.lua_store.proofs.Later.{later-then}
use Rattle.lua_environment.proofs.Stays.{name-later}
use Rattle.lua_environment.proofs.names.arithmetic_names.Goals as goal

pub returns-clause-of : goal.returns-clause-of
returns-clause-of c =
    let s = c.name-6.new.store in
    let from_modulo = c.in_ok-power.ensures.later in
    let from_divide = later-then c.name-4.new.store c.name-5.new.store s c.in_ok-modulo.ensures.later from_modulo in
    let from_multiply = later-then c.name-3.new.store c.name-4.new.store s c.in_ok-divide.ensures.later from_divide in
    let from_subtract = later-then c.name-2.new.store c.name-3.new.store s c.in_ok-multiply.ensures.later from_multiply in
    let from_add = later-then c.name.new.store c.name-2.new.store s c.in_ok-subtract.ensures.later from_subtract in record {
      add = name-later c.name.new.store s c.in_ok-add.add (codes "__add") from_add c.in_ok-add.ensures.of;
      subtract = name-later c.name-2.new.store s c.in_ok-subtract.subtract (codes "__sub") from_subtract c.in_ok-subtract.ensures.of;
      multiply = name-later c.name-3.new.store s c.in_ok-multiply.multiply (codes "__mul") from_multiply c.in_ok-multiply.ensures.of;
      divide = name-later c.name-4.new.store s c.in_ok-divide.divide (codes "__div") from_divide c.in_ok-divide.ensures.of;
      modulo = name-later c.name-5.new.store s c.in_ok-modulo.modulo (codes "__mod") from_modulo c.in_ok-modulo.ensures.of;
      power = c.in_ok-power.ensures.of;
    }

pub returns-in_err-subtract-clause-later : goal.returns-in_err-subtract-clause-later
returns-in_err-subtract-clause-later c = later-then c.args.store.now c.name.new.store c.name-2.new.store c.in_ok-add.ensures.later c.in_err-subtract.ensures.later

pub returns-in_err-multiply-clause-later : goal.returns-in_err-multiply-clause-later
returns-in_err-multiply-clause-later c =
    let to_subtract = later-then c.args.store.now c.name.new.store c.name-2.new.store c.in_ok-add.ensures.later c.in_ok-subtract.ensures.later in
    later-then c.args.store.now c.name-2.new.store c.name-3.new.store to_subtract c.in_err-multiply.ensures.later

pub returns-in_err-divide-clause-later : goal.returns-in_err-divide-clause-later
returns-in_err-divide-clause-later c =
    let to_subtract = later-then c.args.store.now c.name.new.store c.name-2.new.store c.in_ok-add.ensures.later c.in_ok-subtract.ensures.later in
    let to_multiply = later-then c.args.store.now c.name-2.new.store c.name-3.new.store to_subtract c.in_ok-multiply.ensures.later in
    later-then c.args.store.now c.name-3.new.store c.name-4.new.store to_multiply c.in_err-divide.ensures.later

pub returns-in_err-modulo-clause-later : goal.returns-in_err-modulo-clause-later
returns-in_err-modulo-clause-later c =
    let to_subtract = later-then c.args.store.now c.name.new.store c.name-2.new.store c.in_ok-add.ensures.later c.in_ok-subtract.ensures.later in
    let to_multiply = later-then c.args.store.now c.name-2.new.store c.name-3.new.store to_subtract c.in_ok-multiply.ensures.later in
    let to_divide = later-then c.args.store.now c.name-3.new.store c.name-4.new.store to_multiply c.in_ok-divide.ensures.later in
    later-then c.args.store.now c.name-4.new.store c.name-5.new.store to_divide c.in_err-modulo.ensures.later

pub returns-in_err-power-clause-later : goal.returns-in_err-power-clause-later
returns-in_err-power-clause-later c =
    let to_subtract = later-then c.args.store.now c.name.new.store c.name-2.new.store c.in_ok-add.ensures.later c.in_ok-subtract.ensures.later in
    let to_multiply = later-then c.args.store.now c.name-2.new.store c.name-3.new.store to_subtract c.in_ok-multiply.ensures.later in
    let to_divide = later-then c.args.store.now c.name-3.new.store c.name-4.new.store to_multiply c.in_ok-divide.ensures.later in
    let to_modulo = later-then c.args.store.now c.name-4.new.store c.name-5.new.store to_divide c.in_ok-modulo.ensures.later in
    later-then c.args.store.now c.name-5.new.store c.name-6.new.store to_modulo c.in_err-power.ensures.later

pub returns-clause-later : goal.returns-clause-later
returns-clause-later c =
    let to_subtract = later-then c.args.store.now c.name.new.store c.name-2.new.store c.in_ok-add.ensures.later c.in_ok-subtract.ensures.later in
    let to_multiply = later-then c.args.store.now c.name-2.new.store c.name-3.new.store to_subtract c.in_ok-multiply.ensures.later in
    let to_divide = later-then c.args.store.now c.name-3.new.store c.name-4.new.store to_multiply c.in_ok-divide.ensures.later in
    let to_modulo = later-then c.args.store.now c.name-4.new.store c.name-5.new.store to_divide c.in_ok-modulo.ensures.later in
    later-then c.args.store.now c.name-5.new.store c.name-6.new.store to_modulo c.in_ok-power.ensures.later
