use Rattle.std.proofs.Common.{◌∙◌, arith}
use Rattle.lua_store.proofs.Later.{later-then}
use Rattle.lua_environment.proofs.Stays.{name-later}
use Rattle.lua_environment.proofs.start.environment.Goals as goal

pub returns-clause-of : goal.returns-clause-of
returns-clause-of c =
    let s = c.other_names.new.store in
    let from_arithmetic = c.in_ok-others.ensures.later in
    let from_access = later-then c.access_names.new.store c.arithmetic_names.new.store s c.in_ok-arithmetic.ensures.later from_arithmetic in
    let from_tables = later-then c.fresh.new.store c.access_names.new.store s c.in_ok-access.ensures.later from_access in
    let access = c.in_ok-access.ensures.of in
    let arithmetic = c.in_ok-arithmetic.ensures.of in
    let others = c.in_ok-others.ensures.of in record {
      globals = omega (arith, c.in_ok-tables.ensures.of.globals, from_tables.tables);
      strings = omega (arith, c.in_ok-tables.ensures.of.strings, from_tables.tables);
      index = name-later c.access_names.new.store s c.in_ok-access.access.index _ from_access access.index;
      set_index = name-later c.access_names.new.store s c.in_ok-access.access.set_index _ from_access access.set_index;
      call = name-later c.access_names.new.store s c.in_ok-access.access.call _ from_access access.call;
      add = name-later c.arithmetic_names.new.store s c.in_ok-arithmetic.arithmetic.add _ from_arithmetic arithmetic.add;
      subtract = name-later c.arithmetic_names.new.store s c.in_ok-arithmetic.arithmetic.subtract _ from_arithmetic arithmetic.subtract;
      multiply = name-later c.arithmetic_names.new.store s c.in_ok-arithmetic.arithmetic.multiply _ from_arithmetic arithmetic.multiply;
      divide = name-later c.arithmetic_names.new.store s c.in_ok-arithmetic.arithmetic.divide _ from_arithmetic arithmetic.divide;
      modulo = name-later c.arithmetic_names.new.store s c.in_ok-arithmetic.arithmetic.modulo _ from_arithmetic arithmetic.modulo;
      power = name-later c.arithmetic_names.new.store s c.in_ok-arithmetic.arithmetic.power _ from_arithmetic arithmetic.power;
      negate = others.negate;
      concatenate = others.concatenate;
      equal = others.equal;
      less = others.less;
      at_most = others.at_most;
      to_string = name-later c.access_names.new.store s c.in_ok-access.access.to_string _ from_access access.to_string;
      pairs = name-later c.access_names.new.store s c.in_ok-access.access.pairs _ from_access access.pairs;
      ipairs = name-later c.access_names.new.store s c.in_ok-access.access.ipairs _ from_access access.ipairs;
    }

pub returns-clause-at : goal.returns-clause-at
returns-clause-at c = record { globals = c.in_ok-tables.ensures.at.globals; strings = c.in_ok-tables.ensures.at.strings }

pub returns-clause-made : goal.returns-clause-made
returns-clause-made c = c.in_ok-others.ensures.heap ∙ (c.in_ok-arithmetic.ensures.heap ∙ (c.in_ok-access.ensures.heap ∙ c.in_ok-tables.ensures.made))

pub returns-clause-later : goal.returns-clause-later
returns-clause-later c =
    let s = c.other_names.new.store in
    let from_access = later-then c.access_names.new.store c.arithmetic_names.new.store s c.in_ok-arithmetic.ensures.later c.in_ok-others.ensures.later in
    let from_tables = later-then c.fresh.new.store c.access_names.new.store s c.in_ok-access.ensures.later from_access in
    later-then c.args.store.now c.fresh.new.store s c.in_ok-tables.ensures.later from_tables

pub returns-in_err-access-clause-later : goal.returns-in_err-access-clause-later
returns-in_err-access-clause-later c = later-then c.args.store.now c.fresh.new.store c.access_names.new.store c.in_ok-tables.ensures.later c.in_err-access.ensures.later

pub returns-in_err-arithmetic-clause-later : goal.returns-in_err-arithmetic-clause-later
returns-in_err-arithmetic-clause-later c =
    let to_access = later-then c.args.store.now c.fresh.new.store c.access_names.new.store c.in_ok-tables.ensures.later c.in_ok-access.ensures.later in
    later-then c.args.store.now c.access_names.new.store c.arithmetic_names.new.store to_access c.in_err-arithmetic.ensures.later

pub returns-in_err-others-clause-later : goal.returns-in_err-others-clause-later
returns-in_err-others-clause-later c =
    let to_access = later-then c.args.store.now c.fresh.new.store c.access_names.new.store c.in_ok-tables.ensures.later c.in_ok-access.ensures.later in
    let to_arithmetic = later-then c.args.store.now c.access_names.new.store c.arithmetic_names.new.store to_access c.in_ok-arithmetic.ensures.later in
    later-then c.args.store.now c.arithmetic_names.new.store c.other_names.new.store to_arithmetic c.in_err-others.ensures.later
