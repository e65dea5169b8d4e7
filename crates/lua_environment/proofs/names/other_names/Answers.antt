use Rattle.std.specs.Prelude.{codes}
use Rattle.lua_store.proofs.Later.{later-then}
use Rattle.lua_environment.proofs.Stays.{name-later}
use Rattle.lua_environment.proofs.names.other_names.Goals as goal

pub returns-clause-of : goal.returns-clause-of
returns-clause-of c =
    let s = c.name-5.new.store in
    let from_less = c.in_ok-at_most.ensures.later in
    let from_equal = later-then c.name-3.new.store c.name-4.new.store s c.in_ok-less.ensures.later from_less in
    let from_concatenate = later-then c.name-2.new.store c.name-3.new.store s c.in_ok-equal.ensures.later from_equal in
    let from_negate = later-then c.name.new.store c.name-2.new.store s c.in_ok-concatenate.ensures.later from_concatenate in record {
      negate = name-later c.name.new.store s c.in_ok-negate.negate (codes "__unm") from_negate c.in_ok-negate.ensures.of;
      concatenate = name-later c.name-2.new.store s c.in_ok-concatenate.concatenate (codes "__concat") from_concatenate c.in_ok-concatenate.ensures.of;
      equal = name-later c.name-3.new.store s c.in_ok-equal.equal (codes "__eq") from_equal c.in_ok-equal.ensures.of;
      less = name-later c.name-4.new.store s c.in_ok-less.less (codes "__lt") from_less c.in_ok-less.ensures.of;
      at_most = c.in_ok-at_most.ensures.of;
    }

pub returns-in_err-concatenate-clause-later : goal.returns-in_err-concatenate-clause-later
returns-in_err-concatenate-clause-later c = later-then c.args.store.now c.name.new.store c.name-2.new.store c.in_ok-negate.ensures.later c.in_err-concatenate.ensures.later

pub returns-in_err-equal-clause-later : goal.returns-in_err-equal-clause-later
returns-in_err-equal-clause-later c =
    let to_concatenate = later-then c.args.store.now c.name.new.store c.name-2.new.store c.in_ok-negate.ensures.later c.in_ok-concatenate.ensures.later in
    later-then c.args.store.now c.name-2.new.store c.name-3.new.store to_concatenate c.in_err-equal.ensures.later

pub returns-in_err-less-clause-later : goal.returns-in_err-less-clause-later
returns-in_err-less-clause-later c =
    let to_concatenate = later-then c.args.store.now c.name.new.store c.name-2.new.store c.in_ok-negate.ensures.later c.in_ok-concatenate.ensures.later in
    let to_equal = later-then c.args.store.now c.name-2.new.store c.name-3.new.store to_concatenate c.in_ok-equal.ensures.later in
    later-then c.args.store.now c.name-3.new.store c.name-4.new.store to_equal c.in_err-less.ensures.later

pub returns-in_err-at_most-clause-later : goal.returns-in_err-at_most-clause-later
returns-in_err-at_most-clause-later c =
    let to_concatenate = later-then c.args.store.now c.name.new.store c.name-2.new.store c.in_ok-negate.ensures.later c.in_ok-concatenate.ensures.later in
    let to_equal = later-then c.args.store.now c.name-2.new.store c.name-3.new.store to_concatenate c.in_ok-equal.ensures.later in
    let to_less = later-then c.args.store.now c.name-3.new.store c.name-4.new.store to_equal c.in_ok-less.ensures.later in
    later-then c.args.store.now c.name-4.new.store c.name-5.new.store to_less c.in_err-at_most.ensures.later

pub returns-clause-later : goal.returns-clause-later
returns-clause-later c =
    let to_concatenate = later-then c.args.store.now c.name.new.store c.name-2.new.store c.in_ok-negate.ensures.later c.in_ok-concatenate.ensures.later in
    let to_equal = later-then c.args.store.now c.name-2.new.store c.name-3.new.store to_concatenate c.in_ok-equal.ensures.later in
    let to_less = later-then c.args.store.now c.name-3.new.store c.name-4.new.store to_equal c.in_ok-less.ensures.later in
    later-then c.args.store.now c.name-4.new.store c.name-5.new.store to_less c.in_ok-at_most.ensures.later
