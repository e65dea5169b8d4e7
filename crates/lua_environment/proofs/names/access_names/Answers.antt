use Rattle.std.specs.Prelude.{codes}
use Rattle.lua_store.proofs.Later.{later-then}
use Rattle.lua_environment.proofs.Stays.{name-later}
use Rattle.lua_environment.proofs.names.access_names.Goals as goal

pub returns-clause-of : goal.returns-clause-of
returns-clause-of c =
    let s = c.name-6.new.store in
    let from_pairs = c.in_ok-ipairs.ensures.later in
    let from_to_string = later-then c.name-4.new.store c.name-5.new.store s c.in_ok-pairs.ensures.later from_pairs in
    let from_call = later-then c.name-3.new.store c.name-4.new.store s c.in_ok-to_string.ensures.later from_to_string in
    let from_set_index = later-then c.name-2.new.store c.name-3.new.store s c.in_ok-call.ensures.later from_call in
    let from_index = later-then c.name.new.store c.name-2.new.store s c.in_ok-set_index.ensures.later from_set_index in record {
      index = name-later c.name.new.store s c.in_ok-index.index (codes "__index") from_index c.in_ok-index.ensures.of;
      set_index = name-later c.name-2.new.store s c.in_ok-set_index.set_index (codes "__newindex") from_set_index c.in_ok-set_index.ensures.of;
      call = name-later c.name-3.new.store s c.in_ok-call.call (codes "__call") from_call c.in_ok-call.ensures.of;
      to_string = name-later c.name-4.new.store s c.in_ok-to_string.to_string (codes "__tostring") from_to_string c.in_ok-to_string.ensures.of;
      pairs = name-later c.name-5.new.store s c.in_ok-pairs.pairs (codes "__pairs") from_pairs c.in_ok-pairs.ensures.of;
      ipairs = c.in_ok-ipairs.ensures.of;
    }

pub returns-in_err-set_index-clause-later : goal.returns-in_err-set_index-clause-later
returns-in_err-set_index-clause-later c = later-then c.args.store.now c.name.new.store c.name-2.new.store c.in_ok-index.ensures.later c.in_err-set_index.ensures.later

pub returns-in_err-call-clause-later : goal.returns-in_err-call-clause-later
returns-in_err-call-clause-later c =
    let to_set_index = later-then c.args.store.now c.name.new.store c.name-2.new.store c.in_ok-index.ensures.later c.in_ok-set_index.ensures.later in
    later-then c.args.store.now c.name-2.new.store c.name-3.new.store to_set_index c.in_err-call.ensures.later

pub returns-in_err-to_string-clause-later : goal.returns-in_err-to_string-clause-later
returns-in_err-to_string-clause-later c =
    let to_set_index = later-then c.args.store.now c.name.new.store c.name-2.new.store c.in_ok-index.ensures.later c.in_ok-set_index.ensures.later in
    let to_call = later-then c.args.store.now c.name-2.new.store c.name-3.new.store to_set_index c.in_ok-call.ensures.later in
    later-then c.args.store.now c.name-3.new.store c.name-4.new.store to_call c.in_err-to_string.ensures.later

pub returns-in_err-pairs-clause-later : goal.returns-in_err-pairs-clause-later
returns-in_err-pairs-clause-later c =
    let to_set_index = later-then c.args.store.now c.name.new.store c.name-2.new.store c.in_ok-index.ensures.later c.in_ok-set_index.ensures.later in
    let to_call = later-then c.args.store.now c.name-2.new.store c.name-3.new.store to_set_index c.in_ok-call.ensures.later in
    let to_to_string = later-then c.args.store.now c.name-3.new.store c.name-4.new.store to_call c.in_ok-to_string.ensures.later in
    later-then c.args.store.now c.name-4.new.store c.name-5.new.store to_to_string c.in_err-pairs.ensures.later

pub returns-in_err-ipairs-clause-later : goal.returns-in_err-ipairs-clause-later
returns-in_err-ipairs-clause-later c =
    let to_set_index = later-then c.args.store.now c.name.new.store c.name-2.new.store c.in_ok-index.ensures.later c.in_ok-set_index.ensures.later in
    let to_call = later-then c.args.store.now c.name-2.new.store c.name-3.new.store to_set_index c.in_ok-call.ensures.later in
    let to_to_string = later-then c.args.store.now c.name-3.new.store c.name-4.new.store to_call c.in_ok-to_string.ensures.later in
    let to_pairs = later-then c.args.store.now c.name-4.new.store c.name-5.new.store to_to_string c.in_ok-pairs.ensures.later in
    later-then c.args.store.now c.name-5.new.store c.name-6.new.store to_pairs c.in_err-ipairs.ensures.later

pub returns-clause-later : goal.returns-clause-later
returns-clause-later c =
    let to_set_index = later-then c.args.store.now c.name.new.store c.name-2.new.store c.in_ok-index.ensures.later c.in_ok-set_index.ensures.later in
    let to_call = later-then c.args.store.now c.name-2.new.store c.name-3.new.store to_set_index c.in_ok-call.ensures.later in
    let to_to_string = later-then c.args.store.now c.name-3.new.store c.name-4.new.store to_call c.in_ok-to_string.ensures.later in
    let to_pairs = later-then c.args.store.now c.name-4.new.store c.name-5.new.store to_to_string c.in_ok-pairs.ensures.later in
    later-then c.args.store.now c.name-5.new.store c.name-6.new.store to_pairs c.in_ok-ipairs.ensures.later
