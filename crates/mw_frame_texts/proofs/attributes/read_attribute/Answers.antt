use Rattle.std.proofs.Common.{sym}
use Rattle.mw_frames.specs.LuaStoreSeen.{seen_entry}
use Rattle.mw_frames.specs.LuaBasicArguments.{text_bytes}
use Rattle.mw_frame_texts.specs.declared.attributes.AttrValue.TheVariants as value
use Rattle.mw_frame_texts.proofs.Reading.{passed, named, no_name, taken, left_out, refused}
use Rattle.mw_frame_texts.proofs.attributes.read_attribute.Goals as goal

pub returns-then-is_nil-clause-read : goal.returns-then-is_nil-clause-read
returns-then-is_nil-clause-read c = λ more. passed c.args.attrs.now (seen_entry c.args.store.now.texts c.args.entry) more (sym (c.if-is_nil.ensures c.args.store.now.texts))

pub returns-in_default-clause-read : goal.returns-in_default-clause-read
returns-in_default-clause-read c = λ more.
    let e = seen_entry c.args.store.now.texts c.args.entry in
    refused c.args.attrs.now e more _ (sym (c.if-is_nil.ensures c.args.store.now.texts)) (no_name e _ c.in_ok-name.ensures c.in_default.is)

pub returns-in_ok-push-in-With-clause-read : goal.returns-in_ok-push-in-With-clause-read
returns-in_ok-push-in-With-clause-read c = λ more.
    let e = seen_entry c.args.store.now.texts c.args.entry in
    let is = rw c.in-With.is at (c.in_ok-text.ensures (text_bytes c.in-Some.name)) in
    taken c.args.attrs.now c.push.new.self _ e more (sym (c.if-is_nil.ensures c.args.store.now.texts)) (named e c.in-Some.name _ (value.With c.in-With.text) c.in_ok-name.ensures c.in-Some.is is) c.in_ok-push-in-With.ensures.ok

pub returns-in_ok-push-in-Alone-clause-read : goal.returns-in_ok-push-in-Alone-clause-read
returns-in_ok-push-in-Alone-clause-read c = λ more.
    let e = seen_entry c.args.store.now.texts c.args.entry in
    let is = rw c.in-Alone.is at (c.in_ok-text.ensures (text_bytes c.in-Some.name)) in
    taken c.args.attrs.now c.push-in-Alone.new.self _ e more (sym (c.if-is_nil.ensures c.args.store.now.texts)) (named e c.in-Some.name _ value.Alone c.in_ok-name.ensures c.in-Some.is is) c.in_ok-push-in-Alone.ensures.ok

pub returns-in-Absent-clause-read : goal.returns-in-Absent-clause-read
returns-in-Absent-clause-read c = λ more.
    let e = seen_entry c.args.store.now.texts c.args.entry in
    let is = rw c.in-Absent.is at (c.in_ok-text.ensures (text_bytes c.in-Some.name)) in
    left_out c.args.attrs.now e more (sym (c.if-is_nil.ensures c.args.store.now.texts)) (named e c.in-Some.name _ value.Absent c.in_ok-name.ensures c.in-Some.is is)

pub returns-in-Refused-clause-read : goal.returns-in-Refused-clause-read
returns-in-Refused-clause-read c = λ more.
    let e = seen_entry c.args.store.now.texts c.args.entry in
    let is = rw c.in-Refused.is at (c.in_ok-text.ensures (text_bytes c.in-Some.name)) in
    refused c.args.attrs.now e more _ (sym (c.if-is_nil.ensures c.args.store.now.texts)) (named e c.in-Some.name _ value.Refused c.in_ok-name.ensures c.in-Some.is is)
