use Rattle.std.proofs.Common.{◌∙◌, ◌++◌, ap, subst, sym, append_assoc}
use Rattle.mw_frame_texts.specs.LuaStoreSeen.{seen}
use Rattle.mw_frame_texts.specs.LuaBasicSeen.{values_seen, AllOf}
use Rattle.mw_ustrings.specs.CodePoints.{point_bytes, points_bytes}
use Rattle.mw_ustrings.proofs.char_of.the_text.Goals as goal

pub each-preserved : goal.each-preserved
each-preserved c =
    let s = c.args.store.now in
    let more = points_bytes (values_seen s.texts c.in-Some.more.now) in
    let point = point_bytes (seen s.texts c.in-Some.value) in
    let all = subst (AllOf s) c.in-Some.ensures c.each.invariant.0 in (
      all.1,
      ap (λ bytes. bytes ++ more) c.in_ok-put_value.ensures ∙ append_assoc c.each.made.items point more
          ∙ sym (ap (λ vs. c.each.made.items ++ points_bytes (values_seen s.texts vs)) c.in-Some.ensures) ∙ c.each.invariant.1,
    )
