use Rattle.std.proofs.Common.{◌∙◌, sym, refl}
use Rattle.page_ground.proofs.KeepLaws.{kept_stays, kept_behind, copied_some, copied_none}
use Rattle.page_ground.proofs.keep.keep_first.Goals as goal

pub keep-requires : goal.keep-requires
keep-requires c = record { fresh = copied_none _ _ c.find.ensures (sym c.is_some-found.ensures ∙ c.if-found.false) }

pub returns-then-found : goal.returns-then-found
returns-then-found c = kept_stays c.args.keep.now c.args.title c.args.kept _ refl (copied_some _ _ c.find.ensures (sym c.is_some-found.ensures ∙ c.if-found.true))

pub returns : goal.returns
returns c = c.in_ok-keep.ensures.ok ∙ kept_behind c.args.keep.now c.args.title c.args.kept (copied_none _ _ c.find.ensures (sym c.is_some-found.ensures ∙ c.if-found.false))
