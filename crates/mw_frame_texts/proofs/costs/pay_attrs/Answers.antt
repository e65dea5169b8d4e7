use Rattle.std.proofs.Common.{length}
use Rattle.mw_frame_texts.specs.Written.{attrs_written}
use Rattle.mw_frame_texts.proofs.Sums.{attr-taken}
use Rattle.mw_frame_texts.proofs.costs.pay_attrs.Goals as goal

pub attrs-preserved : goal.attrs-preserved
attrs-preserved c =
    attr-taken c.args.left.now c.attrs.left c.pay_attr.new.left c.args.attrs.now c.attrs.attr-index c.attr-item.result (length (attrs_written c.args.attrs.now)) c.attrs-test.true c.attr-item.is c.attrs.invariant c.in_ok-pay_attr.ensures
