use Rattle.std.proofs.Common.{chars, length, encode_utf8_all, sym, subst}
use Rattle.std.proofs.lemmas.Str.{encodes-chars}
use Rattle.unicode_normalization.specs.Forms.{normalize}
use Rattle.mw_ustrings.specs.Charges.{PaysInMemory}
use Rattle.mw_ustrings.proofs.Iterated.{decomposed_gives, composed_gives}
use Rattle.mw_ustrings.proofs.forms.pay_text.Goals as goal

pub returns-in-Nfd : goal.returns-in-Nfd
returns-in-Nfd c =
    let paid = c.pay_all.ensures _ (decomposed_gives _ _ _ _ _ _ (c.nfd.ensures.text _ (encodes-chars _ c.utf8.text))) in
    subst (λ form. PaysInMemory (length (encode_utf8_all (normalize form (chars c.args.text.now)))) c.args.left.now c.pay_all.new.left c.pay_all.result) (sym c.in-Nfd.is) paid

pub returns-in-Nfkd : goal.returns-in-Nfkd
returns-in-Nfkd c =
    let paid = c.pay_all-in-Nfkd.ensures _ (decomposed_gives _ _ _ _ _ _ (c.nfkd.ensures.text _ (encodes-chars _ c.utf8.text))) in
    subst (λ form. PaysInMemory (length (encode_utf8_all (normalize form (chars c.args.text.now)))) c.args.left.now c.pay_all-in-Nfkd.new.left c.pay_all-in-Nfkd.result) (sym c.in-Nfkd.is) paid

pub returns-in-Nfc : goal.returns-in-Nfc
returns-in-Nfc c =
    let paid = c.pay_all-in-Nfc.ensures _ (composed_gives _ _ _ _ _ _ (c.nfc.ensures.text _ (encodes-chars _ c.utf8.text))) in
    subst (λ form. PaysInMemory (length (encode_utf8_all (normalize form (chars c.args.text.now)))) c.args.left.now c.pay_all-in-Nfc.new.left c.pay_all-in-Nfc.result) (sym c.in-Nfc.is) paid

pub returns-in-Nfkc : goal.returns-in-Nfkc
returns-in-Nfkc c =
    let paid = c.pay_all-in-Nfkc.ensures _ (composed_gives _ _ _ _ _ _ (c.nfkc.ensures.text _ (encodes-chars _ c.utf8.text))) in
    subst (λ form. PaysInMemory (length (encode_utf8_all (normalize form (chars c.args.text.now)))) c.args.left.now c.pay_all-in-Nfkc.new.left c.pay_all-in-Nfkc.result) (sym c.in-Nfkc.is) paid
