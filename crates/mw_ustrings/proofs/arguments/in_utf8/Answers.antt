use Rattle.std.proofs.Common.{◌∙◌, ap, sym}
use Rattle.std.specs.Str.{is_utf8}
use Rattle.std.proofs.lemmas.Str.{IsUtf8-from_is_utf8}
use Rattle.mw_frame_texts.specs.LuaBasicArguments.{text_bytes}
use Rattle.mw_frame_texts.proofs.LuaBasicFound.{refused}
use Rattle.mw_ustrings.proofs.ReadArguments.{is_in_utf8, not_in_utf8}
use Rattle.mw_ustrings.proofs.arguments.in_utf8.Goals as goal

pub returns-then-is_utf8-clause-found : goal.returns-then-is_utf8-clause-found
returns-then-is_utf8-clause-found c = is_in_utf8 c.args.n c.args.function.now (text_bytes c.args.text) (ap is_utf8 (sym c.as_slice.ensures) ∙ sym c.if-is_utf8.ensures)

pub returns-then-is_utf8-clause-utf8 : goal.returns-then-is_utf8-clause-utf8
returns-then-is_utf8-clause-utf8 c = IsUtf8-from_is_utf8 _ (ap is_utf8 (sym c.as_slice.ensures) ∙ sym c.if-is_utf8.ensures)

pub returns-clause-refused : goal.returns-clause-refused
returns-clause-refused c =
    refused _ _ c.args.store.now c.refuse.new.store c.refuse.result (not_in_utf8 c.args.n c.args.function.now (text_bytes c.args.text) (ap is_utf8 (sym c.as_slice.ensures) ∙ sym c.if-is_utf8.ensures)) c.refuse.ensures.raises
