use Rattle.std.proofs.Common.{◌∙◌, ap, sym, refl}
use Rattle.wiki_markup.specs.WkBaseSpace.{trim}
use Rattle.expand_texts.specs.Ropes.{bytes_of}
use Rattle.wiki_pages.proofs.TableLaws.{part_valueless, part_valued, passed_falls}
use Rattle.wiki_pages.proofs.preparing.pass.Goals as goal

pub returns-in_ok-pass_valued-in-Valued-clause-right : goal.returns-in_ok-pass_valued-in-Valued-clause-right
returns-in_ok-pass_valued-in-Valued-clause-right c =
    let reads = rw c.in-Valued.is at c.in_ok-read_constant.ensures.reads in
    let within = rw c.in-Valued.is at c.in_ok-read_constant.ensures.within in
    part_valued c.args.part.now c.args.next.now c.args.table.now c.pass_valued.new.self (bytes_of c.in-Valued.name) c.trim.result.now c.requires.first c.requires.amid c.requires.end c.requires.falls reads.0 (c.trim.ensures ∙ ap trim c.as_slice.ensures)
    c.in-Valued.value (record { start = c.in-Valued.value.at; end = c.in-Valued.value.end }) reads.1 within.0 within.1 refl c.in_ok-pass_valued-in-Valued.ensures

pub returns-in_ok-pass_valued-in-Valued-clause-end : goal.returns-in_ok-pass_valued-in-Valued-clause-end
returns-in_ok-pass_valued-in-Valued-clause-end c = c.in_ok-pass_valued-in-Valued.ensures.end

pub returns-in_ok-pass_valued-in-Valued-clause-falls : goal.returns-in_ok-pass_valued-in-Valued-clause-falls
returns-in_ok-pass_valued-in-Valued-clause-falls c = λ passed. passed_falls c.args.part.now c.args.next.now c.args.table.now c.pass_valued.new.self c.trim.result.now _ _ c.in_ok-pass_valued-in-Valued.ensures refl c.requires.end c.requires.falls

pub returns-in_ok-pass_valueless-in-Valueless-clause-right : goal.returns-in_ok-pass_valueless-in-Valueless-clause-right
returns-in_ok-pass_valueless-in-Valueless-clause-right c =
    let reads = rw c.in-Valueless.is at c.in_ok-read_constant.ensures.reads in
    part_valueless c.args.part.now c.args.next.now c.args.table.now c.pass_valueless.new.self (bytes_of c.in-Valueless.name) c.trim-in-Valueless.result.now c.requires.first c.requires.amid c.requires.end c.requires.falls reads.0 (c.trim-in-Valueless.ensures ∙ ap trim c.as_slice-in-Valueless.ensures)
    reads.1 (sym c.in_ok-is_over-in-Valueless.ensures ∙ c.if-branch.false) c.in_ok-pass_valueless-in-Valueless.ensures

pub returns-in_ok-pass_valueless-in-Valueless-clause-end : goal.returns-in_ok-pass_valueless-in-Valueless-clause-end
returns-in_ok-pass_valueless-in-Valueless-clause-end c = c.in_ok-pass_valueless-in-Valueless.ensures.end

pub returns-in_ok-pass_valueless-in-Valueless-clause-falls : goal.returns-in_ok-pass_valueless-in-Valueless-clause-falls
returns-in_ok-pass_valueless-in-Valueless-clause-falls c = λ passed. passed_falls c.args.part.now c.args.next.now c.args.table.now c.pass_valueless.new.self c.trim-in-Valueless.result.now _ _ c.in_ok-pass_valueless-in-Valueless.ensures refl c.requires.end c.requires.falls
