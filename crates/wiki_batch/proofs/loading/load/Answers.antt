use Rattle.std.proofs.Common.{◌∙◌, ap}
use Rattle.wiki_texts.specs.Pages.{page_map}
use Rattle.wiki_texts.proofs.MeaningLaws.{there_are}
use Rattle.wiki_batch.proofs.Meanings.{agrees, holds}
use Rattle.wiki_batch.proofs.loading.load.Goals as goal

pub returns-clause-has_each_module : goal.returns-clause-has_each_module
returns-clause-has_each_module g c = holds c.args.pages c.in_ok-map.map c.in_ok-map.modules (c.in_ok-map.ensures.pages ∙ ap page_map c.as_slice-texts.ensures) (rw c.as_slice-texts.ensures at c.in_ok-map.ensures.code)

pub returns-clause-code : goal.returns-clause-code
returns-clause-code g c = λ modules mean page. agrees c.args.pages c.in_ok-map.modules modules page (rw c.as_slice-texts.ensures at c.in_ok-map.ensures.code) mean

pub returns-clause-has_modules : goal.returns-clause-has_modules
returns-clause-has_modules g c = there_are c.args.pages c.in_ok-map.modules (rw c.as_slice-texts.ensures at c.in_ok-map.ensures.code)
