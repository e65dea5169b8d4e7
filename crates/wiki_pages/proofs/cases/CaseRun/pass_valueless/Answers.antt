use Rattle.std.proofs.Common.{◌∙◌, ◌||◌, ap}
use Rattle.expand_texts.specs.ExpandMeaningExpand.{is_default}
use Rattle.wiki_pages.specs.declared.cases.Stop.{Stop}
use Rattle.wiki_pages.proofs.cases.CaseRun.pass_valueless.Goals as goal

pub returns : goal.returns
returns c =
    record {
      hasher = c.in_ok-note_name.ensures.hasher;
      notes = c.in_ok-note_name.ensures.notes;
      end = c.in_ok-note_name.ensures.end;
      values = c.in_ok-note_name.ensures.values;
      stop = λ i. record {
        at = c.args.next;
        waits = (c.waits_behind-waits.ensures ∙ ap (λ (s : Stop). s.waits || is_default c.args.name.now) c.in_ok-note_name.ensures.stop) i;
        default = (c.in_ok-note_name.ensures.stop i).default;
      };
    }
