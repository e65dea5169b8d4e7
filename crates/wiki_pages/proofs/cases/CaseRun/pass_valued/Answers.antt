use Rattle.std.proofs.Common.{◌∙◌, ◌||◌, ◌++◌, ◌∷◌, [], false, cond, Some, ap}
use Rattle.expand_texts.specs.ExpandMeaningExpand.{is_default}
use Rattle.wiki_pages.specs.declared.cases.Stop.{Stop}
use Rattle.wiki_pages.proofs.cases.CaseRun.pass_valued.Goals as goal

pub returns : goal.returns
returns c =
    record {
      hasher = c.in_ok-note_name.ensures.hasher;
      notes = c.in_ok-note_name.ensures.notes;
      end = c.in_ok-note_name.ensures.end;
      values = c.in_ok-put_value.ensures ∙ (λ i. c.in_ok-note_name.ensures.values i ++ (c.in_ok-note_name.ensures.stop i).at ∷ []);
      stop = λ i. record {
        at = c.args.next;
        waits = false;
        default =
            (c.default_after-default.ensures
            ∙ (λ j. cond ((c.waits_behind-sets.ensures ∙ ap (λ (s : Stop). s.waits || is_default c.args.name.now) c.in_ok-note_name.ensures.stop) j) (Some c.args.value) (c.in_ok-note_name.ensures.stop j).default)) i;
      };
    }
