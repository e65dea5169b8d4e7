use Rattle.std.proofs.Common.{◌∙◌, length, refl, ap}
use Rattle.std.proofs.lemmas.Result.{on_ok_weaker}
use Rattle.indexmap.specs.IndexMap.{hasher_of}
use Rattle.wiki_pages.specs.CaseTables.{hash_of, find_in}
use Rattle.wiki_pages.proofs.TableLaws.{noted_as}
use Rattle.wiki_pages.proofs.cases.CaseRun.note_name.Goals as goal

pub returns : goal.returns
returns c = on_ok_weaker c.note.result
    (λ notes. record {
      hasher = c.note.ensures.hasher;
      notes = noted_as (find_in c.args.self.now.cases) (find_in c.note.new.cases) c.hash_of-hash.result (hash_of (hasher_of c.args.self.now.cases) c.args.name.now) c.args.self.now.stop.at (length c.args.self.now.values.items)
          (record { at = c.in_ok-at.at; group = c.in_ok-group.group }) (c.hash_of-hash.ensures ∙ ap (λ s. hash_of s c.args.name.now) c.hasher.ensures) c.in_ok-at.ensures (c.in_ok-group.ensures ∙ ap length c.as_slice.ensures.value) notes;
      end = refl;
      values = refl;
      stop = refl;
    })
    c.note.ensures.notes
