use Rattle.std.proofs.Common.{◌≡◌, ◌∙◌, ap, codes}
use Rattle.mw_frame_texts.specs.LuaHeapValue.{Table}
use Rattle.mw_frame_texts.specs.LuaMeaningMetatables.{field}
use Rattle.mw_frame_texts.specs.LuaStoreSeen.{text_at}
use Rattle.mw_frame_calls.proofs.requests.a_request.Goals as goal

pub returns-in-Some-clause-found : goal.returns-in-Some-clause-found
returns-in-Some-clause-found c =
    let s = c.args.store.now in
    let t = c.in-Some.table.at in
    let title : text_at s.texts c.names-names.result.title.at ≡ codes "title" = rw c.names-names.ensures c.requires.scenes.names.title.1 in
    let args : text_at s.texts c.names-names.result.args.at ≡ codes "args" = rw c.names-names.ensures c.requires.scenes.names.args.1 in
    record {
      table = t;
      found = c.in-Some.ensures.request s.texts;
      title = c.get-title.ensures.value ∙ ap (field s.heap (Table t)) title;
      args = c.get-args.ensures.value ∙ ap (field s.heap (Table t)) args;
    }

pub returns-in-None-clause-found : goal.returns-in-None-clause-found
returns-in-None-clause-found c = c.in-None.ensures.request c.args.store.now.texts
