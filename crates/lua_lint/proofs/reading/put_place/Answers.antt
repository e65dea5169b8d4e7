use Rattle.lua_lint.proofs.ReadingLemmas.{put_at}
use Rattle.lua_lint.proofs.reading.put_place.Goals as goal

pub returns-in-Ok : goal.returns-in-Ok
returns-in-Ok c = put_at c.args.title c.args.place c.args.places.now.entries c.insert.new.self.entries c.in-Ok.ensures.updates.0
