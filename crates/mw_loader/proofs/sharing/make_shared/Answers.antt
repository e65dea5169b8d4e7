use Rattle.mw_loader.proofs.Shares.{shared}
use Rattle.mw_loader.proofs.sharing.make_shared.Goals as goal

pub returns-in-Ok-put_in-clause-shared : goal.returns-in-Ok-put_in-clause-shared
returns-in-Ok-put_in-clause-shared c =
    shared c.args.store.now c.put_in.new.store c.args.value c.in-Ok-put_in.root c.in-Ok.graph c.names_what_is_there.ensures c.requires c.in-Ok.ensures.graph c.in-Ok.ensures.texts c.in-Ok-put_in.ensures.put c.in-Ok-put_in.ensures.root
