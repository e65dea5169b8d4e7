use Rattle.wiki_markup.specs.WkBaseSpace.{trim}
use Rattle.wiki_pages.specs.Forests.{trees_in, size}
use Rattle.wiki_expand.proofs.ArgumentLaws.{value_put}
use Rattle.wiki_expand.proofs.calls.name.Goals as goal

pub returns : goal.returns
returns c =
    value_put c.args.stack.now c.push.new.self c.args.call (trees_in c.args.value) c.walk.result c.in_ok-name.name (trim c.args.text) (size c.args.value)
    c.walk.ensures.starts c.in_ok-push.ensures c.in_ok-name.ensures c.walk.ensures.size
