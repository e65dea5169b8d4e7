use Rattle.lua_string.specs.Heads.{head_text}
use Rattle.lua_string.specs.Replacements.{replaced_of}
use Rattle.lua_string.proofs.HeadLemmas.{heads_more}
use Rattle.lua_string.proofs.replacing.replaced.Goals as goal

pub heads-preserved : goal.heads-preserved
heads-preserved c =
    heads_more c.heads.made.items (head_text c.in-Some.head) c.write.new.out.items (replaced_of c.args.whole.now c.args.captures.now c.heads.rest.now)
    (replaced_of c.args.whole.now c.args.captures.now c.in-Some.behind.now) (replaced_of c.args.whole.now c.args.captures.now c.args.replacement.now)
    c.in-Ok.ensures c.in-Some.ensures.head c.heads.invariant
