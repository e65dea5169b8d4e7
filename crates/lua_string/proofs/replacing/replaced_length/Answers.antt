use Rattle.std.proofs.Common.{refl, [], ap, ◌∙◌, ◌+◌, ℕ}
use Rattle.lua_string.specs.Heads.{head_text}
use Rattle.lua_string.specs.Texts.{saturated}
use Rattle.lua_string.specs.Replacements.{replaced_of}
use Rattle.lua_string.proofs.HeadLemmas.{put_none, length_more}
use Rattle.lua_string.proofs.replacing.replaced_length.Goals as goal

pub heads-init : goal.heads-init
heads-init c = ([], refl, put_none (replaced_of c.args.whole.now c.args.captures.now c.args.replacement.now))

pub heads-preserved : goal.heads-preserved
heads-preserved c =
    length_more c.heads.len c.saturating_add-len.result (head_text c.in-Some.head) (replaced_of c.args.whole.now c.args.captures.now c.heads.rest.now)
    (replaced_of c.args.whole.now c.args.captures.now c.in-Some.behind.now) (replaced_of c.args.whole.now c.args.captures.now c.args.replacement.now)
    (c.saturating_add-len.ensures ∙ ap (λ (n : ℕ). saturated (c.heads.len + n)) c.len.ensures) c.in-Some.ensures.head c.heads.invariant
