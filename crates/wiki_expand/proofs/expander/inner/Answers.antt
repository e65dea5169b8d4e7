use Rattle.std.proofs.Common.{◌∙◌}
use Rattle.wiki_expand.proofs.expander.inner.Goals as goal

pub returns : goal.returns
returns c = λ i. record { title = c.args.scene.title; args = (c.in_ok-args.ensures ∙ c.as_slice.ensures) i; chain = (c.of_vec.ensures ∙ c.into_vec.ensures) i }
