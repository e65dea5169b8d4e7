use Rattle.std.proofs.Common.{[], ◌∷◌, ◌++◌, refl, ap, ◌∙◌}
use Rattle.std.proofs.lemmas.Str.{IsCharBoundary-start}
use Rattle.mw_text.specs.Split.{slice, sought_of, part_from, parts_of}
use Rattle.mw_text.proofs.Parts.{opened_parts, splits_start, splits_spent, splits_on, splits_end}
use Rattle.mw_text.proofs.splitting.Separator.parts.Goals as goal

pub parts-init : goal.parts-init
parts-init c =
    let sought = sought_of c.args.self.now in
    rw c.new-made.ensures (splits_start (part_from sought c.args.s.now) c.args.s.now (parts_of sought c.args.s.now) c.args.budget c.args.budget 0 0 [] (IsCharBoundary-start c.args.s.now c.requires.text)
    (opened_parts sought c.args.s.now))

pub returns-in-Spent : goal.returns-in-Spent
returns-in-Spent c =
    let sought = sought_of c.args.self.now in
    splits_spent (part_from sought c.args.s.now) c.args.s.now (parts_of sought c.args.s.now) c.args.budget c.parts.left c.parts.tries c.parts.from c.parts.made c.parts.invariant
    c.in_ok-part_at.field-0 c.in_ok-part_at.ensures.part c.in-Spent.is

pub parts-preserved : goal.parts-preserved
parts-preserved c =
    let sought = sought_of c.args.self.now in
    splits_on (part_from sought c.args.s.now) c.args.s.now (parts_of sought c.args.s.now) c.args.budget c.parts.left c.parts.tries c.parts.from c.parts.made
    c.in-Part.part (slice c.args.s.now c.parts.from c.in-Part.part.stop) c.in-Some.next _ _ c.push.new.self c.parts.invariant
    (rw c.in-Part.is at c.in_ok-part_at.ensures.part) c.in-Some.is (rw c.in-Part.is at c.in_ok-part_at.ensures.ends) refl
    (c.in_ok-push-in-Part.ensures.ok ∙ ap (λ x. c.parts.made ++ x ∷ []) c.in_ok-of-in-Part.ensures) refl refl

pub returns-in-None : goal.returns-in-None
returns-in-None c =
    let sought = sought_of c.args.self.now in
    splits_end (part_from sought c.args.s.now) c.args.s.now (parts_of sought c.args.s.now) c.args.budget c.parts.left c.parts.tries c.parts.from c.parts.made
    c.in-Part.part (slice c.args.s.now c.parts.from c.in-Part.part.stop) _ c.push.new.self c.parts.invariant
    (rw c.in-Part.is at c.in_ok-part_at.ensures.part) c.in-None.is refl
    (c.in_ok-push-in-Part.ensures.ok ∙ ap (λ x. c.parts.made ++ x ∷ []) c.in_ok-of-in-Part.ensures) refl
