use Rattle.std.proofs.Common.{◌≡◌, ℕ, ◌-◌, map, ap, refl, sym, ◌∙◌, subst}
use Rattle.lua_pattern.specs.declared.search.Met.{Met}
use Rattle.lua_pattern.specs.declared.search.Met.TheVariants as met
use Rattle.lua_pattern.specs.Way.{first}
use Rattle.lua_pattern.specs.Found.{capture_of}
use Rattle.lua_pattern.specs.Search.{Meets}
use Rattle.lua_pattern.proofs.Tells.{hit_tells, found_has}
use Rattle.lua_pattern.proofs.Inside.{first_has}
use Rattle.lua_pattern.proofs.pattern.Pattern.search.Goals as goal

pub returns-in-Hit-clause-first : goal.returns-in-Hit-clause-first
returns-in-Hit-clause-first g c =
    let P : Met → Type 0 = λ t. Meets (first g.A.Alphabet.letters c.args.self.now.anchored c.parts.result.0.now c.args.subject.now c.args.from) c.args.budget t c.first_met.new.left c.first_met.new.trail.marks in
    let f : Meets (first g.A.Alphabet.letters c.args.self.now.anchored c.parts.result.0.now c.args.subject.now c.args.from) c.args.budget (met.Hit c.in-Hit.start c.in-Hit.end) c.first_met.new.left c.first_met.new.trail.marks = subst P c.in-Hit.is c.in_ok-met.ensures in
    let e : first g.A.Alphabet.letters c.args.self.now.anchored c.args.self.now.items c.args.subject.now c.args.from ≡ first g.A.Alphabet.letters c.args.self.now.anchored c.parts.result.0.now c.args.subject.now c.args.from =
    ap (λ l. first g.A.Alphabet.letters c.args.self.now.anchored l c.args.subject.now c.args.from) (sym c.parts.ensures.same) in
    let s : c.in_ok-captures-in-Hit.captures ≡ map (capture_of c.first_met.new.trail.marks) c.args.self.now.slots =
    c.in_ok-captures-in-Hit.ensures ∙ ap (λ m. map (capture_of m) c.as_slice.result.now) c.marks.ensures ∙ ap (map (capture_of c.first_met.new.trail.marks)) c.as_slice.ensures in
    hit_tells c.args.self.now.slots (first g.A.Alphabet.letters c.args.self.now.anchored c.args.self.now.items c.args.subject.now c.args.from)
    (record { start = c.in-Hit.start; end = c.in-Hit.end; captures = c.in_ok-captures-in-Hit.captures }) c.args.budget c.first_met.new.left c.in-Hit.start c.in-Hit.end
    c.first_met.new.trail.marks (e ∙ f.1) refl refl s

pub returns-in-Hit-clause-places : goal.returns-in-Hit-clause-places
returns-in-Hit-clause-places g c = λ text place.
    let P : ℕ → Type 0 = g.A.Alphabet.is_place c.args.subject.now in
    found_has P c.args.from c.args.self.now.slots (first g.A.Alphabet.letters c.args.self.now.anchored c.args.self.now.items c.args.subject.now c.args.from)
    (record { start = c.in-Hit.start; end = c.in-Hit.end; captures = c.in_ok-captures-in-Hit.captures }) (c.args.budget - c.first_met.new.left)
    (returns-in-Hit-clause-first g c).1
    (first_has g.A.Alphabet.letters g.met.A.Alphabet.lawful c.args.subject.now P (g.met.A.Alphabet.keeps c.args.subject.now text)
    c.args.self.now.anchored c.args.self.now.items c.args.from place)
