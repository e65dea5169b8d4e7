use Rattle.std.proofs.Common.{◌≡◌, ◌∙◌, ap, sym, subst, ℕ, List, length, slice_set, [], ◌∷◌, ◌++◌}
use Rattle.lua_basic.proofs.LuaStoreChanges.{on_ok, on_err, of_both}
use Rattle.mw_frames.specs.Scenes.{made, FramesOf}
use Rattle.mw_frames.specs.declared.scenes.Parent.TheVariants as kin
use Rattle.mw_frames.specs.declared.scenes.SceneFrame.{SceneFrame}
use Rattle.mw_frames.proofs.Kept.{parent-put, unmade-names, unmade-same, frames-push, new-frame}
use Rattle.mw_frames.proofs.scenes.Scenes.adopt.Goals as goal

pub returns-in-Nobody-clause-ok : goal.returns-in-Nobody-clause-ok
returns-in-Nobody-clause-ok c = λ f scene e p. absurd (let x = c.in-Nobody.ensures.was f e ∙ p in cc)

pub returns-in-Made-clause-ok : goal.returns-in-Made-clause-ok
returns-in-Made-clause-ok c = λ f scene e p. absurd (let x = c.in-Made.ensures.was f e ∙ p in cc)

pub returns-in-Nobody-clause-of : goal.returns-in-Nobody-clause-of
returns-in-Nobody-clause-of c = λ s of table. parent-put s (made c.args.self.now) (made c.swap_parent.new.self) c.args.number (kin.Made c.count-count.result) c.requires c.swap_parent.ensures.set tt of

pub returns-in-Made-clause-of : goal.returns-in-Made-clause-of
returns-in-Made-clause-of c = λ s of table. parent-put s (made c.args.self.now) (made c.swap_parent.new.self) c.args.number (kin.Made c.count-count.result) c.requires c.swap_parent.ensures.set tt of

pub returns-in-Unmade-clause-of : goal.returns-in-Unmade-clause-of
returns-in-Unmade-clause-of c = λ s of table.
    let put = parent-put s (made c.args.self.now) (made c.swap_parent.new.self) c.args.number (kin.Made c.count-count.result) c.requires c.swap_parent.ensures.set tt of in
    let names = unmade-names s (made c.args.self.now) c.args.number c.in-Unmade.scene c.requires c.in-Unmade.ensures.was of in
    of_both c.push.result
    (on_ok c.push.result c.push.ensures.ok (λ e. subst (FramesOf s) (sym e) (frames-push s (made c.swap_parent.new.self) _ put (record { table = table; names = names; parent = tt }))))
    (on_err c.push.result c.push.ensures.err (λ e. subst (FramesOf s) (sym e) put))

pub returns-in-Unmade-clause-ok : goal.returns-in-Unmade-clause-ok
returns-in-Unmade-clause-ok c = on_ok c.push.result c.push.ensures.ok (λ e f scene at is.
    let same : c.in-Unmade.scene ≡ scene = unmade-same c.in-Unmade.scene scene (c.in-Unmade.ensures.was f at ∙ is) in
    let put : List SceneFrame = slice_set (made c.args.self.now) c.args.number (record f { parent = kin.Made (length (made c.args.self.now)) }) in
    e ∙ ap (λ (xs : List SceneFrame). xs ++ new-frame c.in-Unmade.scene c.args.table ∷ []) (c.swap_parent.ensures.set f at ∙ ap (λ (n : ℕ). slice_set (made c.args.self.now) c.args.number (record f { parent = kin.Made n })) c.count-count.ensures.count)
    ∙ ap (λ sc. put ++ new-frame sc c.args.table ∷ []) same)
