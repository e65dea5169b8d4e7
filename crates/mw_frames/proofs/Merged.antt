-- Arguments in a map.
use Rattle.std.proofs.Common.{◌≡◌, ◌≢◌, ◌∙◌, ap, sym, refl, subst, arith, ℕ, Bool, true, false, cond, ◌==◌, List, [], ◌∷◌, ◌++◌, append_assoc, append-nil, map, bytes_eq, true≢false}
use Rattle.std.specs.Cmp.Lexicographic.{pointwise, same_text}
use Rattle.indexmap.specs.IndexMap.{insert_entry}
use Rattle.mw_frame.specs.declared.scene.Arg.{Arg}
use Rattle.mw_frame.specs.Scenes.{Lacks, NamesDiffer}
use Rattle.lua_home.specs.LuaMeaningFrames.{put_arg}
use Rattle.mw_frames.specs.Merging.{arg_in, args_in}

put-by : (name value : List ℕ) (b : Bool) (e : List ℕ × List ℕ) (es l : List (List ℕ × List ℕ)) (r : List Arg) → bytes_eq name e.0 ≡ b → args_in l ≡ r
    → args_in (cond b ((e.0, value) ∷ es) (e ∷ l)) ≡ cond b (record { name = name; value = value } ∷ args_in es) (arg_in e ∷ r)
put-by name value true e es l r h k = ap (λ n. let a : Arg = record { name = n; value = value } in a ∷ args_in es) (sym (same_text name e.0 (sym h)))
put-by name value false e es l r h k = ap (λ t. arg_in e ∷ t) k

pub put-is : (name value : List ℕ) (es : List (List ℕ × List ℕ)) → args_in (insert_entry (pointwise ◌==◌) es name value) ≡ put_arg (record { name = name; value = value }) (args_in es)
put-is name value [] = refl
put-is name value (e ∷ es) = put-by name value (bytes_eq name e.0) e es _ _ refl (put-is name value es)

lacks-by : (b : Bool) (x : List ℕ) (new a : Arg) (args more : List Arg) → x ≢ new.name → Lacks x (a ∷ args) → Lacks x more → Lacks x (cond b (new ∷ args) (a ∷ more))
lacks-by true x new a args more n l m = (n, l.1)
lacks-by false x new a args more n l m = (l.0, m)

lacks-put : (x : List ℕ) (new : Arg) (args : List Arg) → x ≢ new.name → Lacks x args → Lacks x (put_arg new args)
lacks-put x new [] h l = (h, tt)
lacks-put x new (a ∷ args) h l = lacks-by (bytes_eq new.name a.name) x new a args (put_arg new args) h l (lacks-put x new args h l.1)

bytes-same : (xs : List ℕ) → bytes_eq xs xs ≡ true
bytes-same [] = refl
bytes-same (x ∷ xs) = grind (arith, bytes-same xs)

other-name : (name other : List ℕ) → bytes_eq name other ≡ false → other ≢ name
other-name name other h e = true≢false (sym (subst (λ (x : List ℕ). bytes_eq name x ≡ true) (sym e) (bytes-same name)) ∙ h)

differ-by : (b : Bool) (new a : Arg) (args : List Arg) → bytes_eq new.name a.name ≡ b → NamesDiffer (a ∷ args) → NamesDiffer (put_arg new args) → NamesDiffer (cond b (new ∷ args) (a ∷ put_arg new args))
differ-by true new a args e d m = (subst (λ (x : List ℕ). Lacks x args) (sym (same_text new.name a.name (sym e))) d.0, d.1)
differ-by false new a args e d m = (lacks-put a.name new args (other-name new.name a.name e) d.0, m)

pub differ-put : (new : Arg) (args : List Arg) → NamesDiffer args → NamesDiffer (put_arg new args)
differ-put new [] d = (tt, tt)
differ-put new (a ∷ args) d = differ-by (bytes_eq new.name a.name) new a args refl d (differ-put new args d.1)
