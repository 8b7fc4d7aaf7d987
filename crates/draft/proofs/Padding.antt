-- Empty parts at the end of a draft's parts.
use Rattle.std.proofs.Common.{◌≡◌, ℕ, suc, ◌+◌, ◌-◌, ◌<◌, List, [], ◌∷◌, ◌++◌, length, replicate, sym, ap, ◌∙◌, arith}
use Rattle.std.proofs.lemmas.List.{append_assoc, length_push}
use Rattle.msc.specs.declared.event.Event.{Event}
use Rattle.forms.specs.Drafts.{Draft, padded, opened, closed}

-- one empty part fewer is wanted
pub padded_more : (n : ℕ) (ps : List (List Event)) → length ps < n → padded n (ps ++ [] ∷ []) ≡ padded n ps
padded_more n ps h =
    let l : length (ps ++ [] ∷ []) ≡ length ps + 1 = length_push ps [] in
    let k : n - length ps ≡ suc (n - length (ps ++ [] ∷ [])) = omega arith in
    append_assoc ps ([] ∷ []) (replicate (n - length (ps ++ [] ∷ [])) []) ∙ ap (λ m. ps ++ replicate m []) (sym k)

-- with nothing open
pub opened-closed : (d : Draft) (i : ℕ) → d.part ≡ [] → length d.parts < i → opened (closed d) i ≡ opened d i
opened-closed d i e h =
    ap (λ (ps : List (List Event)). record d { parts = ps; part = [] })
    (ap (λ (p : List Event). padded i (d.parts ++ p ∷ [])) e ∙ padded_more i d.parts h)
