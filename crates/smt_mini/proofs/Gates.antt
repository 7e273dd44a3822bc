-- Gates, behind other gates and before them.
use Rattle.std.proofs.Common.{◌≡◌, ℕ, ◌+◌, ◌<◌, Bool, false, List, [], ◌∷◌, ◌++◌, length, refl, ap, ◌∙◌, arith}
use Rattle.std.proofs.lemmas.List.{get_or_append_left, length-append}
use Rattle.smt_mini.specs.Gates.{gate_truth, gate_value, value_at, values_behind}
use Rattle.smt_mini.specs.declared.gate.Gate.{Gate}

-- gates behind gates
values_append : (at : ℕ → Bool) (done : List Bool) (gs hs : List Gate) → values_behind at done (gs ++ hs) ≡ values_behind at (values_behind at done gs) hs
values_append at done [] hs = refl
values_append at done (g ∷ gs) hs = values_append at (done ++ gate_value at done g ∷ []) gs hs

-- there are as many truths as gates
values_long : (at : ℕ → Bool) (done : List Bool) (gs : List Gate) → length (values_behind at done gs) ≡ length done + length gs
values_long at done [] = omega arith
values_long at done (g ∷ gs) =
    values_long at (done ++ gate_value at done g ∷ []) gs ∙ ap (λ n. n + length gs) (length-append done (gate_value at done g ∷ [])) ∙ omega arith

-- what is done stays in front
values_begin : (at : ℕ → Bool) (done : List Bool) (gs : List Gate) (p : ℕ) → p < length done → value_at (values_behind at done gs) p ≡ value_at done p
values_begin at done [] p l = refl
values_begin at done (g ∷ gs) p l =
    values_begin at (done ++ gate_value at done g ∷ []) gs p (omega (arith, l, length-append done (gate_value at done g ∷ []))) ∙ get_or_append_left done (gate_value at done g ∷ []) false p l

-- gates behind it change no gate
pub truth_kept : (at : ℕ → Bool) (gs hs : List Gate) (p : ℕ) → p < length gs → gate_truth at (gs ++ hs) p ≡ gate_truth at gs p
truth_kept at gs hs p l =
    ap (λ bs. value_at bs p) (values_append at [] gs hs) ∙ values_begin at (values_behind at [] gs) hs p (omega (arith, l, values_long at [] gs))

last_value : (bs : List Bool) (b : Bool) → value_at (bs ++ b ∷ []) (length bs) ≡ b
last_value [] b = refl
last_value (c ∷ bs) b = last_value bs b

-- the truth of a new gate
pub truth_of_last : (at : ℕ → Bool) (gs : List Gate) (g : Gate) → gate_truth at (gs ++ g ∷ []) (length gs) ≡ gate_value at (values_behind at [] gs) g
truth_of_last at gs g =
    let long : length gs ≡ length (values_behind at [] gs) = omega (arith, values_long at [] gs) in
    ap (λ bs. value_at bs (length gs)) (values_append at [] gs (g ∷ []))
    ∙ ap (λ n. value_at (values_behind at [] gs ++ gate_value at (values_behind at [] gs) g ∷ []) n) long
    ∙ last_value (values_behind at [] gs) (gate_value at (values_behind at [] gs) g)
