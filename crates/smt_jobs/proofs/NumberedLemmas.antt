-- Terms and steps by their numbers, with one more.
use Rattle.std.proofs.Common.{◌≡◌, ℕ, zero, suc, List, [], ◌∷◌, ◌++◌, map, Bool, true, false, Option, Some, None, refl, sym, ap, ◌∙◌}
use Rattle.std.specs.Prelude.{◌&&◌, if◌then◌else◌, is_some, option_and_then, slice_get, unwrap_or}
use Rattle.std.specs.declared.alloc.Global.{Global}
use Rattle.std.specs.declared.vec.Vec.{Vec}
use Rattle.law_jobs.specs.Steps.{PlainStep, AssertStep, PushStep, PopStep, CheckStep}
use Rattle.smt_jobs.specs.declared.numbered.NumberedStep.{NumberedStep}
use Rattle.smt_jobs.specs.declared.numbered.NumberedStep.TheVariants.{Assert, Push, Pop, Check}
use Rattle.std.proofs.lemmas.List.{map-append}
use Rattle.law_terms.specs.Meanings.{all_found, meanings, terms_in}
use Rattle.law_terms.specs.Nodes.{Meaning, TypeMeaning, FunctionMeaning, TermMeaning}
use Rattle.law_terms.proofs.Places.{map_back}
use Rattle.std.proofs.lemmas.Bool.{false≢true}
use Rattle.law_terms.specs.Plain.{PlainTerm}
use Rattle.smt_nodes.specs.Interned.{meaning_in, nodes_of, KeepsMeanings, StandFor}
use Rattle.smt_nodes.specs.View.{place_of, places_of}
use Rattle.smt_nodes.specs.declared.id.NodeId.{NodeId}
use Rattle.smt_nodes.specs.declared.interner.Interner.{Interner}
use Rattle.smt_nodes.proofs.Interning.{all_kept, are_terms_in, more_found}
use Rattle.smt_jobs.specs.Numbers.{all_stand, all_steps_stand, step_by, step_stands, steps_by, terms_of}

-- the terms for which numbers stand are those that are found
pub stood_for : (i : Interner) (ids : List NodeId) (ts : List PlainTerm) → StandFor i ids ts → terms_of i ids ≡ ts
stood_for i ids ts h = ap (λ o. unwrap_or (option_and_then terms_in o) []) h ∙ ap (λ o. unwrap_or o []) (are_terms_in ts)

-- and the other way round
terms_back : (ms : List Meaning) (o : Option (List PlainTerm)) → terms_in ms ≡ o → is_some o ≡ true → ms ≡ map TermMeaning (unwrap_or o [])
terms_back [] (Some []) e h = refl
terms_back [] (Some (t ∷ ts)) e h = absurd (cc)
terms_back ms None e h = absurd (false≢true h)
terms_back (TermMeaning t ∷ ms) (Some ts) e h =
    let (us, f, same) = map_back (λ us. t ∷ us) (terms_in ms) ts e in
    ap (λ l. TermMeaning t ∷ l) (terms_back ms (Some us) f refl) ∙ ap (map TermMeaning) same
terms_back (TypeMeaning t ∷ ms) (Some ts) e h = absurd (cc)
terms_back (FunctionMeaning f ∷ ms) (Some ts) e h = absurd (cc)

pub all_stood : (i : Interner) (ids : List NodeId) → all_stand i ids ≡ true → StandFor i ids (terms_of i ids)
all_stood i ids h = go (all_found (meanings (nodes_of i)) (places_of ids)) refl h
  where
    go : (o : Option (List Meaning)) → all_found (meanings (nodes_of i)) (places_of ids) ≡ o → is_some (option_and_then terms_in o) ≡ true → o ≡ Some (map TermMeaning (unwrap_or (option_and_then terms_in o) []))
    go None e h = absurd (false≢true h)
    go (Some ms) e h = ap Some (terms_back ms (terms_in ms) refl h)

stands : (i : Interner) (ids : List NodeId) (ts : List PlainTerm) → StandFor i ids ts → all_stand i ids ≡ true
stands i ids ts h = ap (λ o. is_some (option_and_then terms_in o)) h ∙ ap is_some (are_terms_in ts)

pub none_stand : (i : Interner) (ids : List NodeId) → ids ≡ [] → all_stand i ids ≡ true
none_stand i ids none = ap (all_stand i) none

-- more nodes leave them
pub still_stand : (i j : Interner) (ids : List NodeId) → KeepsMeanings i j → all_stand i ids ≡ true → all_stand j ids ≡ true
still_stand i j ids keeps h = stands j ids (terms_of i ids) (all_kept (nodes_of i) (nodes_of j) keeps ids _ (all_stood i ids h))

-- one term more
one_more : (i j : Interner) (ids more : List NodeId) (id : NodeId) (t : PlainTerm) → KeepsMeanings i j → all_stand i ids ≡ true → more ≡ ids ++ id ∷ [] → meaning_in j id ≡ Some (TermMeaning t) → StandFor j more (terms_of i ids ++ t ∷ [])
one_more i j ids more id t keeps h is meant =
    ap (λ l. all_found (meanings (nodes_of j)) (places_of l)) is
    ∙ ap (all_found (meanings (nodes_of j))) (map-append place_of ids (id ∷ []))
    ∙ more_found (meanings (nodes_of j)) (places_of ids) _ (place_of id) (TermMeaning t) (all_kept (nodes_of i) (nodes_of j) keeps ids _ (all_stood i ids h)) meant
    ∙ ap Some (sym (map-append TermMeaning (terms_of i ids) (t ∷ [])))

pub more_stand : (i j : Interner) (ids more : List NodeId) (id : NodeId) (t : PlainTerm) → KeepsMeanings i j → all_stand i ids ≡ true → more ≡ ids ++ id ∷ [] → meaning_in j id ≡ Some (TermMeaning t) → all_stand j more ≡ true
more_stand i j ids more id t keeps h is meant = stands j more (terms_of i ids ++ t ∷ []) (one_more i j ids more id t keeps h is meant)

pub one_taken : (i j : Interner) (ids more : List NodeId) (id : NodeId) (t : PlainTerm) → KeepsMeanings i j → all_stand i ids ≡ true → more ≡ ids ++ id ∷ [] → meaning_in j id ≡ Some (TermMeaning t) → terms_of j more ≡ terms_of i ids ++ t ∷ []
one_taken i j ids more id t keeps h is meant = stood_for j more (terms_of i ids ++ t ∷ []) (one_more i j ids more id t keeps h is meant)

-- the same of an interner and numbers that were handed on
pub stood_by : (i j : Interner) (ids more : List NodeId) → all_stand i ids ≡ true → j ≡ i → more ≡ ids → StandFor j more (terms_of i ids)
stood_by i j ids more h same handed =
    ap (λ k. all_found (meanings (nodes_of k)) (places_of more)) same ∙ ap (λ l. all_found (meanings (nodes_of i)) (places_of l)) handed ∙ all_stood i ids h

-- one number more, unless there was no room for it
pub or_stand : (b : Bool) (i j : Interner) (ids more : List NodeId) (id : NodeId) (t : PlainTerm) → KeepsMeanings i j → all_stand i ids ≡ true → more ≡ (if b then ids ++ id ∷ [] else ids) → meaning_in j id ≡ Some (TermMeaning t) → all_stand j more ≡ true
or_stand true i j ids more id t keeps h is meant = more_stand i j ids more id t keeps h is meant
or_stand false i j ids more id t keeps h is meant = ap (all_stand j) is ∙ still_stand i j ids keeps h

-- ---- steps

-- the step, with the numbers of its terms, is this one
abbrev pub IsStepOf : Interner → NumberedStep → PlainStep → Type 0
IsStepOf i (Assert ids) step = (ts : List PlainTerm) × (step ≡ AssertStep ts) × StandFor i ids.items ts
IsStepOf i Push step = step ≡ PushStep
IsStepOf i Pop step = step ≡ PopStep
IsStepOf i Check step = step ≡ CheckStep

-- the numbers of a step that asserts stand for the terms that it asserts
pub assertion_stood : (i : Interner) (ids : Vec NodeId Global) → step_stands i (Assert ids) ≡ true → (ts : List PlainTerm) × (step_by i (Assert ids) ≡ AssertStep ts) × StandFor i ids.items ts
assertion_stood i ids h = (terms_of i ids.items, refl, all_stood i ids.items h)

pub step_stood : (i : Interner) (step : NumberedStep) → step_stands i step ≡ true → IsStepOf i step (step_by i step)
step_stood i (Assert ids) h = assertion_stood i ids h
step_stood i Push h = refl
step_stood i Pop h = refl
step_stood i Check h = refl

both_true : (a b : Bool) → (a && b) ≡ true → (a ≡ true) × (b ≡ true)
both_true true b h = (refl, h)
both_true false b h = absurd (false≢true h)

join_true : (a b : Bool) → a ≡ true → b ≡ true → (a && b) ≡ true
join_true a b h k = ap (λ x. x && b) h ∙ k

-- of steps whose numbers all stand for terms, those of the first do, and those of the others
pub first_stands : (i : Interner) (step : NumberedStep) (steps : List NumberedStep) → all_steps_stand i (step ∷ steps) ≡ true → step_stands i step ≡ true
first_stands i step steps h = (both_true (step_stands i step) (all_steps_stand i steps) h).0

pub others_stand : (i : Interner) (step : NumberedStep) (steps : List NumberedStep) → all_steps_stand i (step ∷ steps) ≡ true → all_steps_stand i steps ≡ true
others_stand i step steps h = (both_true (step_stands i step) (all_steps_stand i steps) h).1

-- so do those of the step at each place
pub stands_at : (i : Interner) (steps : List NumberedStep) (n : ℕ) (step : NumberedStep) → all_steps_stand i steps ≡ true → slice_get steps n ≡ Some step → step_stands i step ≡ true
stands_at i [] n step h at = absurd (cc)
stands_at i (s ∷ steps) zero step h at = (let same : s ≡ step = cc in ap (step_stands i) (sym same) ∙ first_stands i s steps h)
stands_at i (s ∷ steps) (suc n) step h at = stands_at i steps n step (others_stand i s steps h) at

-- more nodes leave steps as they are
pub step_still_stands : (i j : Interner) (step : NumberedStep) → KeepsMeanings i j → step_stands i step ≡ true → step_stands j step ≡ true
step_still_stands i j (Assert ids) keeps h = still_stand i j ids.items keeps h
step_still_stands i j Push keeps h = refl
step_still_stands i j Pop keeps h = refl
step_still_stands i j Check keeps h = refl

pub same_terms : (i j : Interner) (ids : List NodeId) → KeepsMeanings i j → all_stand i ids ≡ true → terms_of j ids ≡ terms_of i ids
same_terms i j ids keeps h = stood_for j ids (terms_of i ids) (all_kept (nodes_of i) (nodes_of j) keeps ids _ (all_stood i ids h))

pub same_step : (i j : Interner) (step : NumberedStep) → KeepsMeanings i j → step_stands i step ≡ true → step_by j step ≡ step_by i step
same_step i j (Assert ids) keeps h = ap AssertStep (same_terms i j ids.items keeps h)
same_step i j Push keeps h = refl
same_step i j Pop keeps h = refl
same_step i j Check keeps h = refl

pub steps_still_stand : (i j : Interner) (steps : List NumberedStep) → KeepsMeanings i j → all_steps_stand i steps ≡ true → all_steps_stand j steps ≡ true
steps_still_stand i j [] keeps h = refl
steps_still_stand i j (s ∷ steps) keeps h = join_true (step_stands j s) (all_steps_stand j steps) (step_still_stands i j s keeps (first_stands i s steps h)) (steps_still_stand i j steps keeps (others_stand i s steps h))

pub same_steps : (i j : Interner) (steps : List NumberedStep) → KeepsMeanings i j → all_steps_stand i steps ≡ true → steps_by j steps ≡ steps_by i steps
same_steps i j [] keeps h = refl
same_steps i j (s ∷ steps) keeps h = (λ k. same_step i j s keeps (first_stands i s steps h) k ∷ same_steps i j steps keeps (others_stand i s steps h) k)

-- one step more
pub step_added : (i : Interner) (steps : List NumberedStep) (step : NumberedStep) → all_steps_stand i steps ≡ true → step_stands i step ≡ true → all_steps_stand i (steps ++ step ∷ []) ≡ true
step_added i [] step h k = join_true (step_stands i step) true k refl
step_added i (s ∷ steps) step h k = join_true (step_stands i s) (all_steps_stand i (steps ++ step ∷ [])) (first_stands i s steps h) (step_added i steps step (others_stand i s steps h) k)

-- one step more, unless there was no room for it
pub or_steps_stand : (b : Bool) (i : Interner) (steps more : List NumberedStep) (step : NumberedStep) → all_steps_stand i steps ≡ true → step_stands i step ≡ true → more ≡ (if b then steps ++ step ∷ [] else steps) → all_steps_stand i more ≡ true
or_steps_stand true i steps more step h k is = ap (all_steps_stand i) is ∙ step_added i steps step h k
or_steps_stand false i steps more step h k is = ap (all_steps_stand i) is ∙ h

pub step_taken : (i : Interner) (steps more : List NumberedStep) (step : NumberedStep) → more ≡ steps ++ step ∷ [] → steps_by i more ≡ steps_by i steps ++ step_by i step ∷ []
step_taken i steps more step is = ap (steps_by i) is ∙ map-append (step_by i) steps (step ∷ [])

-- the same of steps and nodes that were handed on
pub step_stood_by : (i j : Interner) (ids : Vec NodeId Global) (more : List NodeId) → step_stands i (Assert ids) ≡ true → KeepsMeanings i j → more ≡ ids.items → StandFor j more (terms_of i ids.items)
step_stood_by i j ids more h keeps handed = ap (λ l. all_found (meanings (nodes_of j)) (places_of l)) handed ∙ all_kept (nodes_of i) (nodes_of j) keeps ids.items _ (all_stood i ids.items h)
