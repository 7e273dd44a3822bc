-- What is current behind one more step, by its numbers.
use Rattle.std.proofs.Common.{◌≡◌, ◌∙◌, ◌+◌, ◌<◌, ℕ, suc, Bool, true, false, add-one, drop, drop-cons, get_or, List, [], ◌∷◌, ◌++◌, Option, Some, ap, arith, length, map, refl, reverse, subst, sym, take}
use Rattle.std.specs.Prelude.{IsTrue}
use Rattle.std.specs.Option.{option_and_then, option_map}
use Rattle.std.proofs.lemmas.List.{length-append, map-append, reverse-append, take-append-le}
use Rattle.std.proofs.lemmas.Bool.{false≢true}
use Rattle.std.proofs.lemmas.List.Folds.{list_all_at}
use Rattle.std.proofs.Math.Seq.{take-length}
use Rattle.law_jobs.specs.Steps.{PlainStep, AssertStep, CheckStep, PopStep, PushStep, current, current_behind}
use Rattle.law_terms.proofs.Places.{map_back, then_back}
use Rattle.law_terms.specs.Meanings.{all_found, found, meanings}
use Rattle.law_terms.specs.Nodes.{Meaning, TermMeaning}
use Rattle.law_terms.specs.Plain.{PlainTerm}
use Rattle.smt_nodes.specs.Interned.{nodes_of, StandFor}
use Rattle.smt_nodes.specs.View.{place_of, places_of}
use Rattle.smt_nodes.specs.declared.id.NodeId.{NodeId}
use Rattle.smt_nodes.specs.declared.interner.Interner.{Interner}
use Rattle.smt_jobs.specs.Numbers.{all_steps_stand, step_by, step_stands, steps_by}
use Rattle.smt_jobs.specs.declared.numbered.NumberedStep.{NumberedStep}
use Rattle.smt_blast.specs.Current.{AreBelow, LeadsTo}
use Rattle.smt_blast.specs.declared.current.Current.{Current}

-- what is found at places that follow others
found_behind : (ms : List (Option Meaning)) (is js : List ℕ) (ps qs : List Meaning) → all_found ms is ≡ Some ps → all_found ms js ≡ Some qs → all_found ms (is ++ js) ≡ Some (ps ++ qs)
found_behind ms [] js ps qs e f = f ∙ ap (λ (l : List Meaning). Some (l ++ qs)) (let none : [] ≡ ps = cc in none)
found_behind ms (i ∷ is) js ps qs e f =
    let (m, g, d) = then_back (λ m. option_map (λ rest. m ∷ rest) (all_found ms is)) (found ms i) ps e in
    let (rest, h, k) = map_back (λ rest. m ∷ rest) (all_found ms is) ps d in
    ap (option_and_then (λ x. option_map (λ others. x ∷ others) (all_found ms (is ++ js)))) g ∙ (ap (option_map (λ others. m ∷ others)) (found_behind ms is js rest qs h f) ∙ ap (λ (l : List Meaning). Some (l ++ qs)) k)

module _ (nodes : Interner) where
  -- numbers that follow others stand for terms that follow theirs
  stand_behind : (xs ys : List NodeId) (ts us : List PlainTerm) → StandFor nodes xs ts → StandFor nodes ys us → StandFor nodes (xs ++ ys) (ts ++ us)
  stand_behind xs ys ts us e f =
      ap (all_found (meanings (nodes_of nodes))) (map-append place_of xs ys) ∙ found_behind (meanings (nodes_of nodes)) (places_of xs) (places_of ys) (map TermMeaning ts) (map TermMeaning us) e f
      ∙ ap Some (sym (map-append TermMeaning ts us))

  -- what is below stays where more numbers come
  below_stays : (ids more : List NodeId) (ks : List ℕ) (below : List (List PlainTerm)) → AreBelow nodes ids ks below → AreBelow nodes (ids ++ more) ks below
  below_stays ids more [] [] h = tt
  below_stays ids more (k ∷ ks) (ts ∷ below) h =
      let same : take k ids ≡ take k (ids ++ more) = sym (take-append-le k ids more h.0) in (
        (let within = h.0 in omega (arith, within, length-append ids more)),
        subst (λ (l : List NodeId). StandFor nodes l ts) same h.1,
        subst (λ (l : List NodeId). AreBelow nodes l ks below) same h.2,
      )
  below_stays ids more [] (ts ∷ below) h = absurd h
  below_stays ids more (k ∷ ks) [] h = absurd h

  pub begins : (c : Current) (steps : List PlainStep) → c.ids.items ≡ [] → c.counts.items ≡ [] → LeadsTo nodes c steps (current steps)
  begins c steps no_ids no_counts = record {
    now = [];
    below = [];
    stand = subst (λ (l : List NodeId). StandFor nodes l []) (sym no_ids) refl;
    levels = subst (λ (l : List ℕ). AreBelow nodes c.ids.items (reverse l) []) (sym no_counts) tt;
    leads = refl;
  }

  module _ (old new : Current) (rest : List PlainStep) (ts : List PlainTerm) where
    pub asserts : (ids : List NodeId) (us : List PlainTerm) → StandFor nodes ids us → new.ids.items ≡ old.ids.items ++ ids → new.counts ≡ old.counts → LeadsTo nodes old (AssertStep us ∷ rest) ts → LeadsTo nodes new rest ts
    asserts ids us stand more same h = record {
      now = h.now ++ us;
      below = h.below;
      stand = subst (λ (l : List NodeId). StandFor nodes l (h.now ++ us)) (sym more) (stand_behind old.ids.items ids h.now us h.stand stand);
      levels = subst (λ (v : List ℕ). AreBelow nodes new.ids.items (reverse v) h.below) (ap (λ v. v.items) (sym same)) (subst (λ (l : List NodeId). AreBelow nodes l (reverse old.counts.items) h.below) (sym more) (below_stays old.ids.items ids (reverse old.counts.items) h.below h.levels));
      leads = h.leads;
    }

    pub pushes : (k : ℕ) → k ≡ length old.ids.items → new.ids ≡ old.ids → new.counts.items ≡ old.counts.items ++ k ∷ [] → LeadsTo nodes old (PushStep ∷ rest) ts → LeadsTo nodes new rest ts
    pushes k all same more h =
        let ids : old.ids.items ≡ new.ids.items = ap (λ v. v.items) (sym same) in
        let whole : take k old.ids.items ≡ old.ids.items = ap (λ n. take n old.ids.items) all ∙ take-length old.ids.items in
        let counts : reverse new.counts.items ≡ k ∷ reverse old.counts.items = ap reverse more ∙ reverse-append old.counts.items (k ∷ []) in
        record {
          now = h.now;
          below = h.now ∷ h.below;
          stand = subst (λ (l : List NodeId). StandFor nodes l h.now) ids h.stand;
          levels =
              subst (λ (l : List NodeId). AreBelow nodes l (reverse new.counts.items) (h.now ∷ h.below)) ids
              (subst (λ (ks : List ℕ). AreBelow nodes old.ids.items ks (h.now ∷ h.below)) (sym counts)
              (omega (arith, all), subst (λ (l : List NodeId). StandFor nodes l h.now) (sym whole) h.stand, subst (λ (l : List NodeId). AreBelow nodes l (reverse old.counts.items) h.below) (sym whole) h.levels));
          leads = h.leads;
        }

    pub pops : (k : ℕ) → old.counts.items ≡ new.counts.items ++ k ∷ [] → new.ids.items ≡ take k old.ids.items → LeadsTo nodes old (PopStep ∷ rest) ts → LeadsTo nodes new rest ts
    pops k less cut h = by h.below (subst (λ (ks : List ℕ). AreBelow nodes old.ids.items ks h.below) (ap reverse less ∙ reverse-append new.counts.items (k ∷ [])) h.levels) h.leads
      where
        by : (below : List (List PlainTerm)) → AreBelow nodes old.ids.items (k ∷ reverse new.counts.items) below → current_behind h.now below (PopStep ∷ rest) ≡ ts → LeadsTo nodes new rest ts
        by [] levels leads = absurd levels
        by (us ∷ below) levels leads = record {
          now = us;
          below = below;
          stand = subst (λ (l : List NodeId). StandFor nodes l us) (sym cut) levels.1;
          levels = subst (λ (l : List NodeId). AreBelow nodes l (reverse new.counts.items) below) (sym cut) levels.2;
          leads = leads;
        }

    pub pops_nothing : old.counts.items ≡ [] → new ≡ old → LeadsTo nodes old (PopStep ∷ rest) ts → LeadsTo nodes new rest ts
    pops_nothing none same h = subst (λ (c : Current). LeadsTo nodes c rest ts) (sym same) (by h.below (subst (λ (ks : List ℕ). AreBelow nodes old.ids.items ks h.below) (ap reverse none) h.levels) h.leads)
      where
        by : (below : List (List PlainTerm)) → AreBelow nodes old.ids.items [] below → current_behind h.now below (PopStep ∷ rest) ≡ ts → LeadsTo nodes old rest ts
        by [] levels leads = record { now = h.now; below = []; stand = h.stand; levels = subst (λ (ks : List ℕ). AreBelow nodes old.ids.items ks []) (ap reverse (sym none)) tt; leads = leads }
        by (us ∷ below) levels leads = absurd levels

    pub checks : new ≡ old → LeadsTo nodes old (CheckStep ∷ rest) ts → LeadsTo nodes new rest ts
    checks same h = subst (λ (c : Current). LeadsTo nodes c rest ts) (sym same) (record { now = h.now; below = h.below; stand = h.stand; levels = h.levels; leads = h.leads })

-- all steps are behind
pub arrived : (nodes : Interner) (c : Current) (ts : List PlainTerm) → LeadsTo nodes c [] ts → StandFor nodes c.ids.items ts
arrived nodes c ts h = subst (StandFor nodes c.ids.items) h.leads h.stand

module _ (nodes : Interner) (steps : List NumberedStep) (k : ℕ) (step : NumberedStep) (within : k < length steps) (is : step ≡ get_or steps k step) where
  -- each step stands where all do
  pub one_stands : IsTrue (all_steps_stand nodes steps) → IsTrue (step_stands nodes step)
  one_stands all = by (step_stands nodes step) refl
    where
      by : (b : Bool) → step_stands nodes step ≡ b → b ≡ true
      by true e = refl
      by false e = absurd (false≢true (sym (list_all_at (step_stands nodes) steps k step within (ap (step_stands nodes) (sym is) ∙ e)) ∙ all))

  -- the steps that are ahead, of which this is the first
  pub steps_ahead : steps_by nodes (drop k steps) ≡ step_by nodes step ∷ steps_by nodes (drop (k + 1) steps)
  steps_ahead = ap (steps_by nodes) (drop-cons steps k step within) ∙ ap (λ s. step_by nodes s ∷ steps_by nodes (drop (suc k) steps)) (sym is) ∙ ap (λ n. step_by nodes step ∷ steps_by nodes (drop n steps)) (sym (add-one k))
