-- The tables of actions by the types of ancestors, which stand in order.
use Rattle.std.proofs.Common.{◌≡◌, ℕ, List, [], ◌∷◌, Some, None, map, refl, ap, ◌∙◌}
use Rattle.std.proofs.lemmas.Cmp.{nat_list_cmp_total}
use Rattle.std.specs.Map.{keys_of}
use Rattle.smt_values.specs.Plain.{PlainAction}
use Rattle.smt_term.specs.SortedPairs.{sorted_pairs}
use Rattle.smt_term.specs.TextSets.{sorted_texts}
use Rattle.law_terms.proofs.Sorted.{ascends-sorted}
use Rattle.law_terms.specs.Plain.{PlainType, PlainTerm}
use Rattle.law_terms.specs.ValueOrder.{ascends, text_cmp}
use Rattle.law_cedar.specs.Symbolized.{action_data, action_ids, action_types, actions_of, no_attributes_table}
use Rattle.smt_symbolizer.specs.Stored.{action_table, data_of_actions}
use Rattle.smt_term.proofs.InOrder.{pairs_in_order}

keyed : {X : Type 0} (f : List ℕ → X) (ks : List (List ℕ)) → keys_of (map (λ k. (k, f k)) ks) ≡ ks
keyed f [] = refl
keyed f (k ∷ ks) = ap (λ l. k ∷ l) (keyed f ks)

-- values by texts in order are in order
keyed_in_order : {X : Type 0} (f : List ℕ → X) (texts : List (List ℕ)) → sorted_pairs text_cmp (map (λ k. (k, f k)) (sorted_texts texts)) ≡ map (λ k. (k, f k)) (sorted_texts texts)
keyed_in_order f texts =
    pairs_in_order text_cmp (map (λ k. (k, f k)) (sorted_texts texts)) (ap (ascends text_cmp) (keyed f (sorted_texts texts)) ∙ ascends-sorted text_cmp nat_list_cmp_total texts)

-- a value by its text
abbrev row : {X : Type 0} → (List ℕ → X) → List ℕ → List ℕ × X
row f k = (k, f k)

module _ (default : PlainType → PlainTerm) (actions : List PlainAction) where
  of_type : (type : List ℕ) → data_of_actions default type (action_types actions) (actions_of type actions) ≡ action_data default actions type
  of_type type =
      ap
      (λ tables. record { attributes = no_attributes_table default type; ancestors = tables; members = Some (action_ids actions type); tags = None })
      (keyed_in_order (λ kind. action_table default type kind (actions_of type actions)) (map (λ action. action.uid.0) actions))

  of_types : (types : List (List ℕ)) → map (row (λ type. data_of_actions default type (action_types actions) (actions_of type actions))) types ≡ map (row (λ type. action_data default actions type)) types
  of_types [] = refl
  of_types (type ∷ types) = λ i. (type, of_type type i) ∷ of_types types i

  -- what is said of the types of actions, by the list of these
  pub data_of_kinds : (kinds : List (List ℕ)) → kinds ≡ action_types actions
      → map (row (λ type. data_of_actions default type kinds (actions_of type actions))) kinds ≡ map (row (λ type. action_data default actions type)) (action_types actions)
  data_of_kinds kinds are = ap (λ ks. map (row (λ type. data_of_actions default type ks (actions_of type actions))) ks) are ∙ of_types (action_types actions)
