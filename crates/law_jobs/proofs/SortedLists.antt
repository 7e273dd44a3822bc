-- Lists in order, through views that keep the order; and sets and records as they are built.
use Rattle.std.proofs.Common.{◌≡◌, ℕ, List, [], ◌∷◌, map, refl, sym, ap, ◌∙◌}
use Rattle.std.specs.BTreeSet.{insert_key}
use Rattle.std.specs.List.{zip}
use Rattle.std.specs.Ordering.{match_ordering}
use Rattle.std.specs.declared.cmp.Ordering.{Ordering}
use Rattle.std.specs.declared.cmp.Ordering.TheVariants.{Less, Equal, Greater}
use mathlib.Core.Logic.{inl, inr, ⊎_elim}
use Rattle.law_terms.specs.Plain.{PlainType, PlainTerm, RecordTerm, SetTerm, one_field, terms, record_fields}
use Rattle.law_terms.specs.TermSets.{set_term, sorted_terms}
use Rattle.law_terms.specs.ValueOrder.{sorted, text_cmp}
use Rattle.law_terms.proofs.Sorted.{IsIn}
use Rattle.law_terms.proofs.SortedSets.{in-terms, one-set, out-terms, terms-ascend}
use Rattle.law_folding.specs.Built.{built, built_all, built_fields}
use Rattle.law_folding.specs.FoldRecords.{record_of_pairs, sorted_fields}

module _ {A B : Type 0} (cmp : A → A → Ordering) (other : B → B → Ordering) (f : A → B) (same : (x y : A) → other (f x) (f y) ≡ cmp x y) where
  chosen : (r : Ordering) (k x : A) (xs : List A) → insert_key other (map f xs) (f k) ≡ map f (insert_key cmp xs k)
      → match_ordering r (f k ∷ f x ∷ map f xs) (f x ∷ map f xs) (f x ∷ insert_key other (map f xs) (f k)) ≡ map f (match_ordering r (k ∷ x ∷ xs) (x ∷ xs) (x ∷ insert_key cmp xs k))
  chosen Less k x xs h = refl
  chosen Equal k x xs h = refl
  chosen Greater k x xs h = ap (λ l. f x ∷ l) h

  inserted : (xs : List A) (k : A) → insert_key other (map f xs) (f k) ≡ map f (insert_key cmp xs k)
  inserted [] k = refl
  inserted (x ∷ xs) k =
      ap (λ r. match_ordering r (f k ∷ f x ∷ map f xs) (f x ∷ map f xs) (f x ∷ insert_key other (map f xs) (f k))) (same k x)
      ∙ chosen (cmp k x) k x xs (inserted xs k)

  pub sorted_mapped : (xs : List A) → sorted other (map f xs) ≡ map f (sorted cmp xs)
  sorted_mapped [] = refl
  sorted_mapped (x ∷ xs) = ap (λ l. insert_key other l (f x)) (sorted_mapped xs) ∙ inserted (sorted cmp xs) x

-- ---- sets

in_mapped : (z : PlainTerm) (ts us : List PlainTerm) → ((t : PlainTerm) → IsIn t ts → IsIn t us) → IsIn z (map built ts) → IsIn z (map built us)
in_mapped z [] us h m = absurd m
in_mapped z (t ∷ ts) us h m = ⊎_elim (λ e. at us t (h t (inl refl)) e) (λ n. in_mapped z ts us (λ u k. h u (inr k)) n) m
  where
    at : (vs : List PlainTerm) (u : PlainTerm) → IsIn u vs → z ≡ built u → IsIn z (map built vs)
    at [] u k e = absurd k
    at (v ∷ vs) u k e = ⊎_elim (λ d. inl (e ∙ ap built d)) (λ n. inr (at vs u n e)) k

all_listed : (ts : List PlainTerm) → built_all (terms ts) ≡ map built ts
all_listed [] = refl
all_listed (t ∷ ts) = ap (λ us. built t ∷ us) (all_listed ts)

-- a set is built of its elements in any order
pub set_built : (ty : PlainType) (ts : List PlainTerm) → built (set_term ty ts) ≡ set_term ty (map built ts)
set_built ty ts =
    ap (set_term ty) (all_listed (sorted_terms ts))
    ∙ ap (λ us. SetTerm ty (terms us)) (one-set (sorted_terms (map built (sorted_terms ts))) (map built ts) (terms-ascend (map built (sorted_terms ts)))
    (λ z m. in_mapped z (sorted_terms ts) ts (λ t k. out-terms t ts k) (out-terms z (map built (sorted_terms ts)) m))
    (λ z m. in-terms z (map built (sorted_terms ts)) (in_mapped z ts (sorted_terms ts) (λ t k. in-terms t ts k) m)))

-- ---- records

abbrev pub built_field : List ℕ × PlainTerm → List ℕ × PlainTerm
built_field p = (p.0, built p.1)

fields_built : (ps : List (List ℕ × PlainTerm)) → built_fields (record_fields ps) ≡ record_fields (map built_field ps)
fields_built [] = refl
fields_built (p ∷ ps) = ap (one_field p.0 (built p.1)) (fields_built ps)

zip_mapped : (names : List (List ℕ)) (ts : List PlainTerm) → map built_field (zip names ts) ≡ zip names (map built ts)
zip_mapped [] ts = refl
zip_mapped (n ∷ names) [] = refl
zip_mapped (n ∷ names) (t ∷ ts) = ap (λ ps. (n, built t) ∷ ps) (zip_mapped names ts)

-- a record is built of its fields in any order
pub record_built : (names : List (List ℕ)) (ts : List PlainTerm) → built (record_of_pairs (zip names ts)) ≡ record_of_pairs (zip names (map built ts))
record_built names ts =
    ap RecordTerm (fields_built (sorted_fields (zip names ts))
    ∙ ap record_fields (sym (sorted_mapped (λ p q. text_cmp p.0 q.0) (λ p q. text_cmp p.0 q.0) built_field (λ x y. refl) (zip names ts)) ∙ ap sorted_fields (zip_mapped names ts)))
