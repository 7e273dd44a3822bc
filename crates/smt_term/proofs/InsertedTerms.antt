-- A set's `insert`, and what stands in its order, seen by the plain form.
use Rattle.std.proofs.Common.{◌≡◌, ℕ, ◌+◌, ◌<◌, List, [], ◌∷◌, map, drop, length, get_or, refl, ap, ◌∙◌, arith}
use Rattle.std.proofs.lemmas.Grind.{common_steps}
use Rattle.std.specs.BTreeSet.{insert_key}
use Rattle.std.specs.Ordering.{match_ordering}
use Rattle.std.specs.declared.cmp.Ordering.{Ordering}
use Rattle.std.specs.declared.cmp.Ordering.TheVariants.{Less, Equal, Greater}
use Rattle.law_terms.specs.Plain.{PlainTerm}
use Rattle.law_terms.specs.TermOrder.{term_cmp}
use Rattle.smt_term.specs.View.{plain_term}
use Rattle.smt_term.specs.declared.term.Term.{Term}
use Rattle.smt_term.proofs.DerivedOrder.{derived_term_cmp, term_cmp-is}
use Rattle.law_terms.proofs.SortedSets.{put_all}

placed : (o : Ordering) (a b c : List Term) → map plain_term (match_ordering o a b c) ≡ match_ordering o (map plain_term a) (map plain_term b) (map plain_term c)
placed Less a b c = refl
placed Equal a b c = refl
placed Greater a b c = refl

insert_term : (ts : List Term) (t : Term) → map plain_term (insert_key derived_term_cmp ts t) ≡ insert_key term_cmp (map plain_term ts) (plain_term t)
insert_term [] t = refl
insert_term (x ∷ xs) t =
    placed (derived_term_cmp t x) (t ∷ x ∷ xs) (x ∷ xs) (x ∷ insert_key derived_term_cmp xs t) ∙ (ap (λ o. match_ordering o (plain_term t ∷ plain_term x ∷ map plain_term xs) (plain_term x ∷ map plain_term xs) (plain_term x ∷ map plain_term (insert_key derived_term_cmp xs t))) (term_cmp-is t x) ∙ ap (λ l. match_ordering (term_cmp (plain_term t) (plain_term x)) (plain_term t ∷ plain_term x ∷ map plain_term xs) (plain_term x ∷ map plain_term xs) (plain_term x ∷ l)) (insert_term xs t))

-- one turn of the loop that puts terms into a set
pub put_step : (found found' items : List Term) (t : Term) (i : ℕ) (x : Term) (all : List PlainTerm)
    → i < length items → x ≡ get_or items i x → plain_term t ≡ plain_term x → found' ≡ insert_key derived_term_cmp found t
    → put_all (map plain_term found) (map plain_term (drop i items)) ≡ all → put_all (map plain_term found') (map plain_term (drop (i + 1) items)) ≡ all
put_step found found' items t i x all lt at same made before =
    let rest : drop i items ≡ x ∷ drop (i + 1) items = grind (arith, common_steps) in
    let here : put_all (map plain_term found) (plain_term x ∷ map plain_term (drop (i + 1) items)) ≡ all = rw rest at before in
    rw (made, insert_term, same) here
