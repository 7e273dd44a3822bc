-- The elements of sets: values and terms in order are those of the list, and the terms of a set ascend.
use Rattle.std.proofs.Common.{◌≡◌, true, List, [], ◌∷◌, refl, sym, subst, arith}
use Rattle.std.proofs.lemmas.List.Elements.{Contains-append_cases, Contains-append_left, Contains-append_right, Contains-push, Contains-push_cases}
use Rattle.std.specs.BTreeSet.{insert_key}
use Rattle.std.specs.List.{AllByRecursion}
use Rattle.std.specs.Prelude.{◌⊎◌, Contains}
use mathlib.Core.Logic.{inl, inr, ⊎_elim}
use Rattle.law_terms.specs.Plain.{PlainTerm}
use Rattle.law_terms.specs.TermOrder.{term_cmp}
use Rattle.law_terms.specs.TermSets.{SortedTermsAscend, sorted_terms}
use Rattle.law_terms.specs.ValueOrder.{value_cmp, ascends, sorted_values}
use Rattle.law_terms.specs.Values.{Value}
use Rattle.law_terms.proofs.SameTerm.{term_same}
use Rattle.law_terms.proofs.Sorted as sorted
use Rattle.law_terms.proofs.Sorted.{IsIn}
use Rattle.law_terms.proofs.TermTotal.{terms_total}
use Rattle.law_terms.proofs.ValueOrder.{value_same}

pub in-sorted : (z : Value) (vs : List Value) → IsIn z vs → IsIn z (sorted_values vs)
in-sorted = sorted.in-sorted value_cmp value_same

pub out-sorted : (z : Value) (vs : List Value) → IsIn z (sorted_values vs) → IsIn z vs
out-sorted = sorted.out-sorted value_cmp

pub in-terms : (z : PlainTerm) (ts : List PlainTerm) → IsIn z ts → IsIn z (sorted_terms ts)
in-terms = sorted.in-sorted term_cmp term_same

pub out-terms : (z : PlainTerm) (ts : List PlainTerm) → IsIn z (sorted_terms ts) → IsIn z ts
out-terms = sorted.out-sorted term_cmp

pub terms-ascend : (ts : List PlainTerm) → ascends term_cmp (sorted_terms ts) ≡ true
terms-ascend = sorted.ascends-sorted term_cmp terms_total

pub all-terms : (P : PlainTerm → Type 0) (ts : List PlainTerm) → AllByRecursion P ts → AllByRecursion P (sorted_terms ts)
all-terms P = sorted.all-sorted term_cmp P

-- terms that ascend and have the elements of a list are its terms in order
pub one-set : (xs ts : List PlainTerm) → ascends term_cmp xs ≡ true → ((z : PlainTerm) → IsIn z xs → IsIn z ts) → ((z : PlainTerm) → IsIn z ts → IsIn z xs) → xs ≡ sorted_terms ts
one-set xs ts h f g =
    sorted.one_list term_cmp terms_total xs (sorted_terms ts) h (terms-ascend ts) (λ z m. in-terms z ts (f z m)) (λ z m. g z (out-terms z ts m))

-- the terms with each of a list put in its place
abbrev pub put_all : List PlainTerm → List PlainTerm → List PlainTerm
put_all so_far [] = so_far
put_all so_far (t ∷ ts) = put_all (insert_key term_cmp so_far t) ts

put-ascends : (xs ts : List PlainTerm) → ascends term_cmp xs ≡ true → ascends term_cmp (put_all xs ts) ≡ true
put-ascends xs [] h = h
put-ascends xs (t ∷ ts) h = put-ascends (insert_key term_cmp xs t) ts (sorted.ascends-inserted term_cmp terms_total t xs h)

put-out : (z : PlainTerm) (xs ts : List PlainTerm) → IsIn z (put_all xs ts) → IsIn z xs ⊎ IsIn z ts
put-out z xs [] m = inl m
put-out z xs (t ∷ ts) m =
    ⊎_elim (λ k. ⊎_elim (λ e. inr (inl e)) (λ n. inl n) (sorted.out-inserted term_cmp t z xs k)) (λ k. inr (inr k)) (put-out z (insert_key term_cmp xs t) ts m)

put-in : (z : PlainTerm) (xs ts : List PlainTerm) → IsIn z xs ⊎ IsIn z ts → IsIn z (put_all xs ts)
put-in z xs [] m = ⊎_elim (λ k. k) (λ k. absurd k) m
put-in z xs (t ∷ ts) m =
    put-in z (insert_key term_cmp xs t) ts (⊎_elim (λ k. inl (sorted.in-inserted term_cmp term_same t z xs (inr k))) (λ k. ⊎_elim (λ e. inl (sorted.in-inserted term_cmp term_same t z xs (inl e))) (λ n. inr n) k) m)

-- the terms of a list, put in their places one by one, are its terms in order
pub put-sorted : (ts : List PlainTerm) → put_all [] ts ≡ sorted_terms ts
put-sorted ts =
    one-set (put_all [] ts) ts (put-ascends [] ts refl) (λ z m. ⊎_elim (λ k. absurd k) (λ k. k) (put-out z [] ts m)) (λ z m. put-in z [] ts (inr m))

contained : (z : PlainTerm) (ts : List PlainTerm) → IsIn z ts → Contains ts z
contained z [] m = absurd m
contained z (t ∷ ts) m =
    ⊎_elim (λ e. subst (λ u. Contains (t ∷ ts) u) (sym e) (Contains-append_left (t ∷ []) ts t (Contains-push [] t))) (λ n. Contains-append_right (t ∷ []) ts z (contained z ts n)) m

nowhere : (z : PlainTerm) → Contains [] z → ⊥
nowhere z m = omega (arith, m.1)

is-in : (z : PlainTerm) (ts : List PlainTerm) → Contains ts z → IsIn z ts
is-in z [] m = absurd (nowhere z m)
is-in z (t ∷ ts) m =
    ⊎_elim (λ a. ⊎_elim (λ n. absurd (nowhere z n)) (λ e. inl (sym e)) (Contains-push_cases [] t z a)) (λ b. inr (is-in z ts b)) (Contains-append_cases (t ∷ []) ts z m)

pub sorted_terms_ascend : SortedTermsAscend
sorted_terms_ascend ts =
    (terms-ascend ts, λ t. (λ m. contained t ts (out-terms t ts (is-in t (sorted_terms ts) m)), λ m. contained t (sorted_terms ts) (in-terms t ts (is-in t ts m))))
