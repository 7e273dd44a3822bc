-- That generated terms are conditions.
use Rattle.std.proofs.Common.{sym, append-nil, ◌≡◌, ℕ, zero, suc, ◌<◌, ◌^◌, List, [], ◌∷◌, map, refl, ap, ◌∙◌, arith, None}
use Rattle.std.specs.List.{AllByRecursion}
use Rattle.law_terms.specs.Faults.{first_fault, term_fault}
use Rattle.law_terms.specs.Formed.{IsFormed, IsFormedType}
use Rattle.law_terms.specs.Plain.{BoolType, PlainTerm, PlainType}
use Rattle.law_terms.specs.Typing.{Typed}
use Rattle.law_terms.proofs.Defaults.{all-join}
use Rattle.law_folding.specs.Built.{built}
use Rattle.law_jobs.specs.Jobs.{PlainJob}
use Rattle.law_jobs.specs.Steps.{asserted}
use Rattle.smt_cli.specs.Jobs.{job_generated, job_of_terms}
use Rattle.smt_cli.specs.Generated.{AreBuiltConditions, GeneratedTermsAreConditions, comparison, long_type, generated_terms, next_number, number_after}

-- a number behind another has 64 bits
below : (n : ℕ) → next_number n < 2 ^ 64
below n = omega arith

-- what holds of one term
record IsCondition (t : PlainTerm) : Type 0 where
  boolean : Typed t BoolType
  formed : IsFormed t
  faultless : term_fault [] t ≡ None
  as_built : built t ≡ t

long_formed : IsFormedType long_type
long_formed = ((omega arith, omega arith), tt)

truth_formed : IsFormedType BoolType
truth_formed = (tt, tt)

condition : (k n : ℕ) → n < 2 ^ 64 → IsCondition (comparison k n)
condition k n h = record {
  boolean = record { parts = refl; type = refl };
  formed = record { literals = (tt, (tt, (tt, (h, (tt, tt))))); types = (long_formed, (long_formed, (long_formed, (long_formed, (truth_formed, tt))))) };
  faultless = refl;
  as_built = refl;
}

all_conditions : (seed count : ℕ) → AllByRecursion IsCondition (generated_terms seed count)
all_conditions seed zero = tt
all_conditions seed (suc k) = all-join IsCondition (generated_terms seed k) _ (all_conditions seed k) (condition k (number_after seed (suc k)) (below (number_after seed k)), tt)

together : (ts : List PlainTerm) → AllByRecursion IsCondition ts → AreBuiltConditions ts
together [] h = record { conditions = record { are_typed = tt; are_formed = tt; have_no_fault = refl }; as_built = refl }
together (t ∷ ts) h =
    let others = together ts h.1 in
    record {
      conditions = record {
        are_typed = (h.0.boolean, others.conditions.are_typed);
        are_formed = (h.0.formed, others.conditions.are_formed);
        have_no_fault = rw h.0.faultless others.conditions.have_no_fault;
      };
      as_built = ap (λ u. u ∷ map built ts) h.0.as_built ∙ ap (λ us. t ∷ us) others.as_built;
    }

pub generated_conditions : GeneratedTermsAreConditions
generated_conditions seed count = together (generated_terms seed count) (all_conditions seed count)

-- the terms of a generated job have no fault
pub terms_faultless : (variables : List (List ℕ × PlainType)) (ts : List PlainTerm) (seed count : ℕ) → job_of_terms variables ts ≡ job_generated seed count → first_fault [] ts ≡ None
terms_faultless variables ts seed count e =
    ap (first_fault []) (sym (append-nil ts)) ∙ ap (λ (j : PlainJob). first_fault j.enums (asserted j.steps)) e ∙ ap (first_fault []) (append-nil (generated_terms seed count)) ∙ (generated_conditions seed count).conditions.have_no_fault
