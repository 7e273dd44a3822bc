-- Clauses of statements by their literals.
use Rattle.std.proofs.Common.{◌≡◌, ◌+◌, ◌*◌, ℕ, Bool, true, false, ◌||◌, List, [], ◌∷◌, ◌++◌, ap, refl, sym, ◌∙◌, subst}
use Rattle.std.specs.Prelude.{cond, map}
use Rattle.std.specs.List.{AllByRecursion, list_any}
use Rattle.law_clauses.specs.Clauses.{Truths, Solves, clause_truth, literal_truth, opposite}
use Rattle.law_clauses.proofs.Gated.{both, truth-no, truth-yes}
use Rattle.law_terms.specs.Interpretations.{IsInterpretation}
use Rattle.law_terms.specs.Meaning.{AreTrue, meaning}
use Rattle.law_terms.specs.Operators.{truth}
use Rattle.law_terms.specs.Plain.{PlainTerm}
use Rattle.law_terms.specs.Tables.{Interpretation}
use Rattle.law_terms.specs.Typing.{typed}
use Rattle.law_terms.specs.TypeValues.{Enums}
use Rattle.law_terms.specs.Values.{BoolValue}
use Rattle.law_clauses.specs.Sequents.{Follows, Hold, IsValid, Numbered, RefutedByValidClauses, literals, stated, ◌⊢◌}
use Rattle.law_clauses.specs.Statements.{Atom, TruthOf, atom_truth}

pub or_one : (a : Bool) → a ≡ true → (a || false) ≡ true
or_one true e = refl
or_one false e = e

pub or_behind : (a b : Bool) → b ≡ true → (a || b) ≡ true
or_behind true b e = refl
or_behind false b e = e

module _ (atom : ℕ → Atom) (I : Interpretation) where
  -- what the interpretation gives the numbers
  abbrev given : Truths
  given k = atom_truth I (atom k)

  -- a clause is true where one of its conclusions is, or not each of its premises
  conclusions_true : (cs : List ℕ) → list_any (atom_truth I) (map atom cs) ≡ true → clause_truth given (map (λ k. 2 * k) cs) ≡ true
  conclusions_true [] h = h
  conclusions_true (k ∷ cs) h = by (given k) refl (λ g. conclusions_true cs g)
    where
      by : (t : Bool) → given k ≡ t → (list_any (atom_truth I) (map atom cs) ≡ true → clause_truth given (map (λ m. 2 * m) cs) ≡ true) → clause_truth given (map (λ m. 2 * m) (k ∷ cs)) ≡ true
      by true e later = ap (λ t. t || clause_truth given (map (λ m. 2 * m) cs)) (truth-yes given k ∙ e)
      by false e later = or_behind (literal_truth given (2 * k)) (clause_truth given (map (λ m. 2 * m) cs)) (later (sym (ap (λ t. t || list_any (atom_truth I) (map atom cs)) e) ∙ h))

  clause_true : (ps cs : List ℕ) → Follows I (map atom ps ⊢ map atom cs) → clause_truth given (map (λ k. 2 * k + 1) ps ++ map (λ k. 2 * k) cs) ≡ true
  clause_true [] cs f = conclusions_true cs (f tt)
  clause_true (k ∷ ps) cs f = by (given k) refl (λ g. clause_true ps cs g)
    where
      by : (t : Bool) → given k ≡ t → (Follows I (map atom ps ⊢ map atom cs) → clause_truth given (map (λ m. 2 * m + 1) ps ++ map (λ m. 2 * m) cs) ≡ true) → clause_truth given (map (λ m. 2 * m + 1) (k ∷ ps) ++ map (λ m. 2 * m) cs) ≡ true
      by true e later = or_behind (literal_truth given (2 * k + 1)) (clause_truth given (map (λ m. 2 * m + 1) ps ++ map (λ m. 2 * m) cs)) (later (λ h. f (e, h)))
      by false e later = ap (λ t. t || clause_truth given (map (λ m. 2 * m + 1) ps ++ map (λ m. 2 * m) cs)) (truth-no given k ∙ ap opposite e)

  clauses_true : (enums : Enums) (ts : List PlainTerm) (cs : List Numbered) → IsInterpretation enums ts I → AllByRecursion (λ c. IsValid enums ts (stated atom c)) cs → Solves given (map literals cs)
  clauses_true enums ts [] g h = tt
  clauses_true enums ts (c ∷ cs) g h = (clause_true c.premises c.conclusions (h.0 I g), clauses_true enums ts cs g h.1)

  -- the value of a term that is true is the same typed or not
  true_meaning : (t : PlainTerm) (b : Bool) → cond b (meaning I t) (BoolValue false) ≡ BoolValue true → truth (meaning I t) ≡ true
  true_meaning t true e = ap truth e
  true_meaning t false e = absurd (let f : false ≡ true = ap truth e in cc)

  roots_hold : (ts : List PlainTerm) → AreTrue I ts → Hold I (map TruthOf ts)
  roots_hold [] h = tt
  roots_hold (t ∷ ts) h = (true_meaning t (typed t) h.0, roots_hold ts h.1)

  roots_true : (ks : List ℕ) → Hold I (map atom ks) → Solves given (map (λ k. 2 * k ∷ []) ks)
  roots_true [] h = tt
  roots_true (k ∷ ks) h = (or_one (literal_truth given (2 * k)) (truth-yes given k ∙ h.0), roots_true ks h.1)

pub refuted : RefutedByValidClauses
refuted enums roots atom cs numbers r I g h =
    r.unsolved (given atom I) (both (given atom I) (map literals cs) (map (λ k. 2 * k ∷ []) numbers)
    (clauses_true atom I enums roots cs g r.valid)
    (roots_true atom I numbers (subst (Hold I) (sym r.roots_numbered) (roots_hold atom I roots h))))
