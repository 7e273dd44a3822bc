-- The disjunction of what a call answers at each of several terms.
use Rattle.std.proofs.Common.{◌≡◌, ℕ, ◌+◌, ◌<◌, ◌≤◌, List, [], ◌∷◌, map, drop, length, get_or, refl, ap, ◌∙◌, sym, subst}
use Rattle.std.specs.Prelude.{Result, Ok}
use Rattle.std.specs.List.{AllZip}
use Rattle.std.proofs.lemmas.List.{at_drop_more, at_drop_all}
use Rattle.smt_factory_core.specs.AnyOf.{IsAnswer, IsAnyOf, GivesRefinements}
use Rattle.law_folding.specs.Builder.{applied, folding}
use Rattle.law_folding.specs.Composites.{any_of, any_of_from}
use Rattle.law_folding.specs.FoldConnectives.{folded_or}
use Rattle.law_folding.specs.Refinement.{Refines}
use Rattle.law_folding.proofs.CompositesStand.{stands_any}
use Rattle.law_terms.specs.Plain.{PlainTerm}
use Rattle.smt_term.specs.View.{plain_term}
use Rattle.smt_term.specs.declared.error.TermError.{TermError}
use Rattle.smt_term.specs.declared.term.Term.{Term}

module _ (answers : Term → Result Term TermError → Type 0) where
  -- whatever the terms that are left give, all give what comes to the same
  abbrev pub Leads : (ts left : List Term) → PlainTerm → Type 0
  Leads ts left any = (us : List PlainTerm) → AllZip (IsAnswer answers) (map plain_term left) us
      → (all : List PlainTerm) × AllZip (IsAnswer answers) (map plain_term ts) all × (any_of_from folding any us ≡ any_of folding all)

  pub leads_first : (ts : List Term) (any : PlainTerm) → any ≡ any_of folding [] → Leads ts ts any
  leads_first ts any e us z = (us, z, ap (λ x. any_of_from folding x us) e)

  pub leads_on : (ts : List Term) (i : ℕ) (any next : PlainTerm) (t x u : Term) → i < length ts → t ≡ get_or ts i t → plain_term x ≡ plain_term t → answers x (Ok u)
      → next ≡ folded_or (plain_term u) any → Leads ts (drop i ts) any → Leads ts (drop (i + 1) ts) next
  leads_on ts i any next t x u l is same gives e h us z =
      let d : drop i ts ≡ t ∷ drop (i + 1) ts = at_drop_more (λ (w : List Term). w) ts i t l ∙ ap (λ w. w ∷ drop (i + 1) ts) (sym is) in
      let P : List Term → Type 0 = λ w. AllZip (IsAnswer answers) (map plain_term w) (plain_term u ∷ us) in
      let k : (all : List PlainTerm) × AllZip (IsAnswer answers) (map plain_term ts) all × (any_of_from folding any (plain_term u ∷ us) ≡ any_of folding all) =
      h (plain_term u ∷ us) (subst P (sym d) (record { argument = x; answer = u; asked = same; gives = gives; said = refl }, z)) in
      (k.0, k.1, ap (λ w. any_of_from folding w us) e ∙ k.2)

  pub leads_last : (ts : List Term) (i : ℕ) (any : PlainTerm) → length ts ≤ i → Leads ts (drop i ts) any → IsAnyOf answers (map plain_term ts) any
  leads_last ts i any l h =
      let d : drop i ts ≡ [] = at_drop_all (λ (w : List Term). w) ts i l in
      let P : List Term → Type 0 = λ w. AllZip (IsAnswer answers) (map plain_term w) [] in
      let k : (all : List PlainTerm) × AllZip (IsAnswer answers) (map plain_term ts) all × (any_of_from folding any [] ≡ any_of folding all) = h [] (subst P (sym d) tt) in
      record { given = k.0; each = k.1; folded = k.2 }

  each_folded : (f : PlainTerm → PlainTerm) → ((t u : Term) → answers t (Ok u) → plain_term u ≡ f (plain_term t)) → (ts us : List PlainTerm) → AllZip (IsAnswer answers) ts us → us ≡ map f ts
  each_folded f g [] [] z = refl
  each_folded f g [] (u ∷ us) z = elim z [ ]
  each_folded f g (t ∷ ts) [] z = elim z [ ]
  each_folded f g (t ∷ ts) (u ∷ us) z =
      let p : u ≡ f t = sym z.0.said ∙ (g z.0.argument z.0.answer z.0.gives ∙ ap f z.0.asked) in
      let q : us ≡ map f ts = each_folded f g ts us z.1 in
      λ i. p i ∷ q i

  -- where the call folds by a function of plain terms
  pub any_folded : (f : PlainTerm → PlainTerm) (ts : List PlainTerm) (r : PlainTerm) → ((t u : Term) → answers t (Ok u) → plain_term u ≡ f (plain_term t)) → IsAnyOf answers ts r → r ≡ any_of folding (map f ts)
  any_folded f ts r g h = h.folded ∙ ap (any_of folding) (each_folded f g ts h.given h.each)

  each_stands : (original : PlainTerm → PlainTerm) → GivesRefinements answers original → (ts us : List PlainTerm) → AllZip (IsAnswer answers) ts us → AllZip Refines us (map original ts)
  each_stands original g [] [] z = tt
  each_stands original g [] (u ∷ us) z = elim z [ ]
  each_stands original g (t ∷ ts) [] z = elim z [ ]
  each_stands original g (t ∷ ts) (u ∷ us) z =
      let s : Refines (plain_term z.0.answer) (original (plain_term z.0.argument)) = g z.0.argument z.0.answer z.0.gives in
      let P : PlainTerm → Type 0 = λ x. Refines x (original t) in
      let Q : PlainTerm → Type 0 = λ x. Refines (plain_term z.0.answer) (original x) in
      (subst P z.0.said (subst Q z.0.asked s), each_stands original g ts us z.1)

  pub any_stands : (original : PlainTerm → PlainTerm) (ts : List PlainTerm) (r : PlainTerm) → GivesRefinements answers original → IsAnyOf answers ts r → Refines r (any_of applied (map original ts))
  any_stands original ts r g h =
      let P : PlainTerm → Type 0 = λ x. Refines x (any_of applied (map original ts)) in
      subst P (sym h.folded) (stands_any h.given (map original ts) (each_stands original g ts h.given h.each))
