-- What the nodes of terms tell of them.
use Rattle.std.proofs.Common.{◌≡◌, ℕ, ◌≤◌, Bool, true, false, not, List, [], ◌∷◌, Option, Some, length, nat_eq, slice_index_or, refl, sym, ap, ◌∙◌, subst, arith}
use Rattle.std.specs.Cmp.{unsigned_Decides}
use Rattle.std.specs.Prelude.{IfSome, option_map}
use Rattle.std.proofs.lemmas.Bool.{false≢true}
use Rattle.law_folding.specs.FoldConnectives.{is_negation}
use Rattle.law_terms.specs.Meanings.{all_found, found, meanings}
use Rattle.law_terms.specs.Nodes.{Meaning, TermMeaning}
use Rattle.law_terms.specs.Parts.{parts_in}
use Rattle.law_terms.specs.Plain.{NotOp, PlainTerm, Application, no_terms, one_term}
use Rattle.law_terms.specs.TermOrder.{term_eq}
use Rattle.law_terms.proofs.Distinct.{places_differ}
use Rattle.law_terms.proofs.Places.{map_back, then_back}
use Rattle.law_terms.proofs.TermTotal.{terms_decided}
use Rattle.smt_jobs.specs.Labels.{is_negation as is_any_negation}
use Rattle.smt_nodes.specs.Interned.{meaning_in, nodes_of}
use Rattle.smt_nodes.specs.View.{place_of, places_of}
use Rattle.smt_nodes.specs.declared.id.NodeId.{NodeId}
use Rattle.smt_nodes.specs.declared.interner.Interner.{Interner}

pub false_by : (b : Bool) → (b ≡ true → ⊥) → b ≡ false
false_by true h = absurd (h refl)
false_by false h = refl

-- numbers that are not the same stand for different terms
pub terms_differ : (i : Interner) (a b : NodeId) (t u : PlainTerm) → nat_eq (place_of a) (place_of b) ≡ false → meaning_in i a ≡ Some (TermMeaning t) → meaning_in i b ≡ Some (TermMeaning u) → term_eq t u ≡ false
terms_differ i a b t u apart h k = false_by (term_eq t u) (λ e. (
    let same : place_of a ≡ place_of b = places_differ (nodes_of i) i.graph (place_of a) (place_of b) (TermMeaning t) h (k ∙ ap (λ v. Some (TermMeaning v)) (sym ((terms_decided t u).0 e))) in
    false≢true (sym apart ∙ (unsigned_Decides (place_of a) (place_of b)).1 same)
    ))

pub turned : (m n : ℕ) (b : Bool) → nat_eq m n ≡ b → b ≡ false → nat_eq n m ≡ false
turned m n b e h = false_by (nat_eq n m) (λ k. false≢true (sym (e ∙ h) ∙ (unsigned_Decides m n).1 (sym ((unsigned_Decides n m).0 k))))

-- the second of two parts
second : (ms : List (Option Meaning)) (ids : List NodeId) (d : NodeId) (m n : Meaning) → 2 ≤ length ids → all_found ms (places_of ids) ≡ Some (m ∷ n ∷ []) → found ms (place_of (slice_index_or ids 1 d)) ≡ Some n
second ms [] d m n l h = absurd (omega (arith, l))
second ms (a ∷ []) d m n l h = absurd (omega (arith, l))
second ms (a ∷ b ∷ ids) d m n l h =
    let (p, e, f) = then_back (λ p. option_map (λ rest. p ∷ rest) (all_found ms (places_of (b ∷ ids)))) (found ms (place_of a)) (m ∷ n ∷ []) h in
    let (rest, g, k) = map_back (λ rest. p ∷ rest) (all_found ms (places_of (b ∷ ids))) (m ∷ n ∷ []) f in
    let (q, o, r) = then_back (λ p. option_map (λ rest. p ∷ rest) (all_found ms (places_of ids))) (found ms (place_of b)) rest g in
    let (last, s, v) = map_back (λ rest. q ∷ rest) (all_found ms (places_of ids)) rest r in
    let same : q ∷ last ≡ n ∷ [] = (let whole : p ∷ rest ≡ m ∷ n ∷ [] = k in v ∙ cc) in
    o ∙ (let first : q ≡ n = cc in ap Some first)

-- the second term is no negation of the first, where its operand has another number
pub not_negated : (i : Interner) (a b : NodeId) (ids : List NodeId) (d : NodeId) (r : Bool) → 2 ≤ length ids → r ≡ nat_eq (place_of (slice_index_or ids 1 d)) (place_of a) → IfSome (meaning_in i b) (λ m. all_found (meanings (nodes_of i)) (places_of ids) ≡ Some (parts_in m))
    → (t u : PlainTerm) → meaning_in i a ≡ Some (TermMeaning t) → meaning_in i b ≡ Some (TermMeaning u) → r ≡ false → is_negation t u ≡ false
not_negated i a b ids d r l e parts t (Application NotOp (one_term v no_terms) ty) h k off =
    let its = subst (λ (o : Option Meaning). IfSome o (λ m. all_found (meanings (nodes_of i)) (places_of ids) ≡ Some (parts_in m))) k parts in
    let inner : meaning_in i (slice_index_or ids 1 d) ≡ Some (TermMeaning v) = second (meanings (nodes_of i)) ids d _ (TermMeaning v) l its in
    terms_differ i a (slice_index_or ids 1 d) t v (turned (place_of (slice_index_or ids 1 d)) (place_of a) r (sym e) off) h inner
not_negated i a b ids d r l e parts t (Application NotOp no_terms ty) h k off = refl
not_negated i a b ids d r l e parts t (Application NotOp (one_term v (one_term w vs)) ty) h k off = refl
not_negated i a b ids d r l e parts t u h k off = refl

-- where no negation is seen
pub no_negation : (t u : PlainTerm) → is_any_negation u ≡ false → is_negation t u ≡ false
no_negation t (Application NotOp ts ty) n = absurd (false≢true (sym n))
no_negation t u n = refl
